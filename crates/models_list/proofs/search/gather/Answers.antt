-- `models_list::search::gather` meets its contract.
use mathlib.Core.Path.{◌≡◌, sym, ap, ◌∙◌}
use native.Mathlib.Omega.{arith}
use borrow.Author.Rules.{rules}
use Rattle.semantics.specs.Lists.{bit}
use Rattle.semantics.proofs.Tests.{bit_bound}
use Rattle.models_list.proofs.Gathering.{gathering_start, gathering_next, gathering_end, gathering_lost}
use Rattle.models_list.proofs.search.gather.Goals as goal

pub loop-clause-init : goal.loop-clause-init
loop-clause-init c = gathering_start _ _ _

pub returns-then-not-holds : goal.returns-then-not-holds
returns-then-not-holds c = gathering_lost _ _ _ _ _ c.loop-clause.invariant _ c.loop-clause-test.true (sym c.holds.ensures ∙ c.if-not-holds.true)

pub bounds-rules-count : goal.bounds-rules-count
bounds-rules-count c = omega (arith, c.loop-clause.invariant.most, c.loop-clause.auto.rules, c.requires, c.loop-clause-test.true)

pub overflow_add-count : goal.overflow_add-count
overflow_add-count c = let e : c.from-count.result ≡ bit c.enters.result = search rules in omega (arith, c.loop-clause.invariant.most, c.loop-clause-test.true, e, bit_bound c.enters.result)

pub loop-clause-preserved : goal.loop-clause-preserved
loop-clause-preserved c =
    let e : c.from-count.result ≡ bit c.enters.result = search rules in
    gathering_next _ _ _ _ _ c.loop-clause.invariant _ c.loop-clause-test.true
    (omega (arith, c.loop-clause.invariant.most, c.loop-clause.auto.rules, c.requires, c.loop-clause-test.true))
    (sym c.holds.ensures ∙ c.if-not-holds.false) _ (e ∙ ap bit c.enters.ensures)

pub returns : goal.returns
returns c = gathering_end _ _ _ _ _ c.loop-clause.invariant (search rules) (omega (arith, c.loop-clause.invariant.most, c.loop-clause.auto.rules, c.requires, c.loop-clause-test.false))
