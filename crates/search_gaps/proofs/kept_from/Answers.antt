-- `kept_from`: the clauses passed are gone.
use mathlib.Core.Path.{◌≡◌, sym, subst, ◌∙◌}
use mathlib.Core.Logic.{by_cases}
use mathlib.Core.Bool.{So}
use native.Mathlib.Omega.{arith}
use native.Mathlib.Decide.{dec_lt}
use Rattle.semantics.proofs.Tests.{not_so}
use Rattle.rewriting.specs.Marked.{entry}
use Rattle.table.specs.View.{view}
use Rattle.search_gaps.proofs.kept_from.Goals as goal

pub loop-i-init : goal.loop-i-init
loop-i-init c = λ j a b. absurd (omega arith)

pub returns-then-kept : goal.returns-then-kept
returns-then-kept c = record { within = omega (arith, c.loop-i-test.true); gone = c.loop-i.invariant }

pub loop-i-preserved : goal.loop-i-preserved
loop-i-preserved c = λ j a b. by_cases (dec_lt j c.loop-i.i) (λ x. c.loop-i.invariant j a x)
    (λ x k. not_so (sym c.kept.ensures ∙ c.if-kept.false) (subst (λ i. So (entry (view c.args.program.now.table.words.now c.args.program.now.marks.now) i).kept) (let e : j ≡ c.loop-i.i = omega arith in e) k))

pub returns : goal.returns
returns c = record { within = omega arith; gone = λ j a b. c.loop-i.invariant j a (omega (arith, c.loop-i-test.false)) }
