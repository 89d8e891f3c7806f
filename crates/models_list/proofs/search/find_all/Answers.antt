-- `models_list::search::find_all` meets its contract.
use native.Mathlib.Omega.{arith}
use borrow.Author.Rules.{rules}
use Rattle.table.proofs.Encoding.{passed_limits}
use Rattle.models_list.proofs.Finding.{finding_start, finding_end, tried}
use Rattle.models_list.proofs.search.find_all.Goals as goal

pub bounds-words-0 : goal.bounds-words-0
bounds-words-0 c = omega (arith, (passed_limits _ c.requires.searchable.listable.passed).long)

pub loop-x-init : goal.loop-x-init
loop-x-init c = rw c.requires.none (finding_start c.args.words.now)

pub loop-x-preserved-then-not-is_stable : goal.loop-x-preserved-then-not-is_stable
loop-x-preserved-then-not-is_stable c = (tried _ _ _ c.requires.searchable _ _ c.loop-x.invariant _ c.all_sets-end.ensures c.loop-x-test.true _ c.is_stable.ensures).aside c.if-not-is_stable.true

pub push-requires : goal.push-requires
push-requires c = (search rules, (tried _ _ _ c.requires.searchable _ _ c.loop-x.invariant _ c.all_sets-end.ensures c.loop-x-test.true _ c.is_stable.ensures).room c.if-not-is_stable.false)

pub loop-x-preserved : goal.loop-x-preserved
loop-x-preserved c = rw c.push.ensures ((tried _ _ _ c.requires.searchable _ _ c.loop-x.invariant _ c.all_sets-end.ensures c.loop-x-test.true _ c.is_stable.ensures).one c.if-not-is_stable.false)

pub returns : goal.returns
returns c = finding_end _ _ _ c.loop-x.invariant (omega (arith, c.loop-x.auto.x-end, c.loop-x-test.false, c.all_sets-end.ensures))
