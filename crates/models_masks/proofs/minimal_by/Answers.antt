-- `models_masks::minimal_by` meets its contract.
use mathlib.Core.Path.{sym}
use Rattle.models_masks.proofs.Subsets.{next_less}
use Rattle.models_masks.proofs.Failing.{among_fails, among_more, failed_some, searched_start, searched_next, searched_found, searched_end}
use Rattle.models_masks.proofs.minimal_by.Goals as goal

pub loop-x-init : goal.loop-x-init
loop-x-init c = rw c.clear.ensures (searched_start c.args.rules.now c.args.m)

pub loop-x-smaller-then-not-modelled : goal.loop-x-smaller-then-not-modelled
loop-x-smaller-then-not-modelled c = next_less c.args.m c.loop-x.x c.loop-x-test.true

pub loop-x-preserved-then-not-modelled : goal.loop-x-preserved-then-not-modelled
loop-x-preserved-then-not-modelled c = searched_next _ _ _ _ c.loop-x.invariant (among_fails _ _ c.loop-x.invariant.among _ _ _ c.as_slice.ensures c.modelled.ensures c.if-not-modelled.true) _ c.loop-x.invariant.among

pub returns-in_default : goal.returns-in_default
returns-in_default c = sym (searched_found _ _ _ _ c.loop-x.invariant c.loop-x-test.true c.in_default.ensures)

pub loop-x-smaller-then-is_full : goal.loop-x-smaller-then-is_full
loop-x-smaller-then-is_full c = next_less c.args.m c.loop-x.x c.loop-x-test.true

pub loop-x-preserved-then-is_full : goal.loop-x-preserved-then-is_full
loop-x-preserved-then-is_full c = searched_next _ _ _ _ c.loop-x.invariant (failed_some _ _ _ c.in-Some.ensures) _ c.loop-x.invariant.among

pub loop-x-smaller : goal.loop-x-smaller
loop-x-smaller c = next_less c.args.m c.loop-x.x c.loop-x-test.true

pub loop-x-preserved : goal.loop-x-preserved
loop-x-preserved c = searched_next _ _ _ _ c.loop-x.invariant (failed_some _ _ _ c.in-Some.ensures) _ (rw c.push.ensures (among_more _ _ c.loop-x.invariant.among _ c.in-Some.ensures.one))

pub returns : goal.returns
returns c = sym (searched_end _ _ _ _ c.loop-x.invariant c.loop-x-test.false)
