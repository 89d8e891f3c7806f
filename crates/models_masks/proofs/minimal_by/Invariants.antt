-- `models_masks::minimal_by` meets its contract.
use Rattle.models_masks.specs.UpTo.{items}
use Rattle.models_masks.proofs.Failing.{Searched}
use Rattle.models_masks.proofs.minimal_by.Given as goal

abbrev pub invariant-loop-x : goal.invariant-loop-x
invariant-loop-x l = Searched l.rules (items l.failed) l.m l.x

abbrev pub decreases-loop-x : goal.decreases-loop-x
decreases-loop-x l = l.x
