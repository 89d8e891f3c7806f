-- `models_masks::mask_of` meets its contract.
use Prim.Native.Nat.{◌≤◌}
use mathlib.Core.Path.{◌≡◌}
use lib.ListN.{length, drop}
use Rattle.semantics.specs.Programs.{among}
use Rattle.models_masks.specs.Masks.{mask_of}
use Rattle.models_masks.proofs.mask_of.Given as goal

abbrev pub invariant-loop-i : goal.invariant-loop-i
invariant-loop-i l = (l.i ≤ length l.set) × (l.mask ≡ mask_of (drop l.i l.set) (among l.part))

abbrev pub decreases-loop-i : goal.decreases-loop-i
decreases-loop-i l = l.i
