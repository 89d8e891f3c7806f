-- `models_masks::parts::meets` meets its contract.
use Prim.Native.Nat.{◌-◌, ◌≤◌}
use mathlib.Core.Path.{◌≡◌}
use lib.ListN.{length, drop}
use Rattle.semantics.specs.Lists.{any, mem}
use Rattle.models_masks.proofs.parts.meets.Given as goal

abbrev pub invariant-loop-i : goal.invariant-loop-i
invariant-loop-i l = (l.i-end ≡ length l.part) × ((l.i ≤ length l.part) × (any (λ x. mem x l.set) (drop l.i l.part) ≡ any (λ x. mem x l.set) l.part))

abbrev pub decreases-loop-i : goal.decreases-loop-i
decreases-loop-i l = length l.part - l.i
