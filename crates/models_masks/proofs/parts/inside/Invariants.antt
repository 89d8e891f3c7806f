-- `models_masks::parts::inside` meets its contract.
use Prim.Native.Nat.{◌-◌, ◌≤◌}
use mathlib.Core.Path.{◌≡◌}
use lib.ListN.{length, drop}
use Rattle.semantics.specs.Lists.{all, mem}
use Rattle.models_masks.proofs.parts.inside.Given as goal

abbrev pub invariant-loop-i : goal.invariant-loop-i
invariant-loop-i l = (l.i-end ≡ length l.part) × ((l.i ≤ length l.part) × (all (λ x. mem x l.set) (drop l.i l.part) ≡ all (λ x. mem x l.set) l.part))

abbrev pub decreases-loop-i : goal.decreases-loop-i
decreases-loop-i l = length l.part - l.i
