-- `step_exclusion::clear_part` meets its contract. The invariant: what is left to clear gives what the whole gives.
use mathlib.Core.Path.{◌≡◌}
use Prim.Native.Nat.{◌≤◌, ◌-◌}
use lib.ListN.{length}
use Rattle.table.specs.Clearing.{clear_part}
use Rattle.step_exclusion.proofs.clear_part.Given as goal

abbrev pub invariant-loop-i : goal.invariant-loop-i
invariant-loop-i l = (l.from ≤ l.i) × ((l.i ≤ l.end) × ((length l.marks ≡ length l.initial.marks) × (clear_part l.words l.atom l.i (l.end - l.i) l.marks ≡ clear_part l.words l.atom l.from (l.end - l.from) l.initial.marks)))

abbrev pub decreases-loop-i : goal.decreases-loop-i
decreases-loop-i l = l.end - l.i
