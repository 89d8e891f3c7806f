-- `search_exclusion::remember` meets its contract. The invariant: the bytes before t are set where they have to be.
use mathlib.Core.Path.{◌≡◌}
use Prim.Native.Nat.{◌≤◌, ◌-◌}
use lib.ListN.{length}
use Rattle.search_exclusion.specs.Tries.{Remembered}
use Rattle.search_exclusion.proofs.remember.Given as goal

abbrev pub invariant-loop-t : goal.invariant-loop-t
invariant-loop-t l = (l.t ≤ l.end) × ((length l.idle ≡ length l.initial.idle) × Remembered l.can l.t l.initial.idle l.idle)

abbrev pub decreases-loop-t : goal.decreases-loop-t
decreases-loop-t l = l.end - l.t
