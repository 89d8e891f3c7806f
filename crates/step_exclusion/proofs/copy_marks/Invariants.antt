-- `step_exclusion::copy_marks` meets its contract. The invariant: the marks before i are copied.
use mathlib.Core.Path.{◌≡◌}
use Prim.Native.Nat.{ℕ, ◌≤◌, ◌<◌, ◌-◌}
use lib.ListN.{length, get_or}
use Rattle.step_parts.specs.Reading.{words_of, marks_of}
use Rattle.step_exclusion.proofs.copy_marks.Given as goal

abbrev pub invariant-loop-i : goal.invariant-loop-i
invariant-loop-i l = (l.n ≡ length (words_of l.program)) × ((l.i ≤ length (words_of l.program)) × ((length l.only ≡ length l.initial.only) × ((j : ℕ) → j < l.i → get_or l.only j 0 ≡ get_or (marks_of l.program) j 0)))

abbrev pub decreases-loop-i : goal.decreases-loop-i
decreases-loop-i l = l.n - l.i
