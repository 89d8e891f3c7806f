-- The numbers before are marks.
use Rattle.std.proofs.Common.{◌≡◌, ℕ, ◌<◌, length, get_or}
use Rattle.cases_lines.specs.Signs.{mark_of}
use Rattle.cases_lines.proofs.to_marks.Given as goal

abbrev pub invariant-loop-i : goal.invariant-loop-i
invariant-loop-i l = (length l.marks ≡ length l.initial.marks) × ((k : ℕ) → k < l.i → get_or l.marks k 0 ≡ mark_of (get_or l.rest k 0))
