-- `table_questions::check_part` meets its contract. The invariant: questions 6 and 7 from here on are those of the whole part.
use Prim.Native.Nat.{◌≤◌, ◌-◌}
use mathlib.Core.Path.{◌≡◌}
use Rattle.table.specs.Questions.{part_from}
use Rattle.table_questions.proofs.check_part.Given as goal

abbrev pub invariant-loop-i : goal.invariant-loop-i
invariant-loop-i l = (l.at ≤ l.i) × ((l.i ≤ l.end) × (part_from l.words l.atoms l.low l.i (l.end - l.i) ≡ part_from l.words l.atoms 0 l.at (l.end - l.at)))

abbrev pub decreases-loop-i : goal.decreases-loop-i
decreases-loop-i l = l.end - l.i
