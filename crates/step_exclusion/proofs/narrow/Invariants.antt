-- `step_exclusion::narrow` meets its contract. The invariant: the clauses before t are sorted out.
use mathlib.Core.Path.{◌≡◌}
use Prim.Native.Nat.{◌≤◌, ◌-◌}
use lib.ListN.{length}
use Rattle.step_parts.specs.Reading.{clause_count, words_of, marks_of}
use Rattle.step_exclusion.proofs.Sets.{Narrowing}
use Rattle.step_exclusion.proofs.narrow.Given as goal

abbrev pub invariant-loop-t : goal.invariant-loop-t
invariant-loop-t l = (l.t-end ≡ clause_count l.program.table) × (l.t ≤ l.t-end) × (length l.only ≡ length l.initial.only) × Narrowing (words_of l.program) (marks_of l.program) l.t l.only

abbrev pub decreases-loop-t : goal.decreases-loop-t
decreases-loop-t l = l.t-end - l.t
