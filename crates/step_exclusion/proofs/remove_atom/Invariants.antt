-- `step_exclusion::remove_atom` meets its contract. The invariant: clearing what is left gives what clearing all gives.
use mathlib.Core.Path.{◌≡◌}
use Prim.Native.Nat.{◌≤◌, ◌-◌}
use lib.ListN.{length}
use Rattle.table.specs.Places.{start_of}
use Rattle.table.specs.Clearing.{clear_from, marks_without}
use Rattle.step_parts.specs.Reading.{clause_count}
use Rattle.step_exclusion.proofs.remove_atom.Given as goal

abbrev pub invariant-loop-t : goal.invariant-loop-t
invariant-loop-t l =
    let ws = l.table.words.now in
    (l.t-end ≡ clause_count l.table) × (l.t ≤ l.t-end) × (length l.marks ≡ length l.initial.marks) × (clear_from ws l.atom (clause_count l.table - l.t) (start_of ws l.t) l.marks ≡ marks_without ws l.initial.marks l.atom)

abbrev pub decreases-loop-t : goal.decreases-loop-t
decreases-loop-t l = l.t-end - l.t
