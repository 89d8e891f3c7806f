-- `open_clauses`: the clauses at the places passed are flagged.
use Rattle.step_parts.specs.Reading.{program_of}
use Rattle.step_parts.proofs.Walk.{Walked}
use Rattle.search_openings.specs.Opened.{Opened}
use Rattle.search_removal.specs.Removed.{OpenAt}
use Rattle.search_removal.proofs.open_clauses.Given as goal

abbrev pub invariant-loop-i : goal.invariant-loop-i
invariant-loop-i l =
    goal.iterator-loop-i.can_next l.i-iterator
    × goal.iterator-loop-i.is_finite l.i-iterator
    × Opened l.initial.flags l.flags
    × Walked l.program.table l.fn.part l.atom (OpenAt (program_of l.program) l.flags l.fn.part) l.i-iterator
