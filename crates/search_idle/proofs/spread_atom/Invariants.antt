-- `search_idle::spread_atom` meets its contract. The invariant: the clauses at the places passed are met.
use Rattle.step_parts.specs.Reading.{program_of}
use Rattle.step_parts.proofs.Walk.{Walked}
use Rattle.step_reach.specs.Bytes.{in_bytes}
use Rattle.search_idle.specs.Forgets.{GoesOn, Met}
use Rattle.search_idle.proofs.spread_atom.Given as goal

abbrev pub invariant-loop-i : goal.invariant-loop-i
invariant-loop-i l =
    goal.iterator-loop-i.can_next l.i-iterator
    × goal.iterator-loop-i.is_finite l.i-iterator
    × GoesOn l.initial.set l.initial.idle l.set l.idle
    × Walked l.program.table l.fn.part l.fn.atom (Met (program_of l.program) (in_bytes l.set.bytes.now) l.idle) l.i-iterator
