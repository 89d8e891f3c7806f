-- `spread_along`: the places passed are done.
use Rattle.step_parts.proofs.Walk.{Walked}
use Rattle.search_spreads.proofs.Clues.{SpreadAlong}
use Rattle.search_spreads.proofs.spread_along.Given as goal

abbrev pub invariant-loop-i : goal.invariant-loop-i
invariant-loop-i l =
    goal.iterator-loop-i.can_next l.i-iterator
    × goal.iterator-loop-i.is_finite l.i-iterator
    × SpreadAlong l.facts.program.now.table.words.now l.facts.program.now.marks.now l.facts.program.now.table.index.now l.initial.flags l.flags l.key.kind l.key.partner l.key.atom l.fn.part l.a l.i-iterator.at
    × Walked l.facts.program.now.table l.fn.part l.a (λ t. Unit {0}) l.i-iterator
