-- `open_head`: the atoms passed are done.
use Rattle.table.specs.Slices.{kept_of}
use Rattle.step_parts.specs.Reading.{clause_of}
use Rattle.search_openings.proofs.Opens.{Opening}
use Rattle.search_openings.proofs.open_head.Given as goal

abbrev pub invariant-loop-atom : goal.invariant-loop-atom
invariant-loop-atom l =
    goal.iterator-loop-atom.can_next l.atom-iterator
    × goal.iterator-loop-atom.is_finite l.atom-iterator
    × Opening l.initial.flags l.flags (clause_of l.program l.t).head (kept_of l.atom-iterator.words.now l.atom-iterator.marks.now)
