-- `AtomSet::join_part` meets its contract. The invariant: the atoms passed have joined.
use Rattle.table.specs.Slices.{kept_of}
use Rattle.step_parts.specs.Parts.{part_of}
use Rattle.step_parts.specs.Reading.{clause_of}
use Rattle.step_reach.specs.Growing.{IsSameSet}
use Rattle.step_reach.proofs.Queue.{Joining}
use Rattle.step_reach.proofs.set.AtomSet.join_part.Given as goal

abbrev pub invariant-loop-atom : goal.invariant-loop-atom
invariant-loop-atom l =
    let s = l.initial.self in
    goal.iterator-loop-atom.can_next l.atom-iterator
    × goal.iterator-loop-atom.is_finite l.atom-iterator
    × IsSameSet s l.self
    × Joining (part_of l.fn.part (clause_of l.program l.t)) (kept_of l.atom-iterator.words.now l.atom-iterator.marks.now) s.bytes.now s.queue.now s.top l.self.bytes.now l.self.queue.now l.self.top
