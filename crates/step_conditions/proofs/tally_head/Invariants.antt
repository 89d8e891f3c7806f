-- `step_conditions::tally_head` meets its contract. The invariant: what is left of the head, counted now, gives what the whole gave at first.
use Rattle.table.specs.Slices.{kept_of}
use Rattle.step_parts.specs.Reading.{clause_of}
use Rattle.step_conditions.proofs.Heads.{Tallying}
use Rattle.step_conditions.proofs.tally_head.Given as goal

abbrev pub invariant-loop-atom : goal.invariant-loop-atom
invariant-loop-atom l =
    goal.iterator-loop-atom.can_next l.atom-iterator
    × goal.iterator-loop-atom.is_finite l.atom-iterator
    × Tallying (clause_of l.program l.t).head l.initial.heads l.heads (kept_of l.atom-iterator.words.now l.atom-iterator.marks.now)
