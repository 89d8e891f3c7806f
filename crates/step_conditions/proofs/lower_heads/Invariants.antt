-- `step_conditions::lower_heads` meets its contract. The invariant: the counts now, with what the whole head gives, are those at first with what is left of it.
use Rattle.table.specs.Slices.{kept_of}
use Rattle.step_parts.specs.Reading.{clause_of}
use Rattle.step_conditions.proofs.Heads.{Tallying}
use Rattle.step_conditions.proofs.lower_heads.Given as goal

abbrev pub invariant-loop-atom : goal.invariant-loop-atom
invariant-loop-atom l =
    goal.iterator-loop-atom.can_next l.atom-iterator
    × goal.iterator-loop-atom.is_finite l.atom-iterator
    × Tallying (clause_of l.program l.t).head l.heads l.initial.heads (kept_of l.atom-iterator.words.now l.atom-iterator.marks.now)
