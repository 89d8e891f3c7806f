-- `stamp`: the stamps so far, with what is left of the part, are those of the whole.
use Rattle.std.proofs.Common.{◌≡◌}
use Rattle.table.specs.Slices.{kept_of}
use Rattle.step_parts.specs.Parts.{part_of}
use Rattle.step_parts.specs.Reading.{clause_of}
use Rattle.search_partners.specs.Stamps.{offset_of, stamped}
use Rattle.search_partners.proofs.Stamped.stamp.Given as goal

abbrev pub invariant-loop-atom : goal.invariant-loop-atom
invariant-loop-atom l =
    goal.iterator-loop-atom.can_next l.atom-iterator
    × goal.iterator-loop-atom.is_finite l.atom-iterator
    × (stamped l.self (offset_of l.part) (kept_of l.atom-iterator.words.now l.atom-iterator.marks.now) ≡ stamped l.initial.self (offset_of l.part) (part_of l.part (clause_of l.program l.t)))
