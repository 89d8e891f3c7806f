-- `Kept::next` meets its contract. The invariant: the words passed were not kept.
use mathlib.Core.Path.{◌≡◌}
use lib.ListN.{length}
use Rattle.table.specs.Slices.{kept_of}
use Rattle.step_parts.proofs.atoms.KeptIterator.next.Given as goal

abbrev pub invariant-loop-word : goal.invariant-loop-word
invariant-loop-word l = kept_of l.self.words.now l.self.marks.now ≡ kept_of l.initial.self.words.now l.initial.self.marks.now

abbrev pub decreases-loop-word : goal.decreases-loop-word
decreases-loop-word l = length l.self.words.now
