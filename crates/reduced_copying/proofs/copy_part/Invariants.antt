-- The words whose mark is 1 are copied. The invariant: the words to come, written from here on, give what all of them give from the start.
use Rattle.std.specs.Iterator.Adapters.{zip_first, zip_second}
use Rattle.std.specs.Slice.Iter.{iter_rest}
use Rattle.reduced_copying.proofs.Copying.{Copying}
use Rattle.reduced_copying.proofs.copy_part.Given as goal

abbrev pub invariant-loop-word : goal.invariant-loop-word
invariant-loop-word l = Copying l.words l.marks l.initial.out l.to l.out l.n (iter_rest (zip_first l.word-iterator)) (iter_rest (zip_second l.word-iterator))
