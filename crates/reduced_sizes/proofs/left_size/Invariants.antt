-- The sizes of the clauses as left are added up. The invariant: the sum so far and the words to come are the whole.
use Prim.Native.Nat.{◌-◌, ◌+◌}
use mathlib.Core.Path.{◌≡◌}
use lib.ListN.{length, get_or}
use Rattle.rewriting.specs.Marked.{left}
use Rattle.table.specs.Encoding.{clauses_words}
use Rattle.table.specs.Places.{start_of}
use Rattle.table.specs.View.{entries_from}
use Rattle.reduced_sizes.specs.Leaves.{reduced}
use Rattle.reduced_sizes.proofs.left_size.Given as goal

abbrev pub invariant-loop-k : goal.invariant-loop-k
invariant-loop-k l = record {
  place : l.at ≡ start_of l.words l.k;
  sum : l.size + length (clauses_words (left (entries_from l.words l.marks (get_or l.words 1 0 - l.k) l.at))) ≡ length (reduced l.words l.marks);
}
