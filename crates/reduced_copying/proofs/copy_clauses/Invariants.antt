-- Clause by clause. The invariant: the words to come, written from here on, give what all of them give from the start.
use Prim.Native.Nat.{◌-◌, ◌+◌}
use mathlib.Core.Path.{◌≡◌}
use lib.ListN.{length, get_or}
use lib.Seq.{sets}
use Rattle.rewriting.specs.Marked.{left}
use Rattle.table.specs.Encoding.{clauses_words}
use Rattle.table.specs.Places.{start_of}
use Rattle.table.specs.View.{entries_from, view}
use Rattle.reduced_sizes.specs.Leaves.{reduced}
use Rattle.reduced_copying.proofs.copy_clauses.Given as goal

abbrev pub invariant-loop-k : goal.invariant-loop-k
invariant-loop-k l = record {
  place : l.at ≡ start_of l.words l.k;
  room : l.to + length (clauses_words (left (entries_from l.words l.marks (get_or l.words 1 0 - l.k) l.at))) ≡ length (reduced l.words l.marks);
  written : sets l.out l.to (clauses_words (left (entries_from l.words l.marks (get_or l.words 1 0 - l.k) l.at))) ≡ sets l.initial.out 2 (clauses_words (left (view l.words l.marks)));
}
