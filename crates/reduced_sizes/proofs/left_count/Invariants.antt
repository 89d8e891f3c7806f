-- The clauses kept are counted by the marks of their first words. The invariant: the count so far and that to come are the whole.
use Prim.Native.Nat.{◌-◌, ◌+◌}
use mathlib.Core.Path.{◌≡◌}
use lib.ListN.{length, get_or}
use Rattle.rewriting.specs.Marked.{left}
use Rattle.table.specs.Places.{start_of}
use Rattle.table.specs.View.{entries_from, view}
use Rattle.reduced_sizes.proofs.left_count.Given as goal

abbrev pub invariant-loop-k : goal.invariant-loop-k
invariant-loop-k l = record {
  place : l.at ≡ start_of l.words l.k;
  sum : l.count + length (left (entries_from l.words l.marks (get_or l.words 1 0 - l.k) l.at)) ≡ length (left (view l.words l.marks));
}
