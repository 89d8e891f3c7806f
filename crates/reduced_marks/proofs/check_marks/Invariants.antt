-- The two words in front, then clause by clause. The invariant: the walk from here on is the walk from the start.
use Prim.Native.Nat.{◌-◌}
use mathlib.Core.Path.{◌≡◌}
use lib.ListN.{length}
use Rattle.table.specs.Places.{start_of}
use Rattle.reduced_marks.specs.Allowed.{allowed, marks_from}
use Rattle.reduced_marks.proofs.check_marks.Given as goal

abbrev pub invariant-loop-k : goal.invariant-loop-k
invariant-loop-k l = record {
  place : l.at ≡ start_of l.words l.k;
  walk : marks_from (allowed l.words l.marks) l.at (length l.words - l.at) ≡ marks_from (allowed l.words l.marks) 0 (length l.words);
}
