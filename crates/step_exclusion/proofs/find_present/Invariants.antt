-- `step_exclusion::find_present` meets its contract. The invariant: the atoms of the kept clauses before t are in the set.
use mathlib.Core.Path.{◌≡◌}
use Prim.Native.Nat.{◌≤◌, ◌-◌}
use lib.ListN.{length}
use Rattle.step_parts.specs.Reading.{atom_count, clause_count, words_of, marks_of}
use Rattle.step_reach.specs.Growing.{IsSameSet}
use Rattle.step_exclusion.proofs.Sets.{Seen}
use Rattle.step_exclusion.proofs.find_present.Given as goal

abbrev pub invariant-loop-t : goal.invariant-loop-t
invariant-loop-t l = record {
  end : l.t-end ≡ clause_count l.program.table;
  within : l.t ≤ l.t-end;
  same : IsSameSet l.initial.present l.present;
  room : atom_count l.program.table ≤ length l.present.bytes.now;
  seen : Seen (words_of l.program) (marks_of l.program) l.t l.present.bytes.now;
}

abbrev pub decreases-loop-t : goal.decreases-loop-t
decreases-loop-t l = l.t-end - l.t
