-- `step_parts::build_index` meets its contract. The invariant: the clauses before t are in the index, and clause t starts at `at`.
use mathlib.Core.Path.{◌≡◌}
use Prim.Native.Nat.{◌≤◌, ◌-◌}
use lib.ListN.{length, get_or}
use Rattle.table.specs.Places.{start_of}
use Rattle.step_parts.specs.Parts.{Indexed}
use Rattle.step_parts.proofs.linking.build_index.Given as goal

abbrev pub invariant-loop-t : goal.invariant-loop-t
invariant-loop-t l = (l.t ≤ get_or l.words 1 0) × ((l.t-end ≡ get_or l.words 1 0) × ((l.at ≡ start_of l.words l.t) × ((length l.index ≡ length l.initial.index) × Indexed l.words l.index l.t l.at)))

abbrev pub decreases-loop-t : goal.decreases-loop-t
decreases-loop-t l = l.t-end - l.t
