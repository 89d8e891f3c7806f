-- `step_parts::link_part` meets its contract. The invariant: the places passed are linked.
use mathlib.Core.Path.{◌≡◌}
use Prim.Native.Nat.{◌≤◌, ◌-◌}
use lib.ListN.{length}
use Rattle.step_parts.specs.Parts.{span_of, Indexed}
use Rattle.step_parts.proofs.linking.link_part.Given as goal

abbrev pub invariant-loop-i : goal.invariant-loop-i
invariant-loop-i l = ((span_of l.words l.at l.part).from ≤ l.i) × ((l.i ≤ (span_of l.words l.at l.part).end) × ((l.i-end ≡ (span_of l.words l.at l.part).end) × ((length l.index ≡ length l.initial.index) × Indexed l.words l.index l.t l.i)))

abbrev pub decreases-loop-i : goal.decreases-loop-i
decreases-loop-i l = l.i-end - l.i
