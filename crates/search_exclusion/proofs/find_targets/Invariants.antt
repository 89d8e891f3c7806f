-- `search_exclusion::find_targets` meets its contract. The invariant: the bytes of the clauses before t are right.
use mathlib.Core.Path.{◌≡◌}
use Prim.Native.Nat.{ℕ, ◌≤◌, ◌<◌, ◌-◌}
use lib.ListN.{length}
use Rattle.step_parts.specs.Reading.{clause_count, program_of}
use Rattle.step_reach.specs.Bytes.{in_bytes}
use Rattle.search_exclusion.proofs.Targets.{can_be}
use Rattle.search_exclusion.proofs.find_targets.Given as goal

abbrev pub invariant-loop-t : goal.invariant-loop-t
invariant-loop-t l = (l.t-end ≡ clause_count l.program.table) × (l.t ≤ l.t-end) × (length l.can ≡ length l.initial.can) × ((u : ℕ) → u < l.t → in_bytes l.can u ≡ can_be (program_of l.program) l.idle u)

abbrev pub decreases-loop-t : goal.decreases-loop-t
decreases-loop-t l = l.t-end - l.t
