-- `search_exclusion::by_atoms` meets its contract. The invariant: the best pair is a step, and no step with an atom before `atom`, or with a consequence of such an atom, is smaller; and the closure of the facts is as it was.
use mathlib.Core.Path.{◌≡◌}
use Prim.Native.Nat.{◌-◌, ◌<◌, ◌≤◌}
use lib.ListN.{length}
use Rattle.std.specs.Prelude.{IfSome}
use Rattle.step_parts.specs.Reading.{atom_count, clause_count, program_of}
use Rattle.step_reach.specs.Bytes.{in_bytes}
use Rattle.step_reach.specs.Growing.{HasRoom, IsSettled, taken}
use Rattle.search_exclusion.specs.Tries.{best_of}
use Rattle.search_exclusion.proofs.Tries.{Tried}
use Rattle.search_exclusion.proofs.by_atoms.Given as goal

abbrev pub invariant-loop-atom : goal.invariant-loop-atom
invariant-loop-atom l =
    let m = clause_count l.program.table in
    (l.atom-end ≡ atom_count l.program.table)
    × (l.atom ≤ l.atom-end)
    × (length l.todo ≡ 1024)
    × IfSome l.best (λ pair. pair.target < m)
    × Tried (atom_count l.program.table) (program_of l.program) l.atom (best_of m l.best) (in_bytes l.todo)
    × HasRoom l.definite l.closure
    × IsSettled l.definite l.closure
    × (taken l.closure ≡ taken l.initial.closure)

abbrev pub decreases-loop-atom : goal.decreases-loop-atom
decreases-loop-atom l = l.atom-end - l.atom
