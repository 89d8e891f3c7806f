-- `step_conditions::count_heads` meets its contract. The invariant: the heads of the clauses before t are counted.
use Prim.Native.Nat.{◌≤◌, ◌-◌}
use mathlib.Core.Path.{◌≡◌}
use lib.ListN.{length, get_or}
use Rattle.table.specs.View.{view}
use Rattle.step_conditions.proofs.Heads.{Counting}
use Rattle.step_conditions.proofs.count_heads.Given as goal

abbrev pub invariant-loop-t : goal.invariant-loop-t
invariant-loop-t l = (l.t-end ≡ get_or l.program.table.words.now 1 0) × ((l.t ≤ l.t-end) × ((length l.heads ≡ length l.initial.heads) × Counting (view l.program.table.words.now l.program.marks.now) (get_or l.program.table.words.now 0 0) l.heads l.t))

abbrev pub decreases-loop-t : goal.decreases-loop-t
decreases-loop-t l = l.t-end - l.t
