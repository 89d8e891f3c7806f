-- `kept_from`: the clauses passed are gone.
use Prim.Native.Nat.{ℕ, ◌-◌, ◌≤◌, ◌<◌}
use mathlib.Core.Bool.{So}
use Rattle.rewriting.specs.Marked.{entry}
use Rattle.table.specs.View.{view}
use Rattle.search_gaps.proofs.kept_from.Given as goal

abbrev pub invariant-loop-i : goal.invariant-loop-i
invariant-loop-i l = (j : ℕ) → l.from ≤ j → j < l.i → ¬ So (entry (view l.program.table.words.now l.program.marks.now) j).kept

abbrev pub decreases-loop-i : goal.decreases-loop-i
decreases-loop-i l = l.e - l.i
