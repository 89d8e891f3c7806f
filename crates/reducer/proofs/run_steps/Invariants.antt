-- `run_steps`: what is done so far, with what is left to do, is the whole.
use Prim.Native.Nat.{◌-◌}
use mathlib.Core.Path.{◌≡◌}
use lib.ListN.{length, get_or}
use Rattle.table.specs.View.{view}
use Rattle.search_exclusion.specs.Smallest.{Idle}
use Rattle.search_keys.specs.State.{State}
use Rattle.reducer_results.specs.Reductions.{room}
use Rattle.reducer.proofs.Runs.{Running}
use Rattle.reducer.proofs.run_steps.Given as goal

abbrev pub invariant-loop-step : goal.invariant-loop-step
invariant-loop-step l = ((length l.marks ≡ length l.initial.marks) × ((length l.list ≡ length l.initial.list) × (length l.idle ≡ length l.initial.idle))) × ((State l.table.words.now l.marks l.table.index.now l.memory.heads l.memory.reach l.memory.flags × Idle (get_or l.table.words.now 0 0) (view l.table.words.now l.marks) l.idle) × Running l.table.words.now l.initial.marks l.initial.list l.marks l.list l.s)

abbrev pub decreases-loop-step : goal.decreases-loop-step
decreases-loop-step l = room l.table.words.now - l.s
