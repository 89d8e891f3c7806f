-- `step_lists::take_steps` meets its contract. The invariant: what is left from here, on the marks as they are, is the whole from the start.
use Prim.Native.Nat.{◌/◌}
use lib.ListN.{length}
use Rattle.step_lists.proofs.Walks.{Stepping}
use Rattle.step_lists.proofs.take_steps.Given as goal

abbrev pub invariant-loop-k : goal.invariant-loop-k
invariant-loop-k l = Stepping l.table.words.now l.initial.marks l.marks l.list l.memory (length l.list / 4) l.k
