-- `search_idle::spread` meets its contract. The invariant: the clauses of the first k atoms of the queue are met.
use Prim.Native.Nat.{◌≤◌, ◌-◌}
use Rattle.step_parts.specs.Reading.{program_of}
use Rattle.search_idle.specs.Forgets.{GoesOn}
use Rattle.search_idle.proofs.Forgets.{MetFirst}
use Rattle.search_idle.proofs.spread.Given as goal

abbrev pub invariant-loop-k : goal.invariant-loop-k
invariant-loop-k l = GoesOn l.initial.set l.initial.idle l.set l.idle × (l.k ≤ l.set.top) × MetFirst (program_of l.program) l.set.bytes.now l.set.queue.now l.k l.idle

abbrev pub decreases-loop-k : goal.decreases-loop-k
decreases-loop-k l = 1024 - l.k
