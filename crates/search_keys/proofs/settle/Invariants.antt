-- `settle`: the keys passed are fresh no more, and the state stays.
use Prim.Native.Nat.{◌-◌, ◌≤◌}
use Rattle.search_keys.proofs.States.{Settling}
use Rattle.search_keys.proofs.settle.Given as goal

abbrev pub invariant-loop-x : goal.invariant-loop-x
invariant-loop-x l = (l.end ≤ 2048) × Settling l.facts.program.now.table.words.now l.facts.program.now.marks.now l.facts.program.now.table.index.now l.facts.heads.now l.facts.reach.now l.initial.flags l.flags l.kind l.x l.end

abbrev pub decreases-loop-x : goal.decreases-loop-x
decreases-loop-x l = l.end - l.x
