-- `Closure::close` meets its contract. The invariant: the first k atoms of the queue are taken.
use Prim.Native.Nat.{◌-◌}
use Rattle.step_parts.specs.Reading.{clause_count}
use Rattle.step_reach.specs.Growing.{HasRoom, HasSpread, IsSameClosure, Leaves}
use Rattle.step_reach.proofs.closure.Closure.close.Given as goal

abbrev pub invariant-loop-k : goal.invariant-loop-k
invariant-loop-k l = record {
  same : IsSameClosure l.initial.self l.self;
  room : HasRoom l.program l.self;
  spread : HasSpread l.program l.initial.self l.self;
  taken : Leaves l.program (clause_count l.program.table) l.k l.self;
}

abbrev pub decreases-loop-k : goal.decreases-loop-k
decreases-loop-k l = 1024 - l.k
