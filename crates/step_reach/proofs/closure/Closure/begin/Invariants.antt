-- `Closure::begin` meets its contract. The invariant: the clauses before t are counted.
use mathlib.Core.Path.{◌≡◌}
use Prim.Native.Nat.{◌≤◌, ◌-◌}
use Rattle.step_parts.specs.Reading.{clause_count}
use Rattle.step_reach.specs.Growing.{HasRoom, HasSpread, IsSameClosure, Leaves}
use Rattle.step_reach.proofs.closure.Closure.begin.Given as goal

abbrev pub invariant-loop-t : goal.invariant-loop-t
invariant-loop-t l = record {
  end : l.t-end ≡ clause_count l.program.table;
  within : l.t ≤ l.t-end;
  same : IsSameClosure l.initial.self l.self;
  room : HasRoom l.program l.self;
  spread : HasSpread l.program l.initial.self l.self;
  counted : Leaves l.program l.t 0 l.self;
}

abbrev pub decreases-loop-t : goal.decreases-loop-t
decreases-loop-t l = l.t-end - l.t
