-- `Closure::begin` meets its contract.
use native.Mathlib.Omega.{arith}
use mathlib.Core.Path.{◌≡◌, refl, subst}
use Rattle.step_parts.specs.Reading.{clause_count}
use Rattle.step_reach.specs.Growing.{Leaves}
use Rattle.step_reach.proofs.Queue.{spread_none, spread_trans}
use Rattle.step_reach.proofs.Counts.{same_trans}
use Rattle.step_reach.proofs.closure.Closure.begin.Goals as goal

pub loop-t-init : goal.loop-t-init
loop-t-init c = record {
  end = c.clause_count-t-end.ensures;
  within = omega arith;
  same = (refl, refl, refl);
  room = c.requires.room;
  spread = spread_none _ _ _ _ c.requires.counted.queued;
  counted = c.requires.counted;
}

pub loop-t-preserved : goal.loop-t-preserved
loop-t-preserved c = record {
  end = c.loop-t.invariant.end;
  within = omega arith;
  same = same_trans c.loop-t.invariant.same c.enter.ensures.same_reference;
  room = c.enter.ensures.room;
  spread = spread_trans c.loop-t.invariant.spread c.enter.ensures.spread;
  counted = c.enter.ensures.counted;
}

pub returns-clause-counted : goal.returns-clause-counted
returns-clause-counted c = subst (λ m. Leaves c.args.program.now m 0 c.loop-t.self) (let e : c.loop-t.t ≡ clause_count c.args.program.now.table = omega (arith, c.loop-t.invariant.end) in e) c.loop-t.invariant.counted
