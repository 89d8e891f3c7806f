-- `Closure::close` meets its contract.
use native.Mathlib.Omega.{arith}
use mathlib.Core.Path.{◌≡◌, refl, subst}
use Rattle.step_parts.specs.Reading.{clause_count}
use Rattle.step_reach.specs.Growing.{Leaves}
use Rattle.step_reach.proofs.Queue.{queued_few, spread_none, spread_trans}
use Rattle.step_reach.proofs.Counts.{same_trans}
use Rattle.step_reach.proofs.closure.Closure.close.Goals as goal

pub loop-k-init : goal.loop-k-init
loop-k-init c = record { same = (refl, refl, refl); room = c.requires.room; spread = spread_none _ _ _ _ c.requires.taken.queued; taken = c.requires.taken }

pub overflow_add-k : goal.overflow_add-k
overflow_add-k c = omega (arith, queued_few c.loop-k.invariant.taken.queued)

pub loop-k-smaller : goal.loop-k-smaller
loop-k-smaller c = omega (arith, queued_few c.loop-k.invariant.taken.queued)

pub loop-k-preserved : goal.loop-k-preserved
loop-k-preserved c = record {
  same = same_trans c.loop-k.invariant.same c.take_atom.ensures.same_reference;
  room = c.take_atom.ensures.room;
  spread = spread_trans c.loop-k.invariant.spread c.take_atom.ensures.spread;
  taken = c.take_atom.ensures.taken;
}

pub returns-clause-taken : goal.returns-clause-taken
returns-clause-taken c = subst (λ k. Leaves c.args.program.now (clause_count c.args.program.now.table) k c.loop-k.self) (let e : c.loop-k.k ≡ c.loop-k.self.top = omega (arith, c.loop-k.invariant.taken.taken) in e) c.loop-k.invariant.taken
