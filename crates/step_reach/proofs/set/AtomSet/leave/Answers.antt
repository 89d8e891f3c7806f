-- `AtomSet::leave` meets its contract.
use native.Mathlib.Omega.{arith}
use Prim.Native.Nat.{◌-◌}
use Rattle.step_reach.proofs.Queue.{queued_few, last_one, queued_byte, queued_less}
use Rattle.step_reach.proofs.set.AtomSet.leave.Goals as goal

pub offset_bounds-self-last : goal.offset_bounds-self-last
offset_bounds-self-last c = omega (arith, queued_few c.args.self.now.queued)

pub bounds-self-last : goal.bounds-self-last
bounds-self-last c = omega (arith, queued_few c.args.self.now.queued, c.args.self.now.queued.room)

pub bounds-self-from : goal.bounds-self-from
bounds-self-from c = let s = c.args.self.now in omega (arith, c.from.ensures, queued_byte s.bytes.now s.queue.now (s.top - 1) (last_one c.requires s.queued))

pub invariant_of-self : goal.invariant_of-self
invariant_of-self c = let s = c.args.self.now in record { queued = rw c.from.ensures (queued_less s.bytes.now s.queue.now (s.top - 1) (last_one c.requires s.queued)) }
