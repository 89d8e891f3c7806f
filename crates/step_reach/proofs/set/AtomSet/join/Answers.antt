-- `AtomSet::join` meets its contract.
use native.Mathlib.Omega.{arith}
use mathlib.Core.Path.{sym}
use Rattle.step_reach.proofs.Queue.{join_room, join_new, join_old, queued_past}
use Rattle.step_reach.proofs.set.AtomSet.join.Goals as goal

pub bounds-self-top : goal.bounds-self-top
bounds-self-top c = let z = c.args.self.now.queued in omega (arith, z.room, join_room _ _ _ _ z c.requires.small c.requires.room (rw (sym c.from-a.ensures) c.if-self-a-eq1.false))

pub offset_bounds-self-top : goal.offset_bounds-self-top
offset_bounds-self-top c = omega (arith, join_room _ _ _ _ c.args.self.now.queued c.requires.small c.requires.room (rw (sym c.from-a.ensures) c.if-self-a-eq1.false))

pub overflow_add-self : goal.overflow_add-self
overflow_add-self c = omega (arith, join_room _ _ _ _ c.args.self.now.queued c.requires.small c.requires.room (rw (sym c.from-a.ensures) c.if-self-a-eq1.false))

pub invariant_of-self : goal.invariant_of-self
invariant_of-self c = record { queued = queued_past _ _ _ _ c.args.self.now.queued }

pub invariant_of-self-2 : goal.invariant_of-self-2
invariant_of-self-2 c = record { queued = rw c.from-a.ensures (join_new _ _ _ _ c.args.self.now.queued c.requires.small c.requires.room (rw (sym c.from-a.ensures) c.if-self-a-eq1.false)).queued }

pub returns-then-self-a-eq1-clause-joined : goal.returns-then-self-a-eq1-clause-joined
returns-then-self-a-eq1-clause-joined c = join_old _ _ _ _ c.args.self.now.queued c.requires.small c.requires.room (rw (sym c.from-a.ensures) c.if-self-a-eq1.true)

pub returns-clause-joined : goal.returns-clause-joined
returns-clause-joined c = rw c.from-a.ensures (join_new _ _ _ _ c.args.self.now.queued c.requires.small c.requires.room (rw (sym c.from-a.ensures) c.if-self-a-eq1.false))
