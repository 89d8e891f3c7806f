-- `Closure::close_with` meets its contract.
use native.Mathlib.Omega.{arith}
use mathlib.Core.Path.{ap}
use lib.ListN.{length}
use Rattle.table.proofs.Encoding.{passed_limits}
use Rattle.step_reach.proofs.Counts.{rest_join, room_same, same_trans, settled_with}
use Rattle.step_reach.proofs.closure.Closure.close_with.Goals as goal

pub join-requires : goal.join-requires
join-requires c = record {
  queued = c.requires.settled.rest.queued;
  small = omega (arith, (passed_limits _ c.args.program.now.table.placed.passed).few_atoms, c.requires.atom);
  room = omega (arith, c.requires.atom, c.requires.room.bytes);
}

pub close-requires-clause-room : goal.close-requires-clause-room
close-requires-clause-room c = room_same c.join.ensures.joined.long (ap length c.join.ensures.missing) c.requires.room

pub close-requires-clause-taken : goal.close-requires-clause-taken
close-requires-clause-taken c = rw c.join.ensures.missing (rest_join _ _ _ _ _ c.requires.settled.rest c.join.ensures.joined)

pub returns-clause-same_reference : goal.returns-clause-same_reference
returns-clause-same_reference c = same_trans c.join.ensures.same_reference c.close.ensures.same_reference

pub returns-clause-settled : goal.returns-clause-settled
returns-clause-settled c = settled_with _ _ _ c.requires.settled c.join.ensures.joined c.close.ensures.spread c.close.ensures.taken
