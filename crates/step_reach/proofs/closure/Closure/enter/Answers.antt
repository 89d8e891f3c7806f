-- `Closure::enter` meets its contract.
use native.Mathlib.Omega.{arith}
use mathlib.Core.Path.{ap, ◌∙◌}
use lib.ListN.{length, length-set}
use Rattle.table.proofs.Encoding.{passed_limits}
use Rattle.step_reach.proofs.Counts.{none_left, rest_enter, room_same}
use Rattle.step_reach.proofs.closure.Closure.enter.Goals as goal

pub offset_bounds-self-t : goal.offset_bounds-self-t
offset_bounds-self-t c = omega (arith, (passed_limits _ c.args.program.now.table.placed.passed).few_clauses, c.requires.clause)

pub bounds-self-t : goal.bounds-self-t
bounds-self-t c = omega (arith, c.requires.room.counts, (passed_limits _ c.args.program.now.table.placed.passed).few_clauses, c.requires.clause)

pub settle-requires-clause-last : goal.settle-requires-clause-last
settle-requires-clause-last c = λ z a m. absurd (none_left _ _ c.count_pos-left.ensures z a m)

pub returns-clause-counted : goal.returns-clause-counted
returns-clause-counted c = rw c.settle.ensures.missing (rest_enter _ _ _ _ c.args.self.now.missing.now (omega (arith, c.requires.room.counts, (passed_limits _ c.args.program.now.table.placed.passed).few_clauses, c.requires.clause)) c.count_pos-left.ensures c.requires.counted c.settle.ensures.spread c.settle.ensures.fired)

pub returns-clause-room : goal.returns-clause-room
returns-clause-room c = room_same c.settle.ensures.spread.grown.same (ap length c.settle.ensures.missing ∙ length-set c.args.self.now.missing.now c.args.t _) c.requires.room
