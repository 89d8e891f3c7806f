-- `Closure::lower` meets its contract.
use native.Mathlib.Omega.{arith}
use mathlib.Core.Path.{ap, ◌∙◌}
use lib.ListN.{length, length-set}
use Rattle.table.proofs.Encoding.{passed_limits}
use Rattle.step_reach.proofs.Counts.{lowered_here, room_same}
use Rattle.step_reach.proofs.closure.Closure.lower.Goals as goal

pub returns-clause-lowered : goal.returns-clause-lowered
returns-clause-lowered c = rw c.settle.ensures.missing (lowered_here _ _ _ c.args.self.now.missing.now _ _ _ _ c.if-program-i-ne1.false (omega (arith, c.requires.room.counts, (passed_limits _ c.args.program.now.table.placed.passed).few_clauses, c.requires.clause)) _ c.owner-t.ensures c.settle.ensures.spread c.settle.ensures.fired)

pub returns-clause-room : goal.returns-clause-room
returns-clause-room c = room_same c.settle.ensures.spread.grown.same (ap length c.settle.ensures.missing ∙ length-set c.args.self.now.missing.now c.owner-t.result _) c.requires.room
