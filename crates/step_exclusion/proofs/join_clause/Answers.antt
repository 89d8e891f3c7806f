-- `step_exclusion::join_clause` meets its contract.
use native.Mathlib.Omega.{arith}
use Rattle.step_parts.specs.Reading.{clause_of}
use Rattle.step_exclusion.proofs.Sets.{joined_three}
use Rattle.step_exclusion.proofs.join_clause.Goals as goal

pub join_part-requires-2-clause-room : goal.join_part-requires-2-clause-room
join_part-requires-2-clause-room c = omega (arith, c.requires.room, c.join_part.ensures.joined.long)

pub join_part-requires-3-clause-room : goal.join_part-requires-3-clause-room
join_part-requires-3-clause-room c = omega (arith, c.requires.room, c.join_part.ensures.joined.long, c.join_part-2.ensures.joined.long)

pub returns-clause-joined : goal.returns-clause-joined
returns-clause-joined c = joined_three (clause_of c.args.program.now c.args.t) c.join_part.ensures.joined c.join_part-2.ensures.joined c.join_part-3.ensures.joined
