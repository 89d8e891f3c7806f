-- `most_steps`: the words but the first two and two of each clause.
use native.Mathlib.Omega.{arith}
use Rattle.table.proofs.Encoding.{passed_limits}
use Rattle.reducer_results.proofs.Room.{room_is}
use Rattle.reducer.proofs.most_steps.Goals as goal

pub returns : goal.returns
returns c = record { room = omega (arith, room_is _ c.requires, c.from.ensures); within = omega (arith, (passed_limits _ c.requires).short) }

pub overflow_sub-result : goal.overflow_sub-result
overflow_sub-result c = omega (arith, (passed_limits _ c.requires).long)

pub bounds-words-1 : goal.bounds-words-1
bounds-words-1 c = omega (arith, (passed_limits _ c.requires).long)

pub overflow_sub-result-2 : goal.overflow_sub-result-2
overflow_sub-result-2 c = omega (arith, room_is _ c.requires, c.from.ensures)
