-- `reduce_filter::put_reduced` meets its contract. Assumes nothing.
use native.Mathlib.Omega.{arith}
use Rattle.text_writer.proofs.Laws.{puts_long}
use Rattle.reduce_filter.proofs.Answers.{never_refused, marks_ready, count_few, steps_inside, lines_short, text_few, both_puts}
use Rattle.reduce_filter.proofs.put_reduced.Goals as goal

pub returns-in_default-clause-written : goal.returns-in_default-clause-written
returns-in_default-clause-written c = absurd (never_refused _ _ _ _ c.requires.passed c.reduce_table-answer.ensures _ c.in_default.is)

pub put_left-requires-clause-ready : goal.put_left-requires-clause-ready
put_left-requires-clause-ready c = marks_ready _ _ _ _ c.requires.passed c.reduce_table-answer.ensures _ c.in-Ok.is

pub put_list-requires-clause-few : goal.put_list-requires-clause-few
put_list-requires-clause-few c = count_few _ _ _ _ c.requires.passed c.reduce_table-answer.ensures _ c.in-Ok.is

pub put_list-requires-clause-inside : goal.put_list-requires-clause-inside
put_list-requires-clause-inside c = steps_inside _ _ _ _ c.requires.passed c.reduce_table-answer.ensures _ c.in-Ok.is

pub put_list-requires-clause-room : goal.put_list-requires-clause-room
put_list-requires-clause-room c =
    let a = c.put_left.ensures.written in
    omega (arith, c.requires.room, a.next, puts_long _ _ _ _ _ a, text_few _ _ _ _ c.requires.passed c.reduce_table-answer.ensures _ c.in-Ok.is, lines_short _ _ _ _ c.requires.passed c.reduce_table-answer.ensures _ c.in-Ok.is)

pub returns-clause-written : goal.returns-clause-written
returns-clause-written c = both_puts _ _ _ _ c.requires.passed c.reduce_table-answer.ensures _ c.in-Ok.is _ _ _ _ _ _ c.put_left.ensures.written c.put_list.ensures.written
