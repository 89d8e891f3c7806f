-- `reduce_filter::put_list` meets its contract. Assumes nothing.
use native.Mathlib.Omega.{arith}
use lib.ListN.{length-append}
use Rattle.text_form.specs.Digits.{digits}
use Rattle.text_form.specs.Render.{line_text}
use Rattle.text_writer.proofs.Laws.{puts_long, puts_then}
use Rattle.reduce_filter.specs.Output.{steps_key, step_lines, list_lines}
use Rattle.reduce_filter.proofs.put_list.Goals as goal

pub put_number_line-requires-clause-room : goal.put_number_line-requires-clause-room
unfolding list_lines
put_number_line-requires-clause-room c = omega (arith, c.requires.room, length-append (line_text steps_key (digits c.args.s)) (step_lines c.args.list.now 0 c.args.s))

pub put_steps-requires-clause-room : goal.put_steps-requires-clause-room
unfolding list_lines
put_steps-requires-clause-room c =
    let a = c.put_number_line.ensures.written in
    omega (arith, c.requires.room, length-append (line_text steps_key (digits c.args.s)) (step_lines c.args.list.now 0 c.args.s), a.next, puts_long _ _ _ _ _ a)

pub returns-clause-written : goal.returns-clause-written
unfolding list_lines
returns-clause-written c = puts_then _ _ _ _ _ _ _ _ c.put_number_line.ensures.written c.put_steps.ensures.written
