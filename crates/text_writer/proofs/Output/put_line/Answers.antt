-- `text_writer::Output::put_line` meets its contract. Key, numbers, line feed. Assumes nothing.
use native.Mathlib.Omega.{arith}
use Rattle.text_form.specs.Digits.{commas}
use Rattle.text_form.proofs.Texts.{line_length}
use Rattle.text_writer.proofs.Laws.{puts_long, line_puts}
use Rattle.text_writer.proofs.Output.put_line.Goals as goal

pub put_bytes-requires : goal.put_bytes-requires
put_bytes-requires c = omega (arith, c.requires.room, line_length c.args.key.now (commas c.args.numbers.now))

pub put_list-requires : goal.put_list-requires
put_list-requires c = omega (arith, c.requires.room, line_length c.args.key.now (commas c.args.numbers.now), c.put_bytes.ensures.written.next, puts_long _ _ _ _ _ c.put_bytes.ensures.written)

pub put_bytes-requires-2 : goal.put_bytes-requires-2
put_bytes-requires-2 c =
    let a = c.put_bytes.ensures.written in
    let b = c.put_list.ensures.written in
    omega (arith, c.requires.room, line_length c.args.key.now (commas c.args.numbers.now), a.next, puts_long _ _ _ _ _ a, b.next, puts_long _ _ _ _ _ b)

pub returns-clause-written : goal.returns-clause-written
returns-clause-written c = line_puts _ _ _ _ _ _ _ _ _ _ c.put_bytes.ensures.written c.put_list.ensures.written c.put_bytes-2.ensures.written
