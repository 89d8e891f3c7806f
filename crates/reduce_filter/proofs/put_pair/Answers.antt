-- `reduce_filter::put_pair` meets its contract. Assumes nothing.
use native.Mathlib.Omega.{arith}
use Rattle.text_form.proofs.Widths.{digits_length}
use Rattle.text_writer.proofs.Laws.{puts_long}
use Rattle.reduce_filter.proofs.Bounds.{pair_length}
use Rattle.reduce_filter.proofs.Laws.{pair_puts}
use Rattle.reduce_filter.proofs.put_pair.Goals as goal

pub put_number-requires-clause-room : goal.put_number-requires-clause-room
put_number-requires-clause-room c = omega (arith, c.requires.room, pair_length c.args.a c.args.b, digits_length c.args.a)

pub put_next-requires-clause-room : goal.put_next-requires-clause-room
put_next-requires-clause-room c =
    let a = c.put_number.ensures.written in
    omega (arith, c.requires.room, pair_length c.args.a c.args.b, digits_length c.args.a, digits_length c.args.b, a.next, puts_long _ _ _ _ _ a)

pub returns-clause-written : goal.returns-clause-written
returns-clause-written c = pair_puts _ _ _ _ _ _ _ _ c.put_number.ensures.written c.put_next.ensures.written
