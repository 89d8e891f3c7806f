-- `text_writer::Output::put_list` meets its contract. The first number, then the others. Assumes nothing.
use mathlib.Core.Path.{ap}
use native.Mathlib.Omega.{arith}
use lib.ListN.{length}
use Rattle.text_form.specs.Digits.{commas}
use Rattle.text_writer.proofs.Laws.{puts_long, commas_none, commas_length, commas_puts}
use Rattle.text_writer.proofs.Output.put_list.Goals as goal

pub put_number-requires-clause-room : goal.put_number-requires-clause-room
put_number-requires-clause-room c = rw c.from.ensures (omega (arith, c.requires.room, ap (λ z. length (commas z)) c.in-Some.ensures.cases.0, commas_length c.in-Some.first.now c.in-Some.others.now))

pub put_others-requires : goal.put_others-requires
put_others-requires c =
    let a = rw c.from.ensures at c.put_number.ensures.written in
    omega (arith, c.requires.room, ap (λ z. length (commas z)) c.in-Some.ensures.cases.0, commas_length c.in-Some.first.now c.in-Some.others.now, a.next, puts_long _ _ _ _ _ a)

pub returns-in-Some-clause-written : goal.returns-in-Some-clause-written
returns-in-Some-clause-written c =
    rw c.in-Some.ensures.cases.0 (commas_puts _ _ _ _ _ _ _ _ (rw c.from.ensures at c.put_number.ensures.written) c.put_others.ensures.written)

pub returns-in_default-clause-written : goal.returns-in_default-clause-written
returns-in_default-clause-written c = commas_none _ _ _ c.in_default.ensures.cases
