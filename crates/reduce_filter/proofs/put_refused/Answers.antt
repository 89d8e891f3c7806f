-- `reduce_filter::put_refused` meets its contract. Assumes nothing.
use native.Mathlib.Omega.{arith}
use mathlib.Core.List.{[], ◌∷◌}
use Rattle.answers.specs.Refusals.{refusal_number, refusal_place}
use Rattle.answers.proofs.Numbers.{number_range}
use Rattle.text_form.specs.Digits.{commas}
use Rattle.text_form.proofs.Texts.{line_length}
use Rattle.text_writer.proofs.Laws.{puts_long, line_puts}
use Rattle.reduce_filter.specs.Output.{refused_key, refused_text}
use Rattle.reduce_filter.proofs.put_refused.Goals as goal

pub put_bytes-requires : goal.put_bytes-requires
unfolding refused_text
put_bytes-requires c = omega (arith, c.requires.room, line_length refused_key (commas (refusal_number c.args.refusal ∷ refusal_place c.args.refusal ∷ [])))

pub put_pair-requires-clause-first : goal.put_pair-requires-clause-first
put_pair-requires-clause-first c = omega (arith, c.refusal_number-number.ensures, (number_range c.args.refusal).1)

pub put_pair-requires-clause-second : goal.put_pair-requires-clause-second
put_pair-requires-clause-second c = omega (arith, c.refusal_place.ensures, c.requires.near)

pub put_pair-requires-clause-room : goal.put_pair-requires-clause-room
unfolding refused_text
put_pair-requires-clause-room c =
    let a = c.put_bytes.ensures.written in
    rw (c.refusal_number-number.ensures, c.refusal_place.ensures) (omega (arith, c.requires.room, line_length refused_key (commas (refusal_number c.args.refusal ∷ refusal_place c.args.refusal ∷ [])), a.next, puts_long _ _ _ _ _ a))

pub put_bytes-requires-2 : goal.put_bytes-requires-2
unfolding refused_text
put_bytes-requires-2 c =
    let a = c.put_bytes.ensures.written in
    let b = rw (c.refusal_number-number.ensures, c.refusal_place.ensures) at c.put_pair.ensures.written in
    omega (arith, c.requires.room, line_length refused_key (commas (refusal_number c.args.refusal ∷ refusal_place c.args.refusal ∷ [])), a.next, puts_long _ _ _ _ _ a, b.next, puts_long _ _ _ _ _ b)

pub returns-clause-written : goal.returns-clause-written
unfolding refused_text
returns-clause-written c =
    line_puts _ _ _ _ _ _ _ _ _ _ c.put_bytes.ensures.written (rw (c.refusal_number-number.ensures, c.refusal_place.ensures) at c.put_pair.ensures.written) c.put_bytes-2.ensures.written
