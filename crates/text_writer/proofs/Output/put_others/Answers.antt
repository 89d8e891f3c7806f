-- `text_writer::Output::put_others` meets its contract. The loop's invariant: the numbers left, each after a comma, give them all. Assumes nothing.
use mathlib.Core.Path.{◌∙◌}
use mathlib.Core.List.{◌∷◌}
use Rattle.text_form.specs.Digits.{digits}
use Rattle.text_writer.proofs.Laws.{puts_long, left_on, left_room, left_end, others_on, others_end}
use Rattle.text_writer.proofs.Output.put_others.Goals as goal

pub put_next-requires-clause-room : goal.put_next-requires-clause-room
put_next-requires-clause-room c = left_room _ _ _ _ _ _ c.loop-v.invariant.left (44 ∷ digits c.from.result) _ (others_on _ _ _ c.loop-v-test.true c.from.ensures) c.requires.room

pub loop-v-preserved : goal.loop-v-preserved
loop-v-preserved c = record {
  same_reference = c.put_next.ensures.same_reference ∙ c.loop-v.invariant.same_reference;
  left = left_on _ _ _ _ _ _ c.loop-v.invariant.left _ _ (44 ∷ digits c.from.result) _ (others_on _ _ _ c.loop-v-test.true c.from.ensures) (puts_long _ _ _ _ _ c.put_next.ensures.written) c.put_next.ensures.written;
}

pub returns-clause-written : goal.returns-clause-written
returns-clause-written c = left_end _ _ _ _ _ _ c.loop-v.invariant.left (others_end _ _ c.loop-v-test.false)
