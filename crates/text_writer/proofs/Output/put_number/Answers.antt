-- `text_writer::Output::put_number` meets its contract. The loop's invariant: the last j digits are stored, and the number without them is left. Assumes nothing.
use mathlib.Core.Path.{refl}
use native.Mathlib.Omega.{arith}
use Rattle.text_form.proofs.Widths.{digits_length}
use Rattle.text_writer.proofs.Laws.{placed_start, placed_long, placed_on, placed_end}
use Rattle.text_writer.proofs.Output.put_number.Goals as goal

pub loop-j-init : goal.loop-j-init
loop-j-init c = record { same_reference = refl; placed = placed_start _ _ _ _ }

pub overflow_add-self : goal.overflow_add-self
overflow_add-self c = omega (arith, c.requires.room, digits_length c.args.v, c.number_width-w.ensures)

pub bounds-self-at : goal.bounds-self-at
bounds-self-at c = omega (arith, c.requires.room, digits_length c.args.v, c.number_width-w.ensures, placed_long _ _ _ _ _ _ _ c.loop-j.invariant.placed)

pub loop-j-preserved : goal.loop-j-preserved
loop-j-preserved c = record { same_reference = c.loop-j.invariant.same_reference; placed = rw c.digit.ensures (placed_on _ _ _ _ _ _ _ c.loop-j.invariant.placed _ (omega arith)) }

pub overflow_add-self-2 : goal.overflow_add-self-2
overflow_add-self-2 c = omega (arith, c.requires.room, digits_length c.args.v, c.number_width-w.ensures)

pub returns-clause-written : goal.returns-clause-written
returns-clause-written c = placed_end _ _ _ _ _ _ _ c.loop-j.invariant.placed (omega arith) c.number_width-w.ensures
