-- `text_reader::read_rest` meets its contract. The clauses, then 27. Assumes nothing.
use mathlib.Core.Path.{refl}
use native.Mathlib.Omega.{arith}
use Rattle.text_form.proofs.Texts.{clauses_inv}
use Rattle.text_lines.proofs.Answers.{handed_on}
use Rattle.text_reader.proofs.Programs.{rest_stop, bytes_left, all_read}
use Rattle.text_reader.proofs.read_rest.Goals as goal

pub returns-in_err-line : goal.returns-in_err-line
returns-in_err-line c = rw (handed_on _ _ c.from_residual.ensures.1) (rest_stop _ _ _ _ _ c.in_err-line.ensures)

pub returns-then-end-c : goal.returns-then-end-c
returns-then-end-c c = bytes_left _ _ _ _ _ _ c.in_ok-line.ensures.read c.if-end-c.true

pub overflow_add-result : goal.overflow_add-result
overflow_add-result c = let h = c.in_ok-line.ensures in omega (arith, (clauses_inv _ _ _ 2 _ _ h.thing (omega arith) h.read).fits, h.count)

pub returns : goal.returns
returns c = let h = c.in_ok-line.ensures in all_read _ _ _ _ _ _ h.read _ _ _ _ refl h.same_text c.if-end-c.false h.count refl h.stored
