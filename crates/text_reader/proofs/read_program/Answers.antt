-- `text_reader::read_program` meets its contract. The first two lines, then the rest. Assumes nothing.
use native.Mathlib.Omega.{arith}
use Rattle.text_form.proofs.Lines.{count_inv}
use Rattle.text_lines.proofs.Answers.{handed_on}
use Rattle.text_reader.proofs.Programs.{first_stop, second_stop, second_done}
use Rattle.text_reader.proofs.read_program.Goals as goal

pub returns-in_err-atoms : goal.returns-in_err-atoms
returns-in_err-atoms c =
    rw (handed_on _ _ c.from_residual.ensures.1) (first_stop _ _ (rw (c.new-all.ensures.same_text, c.new-all.ensures.place, c.new-start.ensures) at c.in_err-atoms.ensures))

pub returns-in_err-clauses : goal.returns-in_err-clauses
returns-in_err-clauses c =
    let n = rw (c.new-all.ensures.same_text, c.new-all.ensures.place, c.new-start.ensures) at c.in_ok-atoms.ensures in
    rw (handed_on _ _ c.from_residual-in_err-clauses.ensures.1) (second_stop _ _ _ n.0 _ (rw n.1 at c.in_err-clauses.ensures))

pub overflow_cast-atoms : goal.overflow_cast-atoms
overflow_cast-atoms c =
    let n = rw (c.new-all.ensures.same_text, c.new-all.ensures.place, c.new-start.ensures) at c.in_ok-atoms.ensures in
    omega (arith, (count_inv _ _ _ _ _ _ _ n.0).2)

pub overflow_cast-clauses : goal.overflow_cast-clauses
overflow_cast-clauses c = omega (arith, (count_inv _ _ _ _ _ _ _ c.in_ok-clauses.ensures.0).2)

pub returns : goal.returns
returns c =
    let n = rw (c.new-all.ensures.same_text, c.new-all.ensures.place, c.new-start.ensures) at c.in_ok-atoms.ensures in
    let m = rw n.1 at c.in_ok-clauses.ensures in
    rw (second_done _ _ _ n.0 _ _ m.0) (rw m.1 at c.read_rest.ensures)
