-- `text_reader::read_count` meets its contract. A number, then its limit. Assumes nothing.
use native.Mathlib.Omega.{arith}
use Rattle.text_lines.proofs.Answers.{handed_on}
use Rattle.text_reader.proofs.Programs.{count_stop, count_over, count_done}
use Rattle.text_reader.proofs.read_count.Goals as goal

pub returns-in_err-line : goal.returns-in_err-line
returns-in_err-line c = rw (handed_on _ _ c.from_residual.ensures.1) (count_stop _ _ _ _ _ _ c.in_err-line.ensures)

pub returns-then-from-line : goal.returns-then-from-line
returns-then-from-line c = count_over _ _ _ _ _ _ _ c.in_ok-line.ensures.0 (omega arith)

pub returns : goal.returns
returns c = (count_done _ _ _ _ _ _ _ c.in_ok-line.ensures.0 (omega arith), c.in_ok-line.ensures.1)
