-- `text_writer::number_width` meets its contract. One case for each number of digits. Assumes nothing.
use native.Mathlib.Omega.{arith}
use mathlib.Core.Path.{sym}
use Rattle.text_form.proofs.Widths.{one_digit, two_digits, three_digits, four_digits, five_digits, no_digits}
use Rattle.text_writer.proofs.number_width.Goals as goal

pub returns-in-0-to-9 : goal.returns-in-0-to-9
returns-in-0-to-9 c = sym (one_digit c.args.v (omega arith))

pub returns-in-10-to-99 : goal.returns-in-10-to-99
returns-in-10-to-99 c = sym (two_digits c.args.v (omega arith) (omega arith))

pub returns-in-100-to-999 : goal.returns-in-100-to-999
returns-in-100-to-999 c = sym (three_digits c.args.v (omega arith) (omega arith))

pub returns-in-1000-to-9999 : goal.returns-in-1000-to-9999
returns-in-1000-to-9999 c = sym (four_digits c.args.v (omega arith) (omega arith))

pub returns-in-10000-to-65536 : goal.returns-in-10000-to-65536
returns-in-10000-to-65536 c = sym (five_digits c.args.v (omega arith) (omega arith))

pub returns-in_default : goal.returns-in_default
returns-in_default c = sym (no_digits c.args.v (omega arith))
