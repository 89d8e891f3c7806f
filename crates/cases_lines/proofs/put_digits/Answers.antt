-- No number has more than five digits.
use mathlib.Core.Path.{ap}
use native.Mathlib.Omega.{arith}
use lib.ListN.{length}
use Rattle.text_form.proofs.Widths.{digits_length, width_five}
use Rattle.cases_lines.proofs.put_digits.Goals as goal

pub put_number-requires-clause-room : goal.put_number-requires-clause-room
put_number-requires-clause-room c = omega (arith, digits_length c.args.v, width_five c.args.v, c.new-output.ensures.empty, ap length c.new-output.ensures.lent)

pub returns : goal.returns
returns c = omega (arith, c.put_number.ensures.written.next, c.new-output.ensures.empty, digits_length c.args.v, width_five c.args.v)
