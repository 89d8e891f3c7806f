-- Number times 2^48 plus place fits, since the number is at most 32 and the place at most 65,536.
use native.Mathlib.Omega.{arith}
use Rattle.answers.proofs.Numbers.{number_range}
use Rattle.answers.proofs.refusal_code.Goals as goal

pub overflow_mul-result : goal.overflow_mul-result
overflow_mul-result c = omega (arith, (number_range c.args.x).1, c.refusal_number.ensures)

pub overflow_add-result : goal.overflow_add-result
overflow_add-result c = omega (arith, (number_range c.args.x).1, c.refusal_number.ensures, c.refusal_place.ensures)
