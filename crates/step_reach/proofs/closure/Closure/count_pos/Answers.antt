-- `Closure::count_pos` meets its contract.
use native.Mathlib.Omega.{arith}
use mathlib.Core.Logic.{inl}
use mathlib.Core.Path.{ap}
use lib.ListN.{length}
use Rattle.step_reach.proofs.Counts.{few_pos}
use Rattle.step_reach.proofs.closure.Closure.count_pos.Goals as goal

pub count-requires-clause-fits : goal.count-requires-clause-fits
count-requires-clause-fits c = inl (omega (arith, ap length c.atoms.ensures, few_pos _ c.args.program.now.marks.now c.args.t c.args.program.now.table.placed.passed))

pub overflow_cast-result : goal.overflow_cast-result
overflow_cast-result c = omega (arith, c.count.ensures.bound, ap length c.atoms.ensures, few_pos _ c.args.program.now.marks.now c.args.t c.args.program.now.table.placed.passed)
