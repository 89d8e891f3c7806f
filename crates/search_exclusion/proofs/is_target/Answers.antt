-- `search_exclusion::is_target` meets its contract.
use native.Mathlib.Omega.{arith}
use Rattle.table.proofs.Encoding.{passed_limits}
use Rattle.search_exclusion.proofs.is_target.Goals as goal

pub bounds-idle-t : goal.bounds-idle-t
bounds-idle-t c = omega (arith, (passed_limits _ c.args.program.now.table.placed.passed).few_clauses, c.requires.clause, c.requires.idle)
