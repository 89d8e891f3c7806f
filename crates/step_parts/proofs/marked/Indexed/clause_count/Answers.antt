-- `Indexed::clause_count` meets its contract.
use native.Mathlib.Omega.{arith}
use Rattle.table.proofs.Encoding.{passed_limits}
use Rattle.step_parts.proofs.marked.Indexed.clause_count.Goals as goal

pub bounds-self-1 : goal.bounds-self-1
bounds-self-1 c = omega (arith, (passed_limits _ c.args.self.now.placed.passed).long)
