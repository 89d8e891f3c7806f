-- `Indexed::atom_count` meets its contract.
use native.Mathlib.Omega.{arith}
use Rattle.table.proofs.Encoding.{passed_limits}
use Rattle.step_parts.proofs.marked.Indexed.atom_count.Goals as goal

pub bounds-self-0 : goal.bounds-self-0
bounds-self-0 c = omega (arith, (passed_limits _ c.args.self.now.placed.passed).long)
