-- `Indexed::owner` meets its contract.
use native.Mathlib.Omega.{arith}
use Rattle.table.proofs.Encoding.{passed_limits}
use Rattle.step_parts.proofs.marked.Indexed.owner.Goals as goal

pub bounds-self-i : goal.bounds-self-i
bounds-self-i c = omega (arith, (passed_limits _ c.args.self.now.placed.passed).short, c.args.self.now.placed.long)
