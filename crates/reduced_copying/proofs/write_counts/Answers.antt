-- Three counts, stored one after the other.
use native.Mathlib.Omega.{arith}
use Rattle.reduced_copying.proofs.Copying.{counts_stored}
use Rattle.reduced_copying.proofs.write_counts.Goals as goal

pub returns : goal.returns
returns c = counts_stored _ _ _ c.args.at c.args.to _ _ _ _ _ _ c.from.ensures c.from-2.ensures c.from-3.ensures (omega arith) c.kept_in.ensures c.kept_in-2.ensures c.kept_in-3.ensures
