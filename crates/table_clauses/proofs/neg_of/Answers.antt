-- `table_clauses::neg_of` meets its contract.
use Prim.Native.Nat.{◌+◌}
use mathlib.Core.Path.{ap₂}
use Rattle.table_clauses.proofs.Parts.{part_at}
use Rattle.table_clauses.proofs.neg_of.Goals as goal

pub returns : goal.returns
returns c = part_at _ _ _ _ _ (ap₂ (λ h p. c.args.at + 3 + h + p) c.from.ensures c.from-2.ensures) c.from-3.ensures
