-- `table_clauses::pos_of` meets its contract.
use Prim.Native.Nat.{◌+◌}
use mathlib.Core.Path.{ap}
use Rattle.table_clauses.proofs.Parts.{part_at}
use Rattle.table_clauses.proofs.pos_of.Goals as goal

pub returns : goal.returns
returns c = part_at _ _ _ _ _ (ap (λ k. c.args.at + 3 + k) c.from.ensures) c.from-2.ensures
