-- `table_clauses::head_of` meets its contract.
use mathlib.Core.Path.{refl}
use Rattle.table_clauses.proofs.Parts.{part_at}
use Rattle.table_clauses.proofs.head_of.Goals as goal

pub returns : goal.returns
returns c = part_at _ _ _ _ _ refl c.from.ensures
