-- `table_questions::check_table` meets its contract. The invariant: the walk along the clauses from here on is that of the whole table.
use Prim.Native.Nat.{◌≤◌, ◌-◌}
use mathlib.Core.Path.{◌≡◌}
use Rattle.table.specs.Questions.{clauses_from}
use Rattle.table_questions.proofs.check_table.Given as goal

abbrev pub invariant-loop-k : goal.invariant-loop-k
invariant-loop-k l = (l.k ≤ l.clauses) × ((l.at ≤ l.len) × (clauses_from l.words l.atoms (l.clauses - l.k) l.at ≡ clauses_from l.words l.atoms l.clauses 2))

abbrev pub decreases-loop-k : goal.decreases-loop-k
decreases-loop-k l = l.clauses - l.k
