-- `step_questions::clause_kept` meets its contract.
use mathlib.Core.Path.{◌∙◌}
use native.Mathlib.Omega.{arith}
use borrow.Author.Tests.{le-ltb}
use Rattle.step_questions.proofs.Laws.{kept_out}
use Rattle.step_questions.proofs.clause_kept.Goals as goal

pub returns-else-t-clause_count : goal.returns-else-t-clause_count
returns-else-t-clause_count c = le-ltb _ _ c.if-t-clause_count.false ∙ kept_out _ _ _ (omega (arith, c.from-t.ensures, c.clause_count.ensures, c.if-t-clause_count.false))
