-- `step_exclusion::clear_clause` meets its contract.
use mathlib.Core.Path.{sym, ◌∙◌}
use Rattle.step_exclusion.proofs.Marks.{clause_gone, clause_deleted, clause_dropped}
use Rattle.step_exclusion.proofs.clear_clause.Goals as goal

pub returns-then-not-kept : goal.returns-then-not-kept
returns-then-not-kept c = clause_gone _ _ _ _ c.requires.clause (sym c.kept.ensures ∙ c.if-not-kept.true)

pub returns-then-has : goal.returns-then-has
returns-then-has c = clause_deleted _ _ _ _ c.requires.clause _ c.first_word.ensures.is (sym c.kept.ensures ∙ c.if-not-kept.false) (sym c.has.ensures ∙ c.if-has.true)

pub returns : goal.returns
returns c = clause_dropped _ _ _ _ c.requires.clause (sym c.kept.ensures ∙ c.if-not-kept.false) (sym c.has.ensures ∙ c.if-has.false) _ _ c.clear_in.ensures c.clear_in-2.ensures
