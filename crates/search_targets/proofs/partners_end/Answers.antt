-- `partners_end`: none, all clauses, or those up to the greatest.
use mathlib.Core.Path.{sym, ◌∙◌}
use native.Mathlib.Omega.{arith}
use Rattle.table.proofs.Encoding.{passed_limits}
use Rattle.search_targets.proofs.Walks.{partners_kept, partners_most, partners_gone}
use Rattle.step_parts.proofs.Laws.{ready}
use Rattle.search_targets.proofs.partners_end.Goals as goal

pub returns-then-not-kept : goal.returns-then-not-kept
returns-then-not-kept c = partners_gone _ _ _ _ c.requires.kind (sym c.kept.ensures ∙ c.if-not-kept.true)

pub most-requires : goal.most-requires
most-requires c = omega (arith, c.requires.target, (passed_limits _ (ready c.args.program.now).placed.passed).few_clauses)

pub returns-in-Success : goal.returns-in-Success
returns-in-Success c = partners_most _ _ _ _ c.requires.kind _ _ _ c.in-Success.is c.requires.calm c.clause_count-m.ensures (rw c.most.ensures.most at c.min.ensures) (sym c.kept.ensures ∙ c.if-not-kept.false)

pub returns-in_default : goal.returns-in_default
returns-in_default c = partners_kept _ _ _ _ c.requires.kind _ c.clause_count-m.ensures (sym c.kept.ensures ∙ c.if-not-kept.false)
