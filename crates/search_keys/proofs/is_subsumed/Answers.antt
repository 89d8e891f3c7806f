-- `is_subsumed`: one test after the other.
use mathlib.Core.Path.{sym, ◌∙◌}
use mathlib.Core.Bool.{false≢true}
use native.Mathlib.Omega.{arith}
use Rattle.table.proofs.Encoding.{passed_limits}
use Rattle.rewriting.proofs.Rows.{target_bounds}
use Rattle.step_kinds.proofs.Cases.{partner_at_target}
use Rattle.step_parts.proofs.Laws.{ready}
use Rattle.search_keys.proofs.is_subsumed.Goals as goal

pub flag_at-requires : goal.flag_at-requires
flag_at-requires c = record {
  row = omega (arith, target_bounds c.args.kind (partner_at_target _ c.requires.kind));
  place = omega (arith, c.requires.clause, c.requires.before, (passed_limits _ (ready c.args.program.now).placed.passed).few_clauses);
}

pub returns : goal.returns
returns c = λ e. (
  λ k. false≢true (sym c.if-eq.false ∙ rw k at c.eq.ensures),
  record {
    less = let d = c.if-q-x.false in omega (arith, c.requires.before);
    stale = sym c.flag_at.ensures ∙ c.if-flag_at-ne0.false;
    kept = sym c.kept.ensures ∙ c.if-not-kept.false;
    holds = sym (c.subsumed_holds.ensures 0) ∙ e;
  },
)
