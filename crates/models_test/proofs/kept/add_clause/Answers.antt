-- `models_test::kept::add_clause` meets its contract.
use mathlib.Core.Path.{sym, ◌∙◌}
use Rattle.models_test.proofs.Listing.{added_none, added_one}
use Rattle.models_test.proofs.kept.add_clause.Goals as goal

pub returns-then-enters : goal.returns-then-enters
returns-then-enters c = rw c.push.ensures (added_one _ _ _ _ (sym c.enters.ensures ∙ c.if-enters.true) c.rule_of.ensures)

pub returns-else-enters : goal.returns-else-enters
returns-else-enters c = added_none _ _ _ (sym c.enters.ensures ∙ c.if-enters.false)
