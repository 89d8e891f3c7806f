-- `is_itself`: two tests.
use mathlib.Core.Path.{sym, ◌∙◌}
use borrow.Author.Tests.{eqb-true}
use Rattle.search_spreads.proofs.is_itself.Goals as goal

pub returns-then-uses_partner : goal.returns-then-uses_partner
returns-then-uses_partner c = λ e. (sym c.uses_partner.ensures ∙ c.if-uses_partner.true, eqb-true _ _ e)
