-- `may_take`: a condition that does not hold, or whether the step is passed over.
use mathlib.Core.Path.{sym, ◌∙◌}
use borrow.Author.Tests.{not-false}
use Rattle.semantics.proofs.Tests.{not_so}
use Rattle.rewriting.proofs.Equal.{eligible_iff, eligible_ask}
use Rattle.search_spreads.proofs.may_take.Goals as goal

pub returns-then-not-holds : goal.returns-then-not-holds
returns-then-not-holds c = λ _ h. not_so (sym c.holds.ensures ∙ c.if-not-holds.true) (eligible_ask _ _ _ h).2

pub returns : goal.returns
returns c = λ e h. ((eligible_iff _ _ _).0 h).1 (sym (c.passed_over.ensures _) ∙ not-false _ e)
