-- `may_target`: no clause is its own partner, and a target is kept.
use mathlib.Core.Path.{sym, ◌∙◌}
use Rattle.semantics.proofs.Tests.{not_so}
use Rattle.rewriting.proofs.Equal.{eligible_ask}
use Rattle.search_spreads.proofs.Spreads.{itself_not}
use Rattle.search_spreads.proofs.may_target.Goals as goal

pub returns-then-is_itself : goal.returns-then-is_itself
returns-then-is_itself c = λ _ a. itself_not _ _ _ _ _ a (c.is_itself.ensures c.if-is_itself.true)

pub returns : goal.returns
returns c = λ e a h. not_so (sym c.kept.ensures ∙ e) (eligible_ask _ _ _ h).0
