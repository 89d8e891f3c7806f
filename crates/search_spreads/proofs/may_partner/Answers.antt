-- `may_partner`: a clause that is gone, or is no fact, is none.
use mathlib.Core.Path.{sym, ◌∙◌}
use mathlib.Core.Bool.{false≢true}
use Rattle.search_spreads.proofs.Clues.{gone_partner, open_partner_lem}
use Rattle.search_spreads.proofs.may_partner.Goals as goal

pub returns-then-not-kept : goal.returns-then-not-kept
returns-then-not-kept c = λ _. gone_partner _ _ _ _ c.requires.kind (sym c.kept.ensures ∙ c.if-not-kept.true)

pub returns-in-Subsumed : goal.returns-in-Subsumed
returns-in-Subsumed c = λ e. absurd (false≢true (sym e))

pub returns-in_default : goal.returns-in_default
returns-in_default c = λ e. open_partner_lem _ _ _ _ c.requires.kind c.in_default.not-Subsumed (sym c.is_fact.ensures ∙ e)
