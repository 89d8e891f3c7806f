-- `models_list::search::is_stable` meets its contract.
use mathlib.Core.Path.{sym, ◌∙◌}
use Rattle.models_list.proofs.Gathering.{stable_not, stable_gathered}
use Rattle.models_list.proofs.search.is_stable.Goals as goal

pub returns-in-None : goal.returns-in-None
returns-in-None c = sym (stable_not _ _ c.in-None.ensures)

pub returns-in-Some : goal.returns-in-Some
returns-in-Some c = c.minimal_by.ensures ∙ stable_gathered _ _ _ _ c.in-Some.ensures
