-- `first_step`: kinds 1 to 8, then kind 9.
use Rattle.std.proofs.Common.{refl}
use Rattle.search_first.proofs.Searches.{flagged_found, flagged_none, found_one}
use Rattle.search_first.proofs.first_step.Goals as goal

pub returns-in-Some : goal.returns-in-Some
returns-in-Some c = record { found = flagged_found _ _ _ c.in-Some.ensures.found (found_one _ _ refl); state = c.in-Some.ensures.state; idle = c.requires.idle }

pub returns : goal.returns
returns c = record { found = flagged_none _ _ _ (c.in_default.ensures).found c.first_excluded.ensures.found; state = c.first_flagged.ensures.state; idle = c.first_excluded.ensures.idle }
