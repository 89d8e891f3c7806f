-- `first_excluded`: what the search of kind 9 finds, as a step.
use Rattle.search_first.proofs.Excluded.{excluded_one, excluded_nothing}
use Rattle.search_first.proofs.first_excluded.Goals as goal

pub returns-clause-found : goal.returns-clause-found
returns-clause-found c = excluded_one _ _ _ _ _ c.first_exclusion.ensures.smallest c.in_ok-found.was c.new.ensures

pub returns-in_err-found-clause-found : goal.returns-in_err-found-clause-found
returns-in_err-found-clause-found c = rw c.from_residual.ensures (excluded_nothing _ _ _ c.first_exclusion.ensures.smallest c.in_err-found.was)
