-- `stopped_at`: by the two cases.
use Rattle.std.proofs.Common.{refl}
use Rattle.search_targets.specs.Searches.{stopped_at}
use Rattle.search_first.proofs.stopped_at.Goals as goal

pub returns-in-Some : goal.returns-in-Some
unfolding stopped_at
returns-in-Some c = rw c.in-Some.is c.from.ensures

pub returns-in-None : goal.returns-in-None
unfolding stopped_at
returns-in-None c = rw c.in-None.is refl
