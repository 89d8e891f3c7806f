-- `step_reach::find_reach` meets its contract.
use borrow.Author.Rules.{rules}
use Rattle.step_reach.proofs.Laws.{reached_as, reached_by}
use Rattle.step_reach.proofs.Counts.{settled_closed}
use Rattle.step_reach.proofs.find_reach.Goals as goal

pub returns : goal.returns
returns c = reached_as (search rules) (reached_by _ _ c.new.result.bytes.now c.new.ensures.settled.within (settled_closed _ _ c.new.ensures.settled))
