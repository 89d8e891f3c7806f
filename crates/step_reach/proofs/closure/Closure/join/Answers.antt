-- `Closure::join` meets its contract.
use borrow.Author.Rules.{rules}
use Rattle.step_reach.proofs.Queue.{joined_at}
use Rattle.step_reach.proofs.closure.Closure.join.Goals as goal

pub invariant_of-set : goal.invariant_of-set
invariant_of-set c = record { queued = c.requires.queued }

pub returns-clause-joined : goal.returns-clause-joined
returns-clause-joined c = joined_at (search rules) (search rules) c.join.ensures.joined
