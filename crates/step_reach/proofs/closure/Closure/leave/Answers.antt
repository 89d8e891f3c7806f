-- `Closure::leave` meets its contract.
use borrow.Author.Rules.{rules}
use Rattle.step_reach.proofs.Queue.{queued_as}
use Rattle.step_reach.proofs.closure.Closure.leave.Goals as goal

pub invariant_of-set : goal.invariant_of-set
invariant_of-set c = record { queued = c.requires.queued }

pub returns-clause-queued : goal.returns-clause-queued
returns-clause-queued c = queued_as (search rules) (search rules) c.leave-atom.new.self.queued
