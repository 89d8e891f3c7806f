-- `AtomSet::new` meets its contract.
use lib.ListN.{length}
use Rattle.step_reach.proofs.Queue.{queued_none}
use Rattle.step_reach.proofs.set.AtomSet.new.Goals as goal

pub invariant_of-result : goal.invariant_of-result
invariant_of-result c = record { queued = queued_none (length c.args.bytes.now) _ _ (c.fill.ensures.after (λ y d. d)) c.requires }

pub returns-clause-bytes : goal.returns-clause-bytes
returns-clause-bytes c = c.fill.ensures.after (λ y d. d)
