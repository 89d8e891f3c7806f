-- `Closure::new` meets its contract.
use mathlib.Core.Path.{refl, ap, ◌∙◌}
use lib.ListN.{length, length-replicate}
use Rattle.step_reach.proofs.Laws.{grown_trans, grown_within}
use Rattle.step_reach.proofs.Queue.{queued_none}
use Rattle.step_reach.proofs.Counts.{rest_start, room_same}
use Rattle.step_reach.proofs.closure.Closure.new.Goals as goal

pub begin-requires-clause-room : goal.begin-requires-clause-room
begin-requires-clause-room c = room_same (ap length (c.fill.ensures.after (λ y d. d)) ∙ length-replicate (length c.args.bytes.now) 0) refl c.requires.room

pub begin-requires-clause-counted : goal.begin-requires-clause-counted
begin-requires-clause-counted c = rest_start _ _ _ _ _ (queued_none (length c.args.bytes.now) _ _ (c.fill.ensures.after (λ y d. d)) c.requires.queue)

pub returns-clause-settled : goal.returns-clause-settled
returns-clause-settled c = record { within = grown_within _ _ (length c.args.bytes.now) _ _ (c.fill.ensures.after (λ y d. d)) (grown_trans c.begin.ensures.spread.grown c.close.ensures.spread.grown); rest = c.close.ensures.taken }
