-- `AtomSet::join_part` meets its contract.
use native.Mathlib.Omega.{arith}
use mathlib.Core.Path.{sym, refl, ◌∙◌}
use Rattle.step_reach.proofs.Queue.{joining_none, joining_next, joining_on, joining_end, part_small}
use Rattle.step_reach.proofs.set.AtomSet.join_part.Goals as goal

pub loop-atom-init : goal.loop-atom-init
loop-atom-init c = (tt, tt, (refl, refl), joining_none _ _ _ _ _ (rw c.into_iter-atom-iterator.ensures.into_iter_gives (sym c.atoms-atom-items.ensures)) c.args.self.now.queued)

pub join-requires : goal.join-requires
join-requires c =
    let w = part_small _ _ c.args.t c.args.part c.args.program.now.table.placed.passed _ (joining_next c.loop-atom.invariant.3 c.in-Some.ensures.steps) in
    record { small = w.1; room = omega (arith, w.0, c.loop-atom.invariant.3.joined.long, c.requires.room) }

pub loop-atom-preserved : goal.loop-atom-preserved
loop-atom-preserved c =
    let e = c.loop-atom.invariant.2 in
    let f = c.join.ensures.same_reference in
    (tt, tt, (f.0 ∙ e.0, f.1 ∙ e.1), joining_on c.loop-atom.invariant.3 c.in-Some.ensures.steps c.join.ensures.joined)

pub returns-clause-joined : goal.returns-clause-joined
returns-clause-joined c = joining_end c.loop-atom.invariant.3 c.in-None.ensures.steps.0 _ refl
