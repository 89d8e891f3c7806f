-- `search_idle::spread_atom` meets its contract.
use native.Mathlib.Omega.{arith}
use Rattle.step_parts.specs.Reading.{program_of}
use Rattle.step_parts.proofs.Walk.{walk_start, walk_on, walk_end}
use Rattle.step_reach.specs.Bytes.{in_bytes}
use Rattle.search_idle.specs.Forgets.{Met}
use Rattle.search_idle.proofs.Forgets.{onward_none, onward_trans, met_later}
use Rattle.search_idle.proofs.spread_atom.Goals as goal

pub loop-i-init : goal.loop-i-init
loop-i-init c =
    let p = c.args.program.now in
    let s = c.args.set.now in
    rw c.into_iter-i-iterator.ensures.into_iter_gives (tt, tt, onward_none _ _ _ _ s.queued, walk_start p.table c.args.part c.args.atom (Met (program_of p) (in_bytes s.bytes.now) c.args.idle.now) _ c.places-i-items.ensures.of c.places-i-items.ensures.last)

pub meet-requires-clause-room : goal.meet-requires-clause-room
meet-requires-clause-room c = omega (arith, c.requires.room, c.loop-i.invariant.2.later.long)

pub loop-i-preserved : goal.loop-i-preserved
loop-i-preserved c =
    let p = c.args.program.now in (
      tt,
      tt,
      onward_trans c.loop-i.invariant.2 c.meet.ensures.onward,
      walk_on p.table c.args.part c.args.atom c.in-Some.ensures.steps (Met (program_of p) (in_bytes c.loop-i.set.bytes.now) c.loop-i.idle) (Met (program_of p) (in_bytes c.meet.new.set.bytes.now) c.meet.new.idle) (λ t _. met_later (program_of p) t c.meet.ensures.onward) c.meet.ensures.met c.loop-i.invariant.3,
    )

pub returns-clause-met : goal.returns-clause-met
returns-clause-met c = let p = c.args.program.now in record { each = walk_end p.table c.args.part c.args.atom (Met (program_of p) (in_bytes c.loop-i.set.bytes.now) c.loop-i.idle) _ c.in-None.ensures.steps c.loop-i.invariant.3 }
