-- `Closure::take_atom` meets its contract.
use native.Mathlib.Omega.{arith}
use mathlib.Core.Path.{refl, sym}
use Rattle.table.proofs.Encoding.{passed_limits}
use Rattle.step_reach.proofs.Queue.{queued_few, queued_at, spread_none, spread_trans}
use Rattle.step_reach.proofs.Counts.{counting_as, same_trans, walk_start, walk_due, walk_on, walk_end}
use Rattle.step_reach.proofs.Places.{place_here, place_next, place_along}
use Rattle.step_reach.proofs.closure.Closure.take_atom.Goals as goal

pub offset_bounds-self-k : goal.offset_bounds-self-k
offset_bounds-self-k c = omega (arith, queued_few c.requires.taken.queued, c.requires.there)

pub bounds-self-k : goal.bounds-self-k
bounds-self-k c = let z = c.requires.taken.queued in omega (arith, queued_few z, z.room, c.requires.there)

pub places-i-items-requires : goal.places-i-items-requires
places-i-items-requires c = let z = c.requires.taken.queued in z.below _ (queued_at _ z c.requires.there)

pub loop-i-init : goal.loop-i-init
loop-i-init c =
    let p = c.args.program.now.table.placed.passed in
    rw c.into_iter-i-iterator.ensures.into_iter_gives (record {
      can_next = tt;
      is_finite = tt;
      along = c.places-i-items.ensures.of;
      same = (refl, refl, refl);
      room = c.requires.room;
      spread = spread_none _ _ _ _ c.requires.taken.queued;
      counting = walk_start _ _ c.args.program.now.table.index.now _ p c.requires.there c.requires.taken c.places-i-items.ensures.last;
    })

pub lower-requires-clause-place : goal.lower-requires-clause-place
lower-requires-clause-place c = (place_here c.in-Some.ensures.steps c.loop-i.invariant.along).0

pub lower-requires-clause-clause : goal.lower-requires-clause-clause
lower-requires-clause-clause c = (place_here c.in-Some.ensures.steps c.loop-i.invariant.along).1.clause

pub lower-requires-clause-due : goal.lower-requires-clause-due
lower-requires-clause-due c = walk_due _ _ c.args.program.now.table.index.now _ _ _ c.args.program.now.table.placed.passed (counting_as (sym c.in-Some.ensures.steps.here) c.loop-i.invariant.counting) (place_here c.in-Some.ensures.steps c.loop-i.invariant.along).1

pub loop-i-preserved : goal.loop-i-preserved
loop-i-preserved c =
    let g = c.in-Some.ensures.steps in
    let p = c.args.program.now.table.placed.passed in
    let e = c.loop-i.invariant.along in
    record {
      can_next = tt;
      is_finite = tt;
      along = place_along g e;
      same = same_trans c.loop-i.invariant.same c.lower.ensures.same_reference;
      room = c.lower.ensures.room;
      spread = spread_trans c.loop-i.invariant.spread c.lower.ensures.lowered.spread;
      counting = walk_on _ _ c.args.program.now.table.index.now _ _ _ p (counting_as (sym g.here) c.loop-i.invariant.counting) (place_here g e).1 c.lower.ensures.lowered (omega (arith, c.loop-i.invariant.room.counts, (place_here g e).1.clause, (passed_limits _ p).few_clauses)) (place_next g e);
    }

pub returns-clause-taken : goal.returns-clause-taken
returns-clause-taken c = walk_end _ _ _ _ _ _ c.requires.there c.loop-i.invariant.counting c.in-None.ensures.steps c.loop-i.invariant.spread
