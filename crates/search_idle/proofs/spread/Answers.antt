-- `search_idle::spread` meets its contract.
use native.Mathlib.Omega.{arith}
use mathlib.Core.List.Memᴰ
use Rattle.step_parts.specs.Reading.{program_of}
use Rattle.step_reach.proofs.Queue.{queued_few, queued_at}
use Rattle.search_idle.proofs.Forgets.{onward_none, onward_trans, met_all, first_on, first_end}
use Rattle.search_idle.proofs.spread.Goals as goal

pub loop-k-init : goal.loop-k-init
loop-k-init c = (onward_none _ _ _ _ c.args.set.now.queued, omega arith, λ a m. absurd (Memᴰ.not-nil m))

pub offset_bounds-set-k : goal.offset_bounds-set-k
offset_bounds-set-k c = omega (arith, queued_few c.loop-k.set.queued)

pub bounds-set-k : goal.bounds-set-k
bounds-set-k c = omega (arith, queued_few c.loop-k.set.queued, c.loop-k.set.queued.room)

pub spread_atom-requires-clause-room : goal.spread_atom-requires-clause-room
spread_atom-requires-clause-room c = omega (arith, c.requires, c.loop-k.invariant.0.later.long)

pub spread_atom-requires-clause-atom : goal.spread_atom-requires-clause-atom
spread_atom-requires-clause-atom c = c.loop-k.set.queued.below _ (queued_at _ c.loop-k.set.queued c.loop-k-test.true)

pub overflow_add-k : goal.overflow_add-k
overflow_add-k c = omega (arith, queued_few c.loop-k.set.queued)

pub loop-k-smaller : goal.loop-k-smaller
loop-k-smaller c = omega (arith, queued_few c.loop-k.set.queued)

pub loop-k-preserved : goal.loop-k-preserved
loop-k-preserved c =
    let p = c.args.program.now in
    let f = c.spread_atom.ensures in
    (onward_trans c.loop-k.invariant.0 f.onward, omega (arith, f.onward.later.longer), first_on (program_of p) c.loop-k.k c.loop-k-test.true c.loop-k.set.queued f.onward (met_all p.table.words.now p.marks.now _ _ _ f.met) c.loop-k.invariant.2)

pub returns : goal.returns
returns c = first_end (program_of c.args.program.now) c.loop-k.k (omega (arith, c.loop-k.invariant.1)) c.loop-k.invariant.0 c.loop-k.invariant.2
