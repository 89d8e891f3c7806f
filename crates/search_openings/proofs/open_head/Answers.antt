-- `open_head`: the atoms passed are done.
use Rattle.search_openings.proofs.Opens.{opening_none, opening_first, opening_on, opening_all}
use Rattle.search_openings.proofs.open_head.Goals as goal

pub loop-atom-init : goal.loop-atom-init
loop-atom-init c =
    let p = c.args.program.now in
    (tt, tt, rw (c.into_iter-atom-iterator.ensures.into_iter_gives, c.atoms-atom-items.ensures) (opening_none p.table.words.now p.marks.now c.args.flags.now c.args.t p.table.placed.passed))

pub open_atom-requires : goal.open_atom-requires
open_atom-requires c = rw c.from.ensures (opening_first _ _ _ _ c.loop-atom.invariant.2 _ _ c.in-Some.ensures.steps)

pub loop-atom-preserved : goal.loop-atom-preserved
loop-atom-preserved c = (tt, tt, opening_on _ _ _ _ c.loop-atom.invariant.2 _ _ c.in-Some.ensures.steps _ c.open_atom.ensures.opened (rw c.from.ensures at c.open_atom.ensures.fresh))

pub returns : goal.returns
returns c = let e = opening_all _ _ _ _ c.loop-atom.invariant.2 c.in-None.ensures.steps.0 in record { opened = e.0; fresh = e.1 }
