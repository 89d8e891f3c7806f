-- `spread_along`: the places passed are done.
use mathlib.Core.Path.{sym, subst}
use Rattle.step_parts.proofs.Walk.{walk_start, walk_at, walk_before, walk_on}
use Rattle.search_spreads.proofs.Clues.{SpreadAlong, along_none, along_on, along_end}
use Rattle.search_spreads.proofs.spread_along.Goals as goal

pub loop-i-init : goal.loop-i-init
loop-i-init c =
    let p = c.args.facts.now.program.now in
    let last = c.places-i-items.ensures.last in
    rw c.into_iter-i-iterator.ensures.into_iter_gives (tt, tt, along_none _ p.marks.now _ _ _ _ _ _ _ _ p.table.placed.passed last, walk_start p.table c.args.part c.args.a (λ t. Unit {0}) _ c.places-i-items.ensures.of last)

pub owner-requires : goal.owner-requires
owner-requires c = (walk_at c.args.facts.now.program.now.table c.args.part c.args.a c.in-Some.ensures.steps (λ t. Unit {0}) c.loop-i.invariant.3).0

pub spread_one-requires-clause-target : goal.spread_one-requires-clause-target
spread_one-requires-clause-target c = rw c.owner.ensures (walk_at c.args.facts.now.program.now.table c.args.part c.args.a c.in-Some.ensures.steps (λ t. Unit {0}) c.loop-i.invariant.3).1.clause

pub loop-i-preserved : goal.loop-i-preserved
loop-i-preserved c =
    let p = c.args.facts.now.program.now in
    let k = c.args.key in
    let g = c.in-Some.ensures.steps in
    let w = c.loop-i.invariant.3 in
    let along = subst (λ i. SpreadAlong p.table.words.now p.marks.now p.table.index.now c.args.flags.now c.loop-i.flags k.kind k.partner k.atom c.args.part c.args.a i) (sym g.here) c.loop-i.invariant.2 in (
      tt,
      tt,
      along_on _ _ _ _ _ _ _ _ _ _ _ along p.table.placed.passed g.there _ (walk_before p.table c.args.part c.args.a g (λ t. Unit {0}) w) _ _ c.owner.ensures (c.spread_one.ensures.raising, c.spread_one.ensures.covered),
      walk_on p.table c.args.part c.args.a g (λ t. Unit {0}) (λ t. Unit {0}) (λ t h x. tt) tt w,
    )

pub returns : goal.returns
returns c = along_end _ _ _ _ _ _ _ _ _ _ _ c.loop-i.invariant.2 c.args.facts.now.program.now.table.placed.passed c.in-None.ensures.steps c.requires.clue
