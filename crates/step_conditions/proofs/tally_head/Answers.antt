-- `step_conditions::tally_head` meets its contract.
use Rattle.table.proofs.Parts.{view_ascends}
use Rattle.step_parts.specs.Reading.{clause_of}
use Rattle.step_conditions.proofs.Heads.{tally_start, tally_room, tally_on, tally_end}
use Rattle.step_conditions.proofs.tally_head.Goals as goal

pub loop-atom-init : goal.loop-atom-init
loop-atom-init c =
    let p = c.args.program.now in
    let head = (clause_of p c.args.t).head in
    (tt, tt, rw (c.into_iter-atom-iterator.ensures.into_iter_gives, c.atoms-atom-items.ensures) (tally_start head c.args.heads.now (view_ascends p.table.words.now p.marks.now p.table.placed.passed c.args.t).head))

pub bump-requires : goal.bump-requires
bump-requires c = tally_room _ _ _ _ _ c.loop-atom.invariant.2 c.in-Some.ensures.steps c.requires.room

pub loop-atom-preserved : goal.loop-atom-preserved
loop-atom-preserved c = (tt, tt, tally_on _ _ _ _ _ c.loop-atom.invariant.2 c.in-Some.ensures.steps _ c.bump.ensures)

pub shape_of-heads : goal.shape_of-heads
shape_of-heads c = c.loop-atom.invariant.2.same

pub returns : goal.returns
returns c = tally_end _ _ _ c.in-None.ensures.steps.0 c.loop-atom.invariant.2
