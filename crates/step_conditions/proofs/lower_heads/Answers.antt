-- `step_conditions::lower_heads` meets its contract.
use mathlib.Core.Path.{sym}
use Rattle.table.proofs.Parts.{view_ascends}
use Rattle.step_parts.specs.Reading.{clause_of}
use Rattle.step_conditions.proofs.Heads.{tally_start, untally_room, untally_on, tally_end, heads_positive}
use Rattle.step_conditions.proofs.lower_heads.Goals as goal

pub loop-atom-init : goal.loop-atom-init
loop-atom-init c =
    let p = c.args.program.now in
    let head = (clause_of p c.args.t).head in
    (tt, tt, rw (c.into_iter-atom-iterator.ensures.into_iter_gives, c.atoms-atom-items.ensures) (tally_start head c.args.heads.now (view_ascends p.table.words.now p.marks.now p.table.placed.passed c.args.t).head))

pub lower-requires : goal.lower-requires
lower-requires c = untally_room _ _ _ _ _ c.loop-atom.invariant.2 c.in-Some.ensures.steps (heads_positive _ _ _ c.args.t c.requires.heads c.requires.kept)

pub loop-atom-preserved : goal.loop-atom-preserved
loop-atom-preserved c = (tt, tt, untally_on _ _ _ _ _ c.loop-atom.invariant.2 c.in-Some.ensures.steps (untally_room _ _ _ _ _ c.loop-atom.invariant.2 c.in-Some.ensures.steps (heads_positive _ _ _ c.args.t c.requires.heads c.requires.kept)) _ c.lower.ensures)

pub shape_of-heads : goal.shape_of-heads
shape_of-heads c = sym c.loop-atom.invariant.2.same

pub returns : goal.returns
returns c = tally_end _ _ _ c.in-None.ensures.steps.0 c.loop-atom.invariant.2
