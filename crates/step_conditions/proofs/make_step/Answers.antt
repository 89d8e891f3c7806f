-- `step_conditions::make_step` meets its contract: the mark of an applicable step is one of the table's.
use native.Mathlib.Omega.{arith}
use Rattle.step_conditions.specs.Known.{step_of}
use Rattle.step_conditions.proofs.Tests.{clears_at, clears_fits, step_fits, after_is}
use Rattle.step_conditions.proofs.make_step.Goals as goal

pub cleared-at-requires : goal.cleared-at-requires
cleared-at-requires c = omega (arith, (step_fits _ c.args.table.now.words.now c.args.marks.now (step_of c.args.s) c.requires.applies).0, c.from.ensures)

pub bounds-marks-at : goal.bounds-marks-at
bounds-marks-at c = clears_fits _ _ _ _ (step_of c.args.s) _ (record { placed = c.args.table.now.placed; marks = c.requires.long }) c.requires.kind c.requires.applies (clears_at _ (step_of c.args.s) _ _ c.from.ensures c.cleared-at.ensures)

pub returns : goal.returns
returns c = after_is _ _ (step_of c.args.s) _ c.requires.kind (clears_at _ (step_of c.args.s) _ _ c.from.ensures c.cleared-at.ensures)
