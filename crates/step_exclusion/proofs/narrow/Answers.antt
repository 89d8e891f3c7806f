-- `step_exclusion::narrow` meets its contract.
use native.Mathlib.Omega.{arith}
use mathlib.Core.Path.{refl, sym, ◌∙◌}
use lib.ListN.{length-set}
use Rattle.step_exclusion.proofs.Sets.{narrow_start, narrow_past, narrow_at, narrow_end}
use Rattle.step_exclusion.proofs.narrow.Goals as goal

pub loop-t-init : goal.loop-t-init
loop-t-init c = (c.clause_count-t-end.ensures, omega arith, refl, narrow_start _ _ _ c.args.program.now.table.placed.passed c.copy_marks.ensures)

pub loop-t-preserved-then-is_definite : goal.loop-t-preserved-then-is_definite
loop-t-preserved-then-is_definite c = (c.loop-t.invariant.0, omega arith, c.loop-t.invariant.2, narrow_past _ _ _ _ c.loop-t.invariant.3 (sym c.is_definite.ensures ∙ c.if-is_definite.true))

pub loop-t-preserved : goal.loop-t-preserved
loop-t-preserved c = (c.loop-t.invariant.0, omega arith, simp length-set c.loop-t.invariant.2, narrow_at _ _ _ _ _ c.first_word-at.ensures.is c.loop-t.invariant.3 (omega (arith, c.loop-t.invariant.0)) (omega (arith, c.first_word-at.ensures.fits, c.loop-t.invariant.2, c.requires)) (sym c.is_definite.ensures ∙ c.if-is_definite.false))

pub returns : goal.returns
returns c = narrow_end _ _ c.loop-t.t _ (omega (arith, c.loop-t.invariant.0)) c.loop-t.invariant.3
