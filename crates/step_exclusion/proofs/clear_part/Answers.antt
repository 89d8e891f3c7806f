-- `step_exclusion::clear_part` meets its contract. The invariant: what is left to clear gives what the whole gives.
use native.Mathlib.Omega.{arith}
use mathlib.Core.Path.{refl, sym, ◌∙◌}
use lib.ListN.{length-set}
use Rattle.step_exclusion.proofs.Marks.{clear_past, clear_here, clear_end}
use borrow.Author.Rules.{rules}
use Rattle.step_exclusion.proofs.clear_part.Goals as goal

pub loop-i-init : goal.loop-i-init
loop-i-init c = (search rules, (search rules, (refl, refl)))

pub loop-i-preserved-then-words-i : goal.loop-i-preserved-then-words-i
loop-i-preserved-then-words-i c = (search rules, (search rules, (c.loop-i.invariant.1.1.0, clear_past _ _ _ _ _ c.loop-i-test.true c.if-words-i.true ∙ c.loop-i.invariant.1.1.1)))

pub loop-i-preserved : goal.loop-i-preserved
loop-i-preserved c = (search rules, (search rules, (simp length-set c.loop-i.invariant.1.1.0, clear_here _ _ _ _ _ c.loop-i-test.true c.if-words-i.false ∙ c.loop-i.invariant.1.1.1)))

pub returns : goal.returns
returns c = sym (clear_end c.args.words.now c.args.atom c.loop-i.i c.args.end c.loop-i.marks (omega arith)) ∙ c.loop-i.invariant.1.1.1
