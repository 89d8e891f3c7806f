-- `step_exclusion::copy_marks` meets its contract. The invariant: the marks before i are copied.
use native.Mathlib.Omega.{arith}
use mathlib.Core.Path.{refl}
use lib.ListN.{length-set}
use borrow.Author.Rules.{rules}
use Rattle.step_exclusion.proofs.Sets.{copy_on}
use Rattle.step_exclusion.proofs.copy_marks.Goals as goal

pub loop-i-init : goal.loop-i-init
loop-i-init c = (refl, (search rules, (refl, λ j h. absurd (omega arith))))

pub loop-i-preserved : goal.loop-i-preserved
loop-i-preserved c = (refl, (search rules, (simp length-set c.loop-i.invariant.1.1.0, copy_on c.args.program.now.marks.now c.loop-i.only c.loop-i.i (omega arith) c.loop-i.invariant.1.1.1)))

pub returns : goal.returns
returns c = λ j h. c.loop-i.invariant.1.1.1 j (omega arith)
