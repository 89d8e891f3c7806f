-- `Kept::next` meets its contract.
use mathlib.Core.Path.{sym, ap, ◌∙◌}
use native.Mathlib.Omega.{arith}
use lib.ListN.{length}
use Rattle.step_parts.proofs.Walked.{no_words, keeps_one, drops_one}
use Rattle.step_parts.proofs.atoms.KeptIterator.next.Goals as goal

pub returns-then-mark-eq1-clause-steps : goal.returns-then-mark-eq1-clause-steps
returns-then-mark-eq1-clause-steps c = sym c.loop-word.invariant ∙ keeps_one c.in-Some.ensures.cases.0 _ c.loop-word.self.long c.if-mark-eq1.true

pub returns-then-mark-eq1-clause-goes : goal.returns-then-mark-eq1-clause-goes
returns-then-mark-eq1-clause-goes c = let e = ap length (sym c.loop-word.invariant ∙ keeps_one c.in-Some.ensures.cases.0 _ c.loop-word.self.long c.if-mark-eq1.true) in record { on = λ _. (tt, tt, omega (arith, e)); keeps = tt; rests = λ _. tt }

pub loop-word-preserved : goal.loop-word-preserved
loop-word-preserved c = drops_one c.in-Some.ensures.cases.0 _ c.loop-word.self.long c.if-mark-eq1.false ∙ c.loop-word.invariant

pub returns-clause-steps : goal.returns-clause-steps
returns-clause-steps c = let e = no_words _ c.loop-word.self.marks.now c.in_default.ensures.cases in (sym c.loop-word.invariant ∙ e, e)
