-- `step_parts::stands` meets its contract: an atom stands once in a part that ascends.
use native.Mathlib.Omega.{arith}
use Rattle.step_parts.proofs.Laws.{stands_not, stands_there}
use Rattle.step_parts.proofs.atoms.stands.Goals as goal

pub returns-then-part-at : goal.returns-then-part-at
returns-then-part-at c = stands_not _ _ _ _ c.requires.ascends c.requires.sought (λ h e. omega arith)

pub returns-then-part-at-2 : goal.returns-then-part-at-2
returns-then-part-at-2 c = stands_not _ _ _ _ c.requires.ascends c.requires.sought (λ h e. c.if-part-at-2.true e)

pub returns : goal.returns
returns c = stands_there _ _ _ _ c.requires.ascends c.requires.sought c.requires.long (omega arith) c.if-part-at-2.false
