-- `step_conditions::cleared` meets its contract.
use mathlib.Core.Path.{sym, ◌∙◌}
use Rattle.step_conditions.proofs.Tests.{clears_pos, clears_neg, clears_first}
use Rattle.step_conditions.proofs.cleared.Goals as goal

pub returns-in-Success : goal.returns-in-Success
returns-in-Success c = rw c.in-Success.is (clears_pos _ _ _ _ c.place_of.ensures)

pub returns-in-NoHead : goal.returns-in-NoHead
returns-in-NoHead c = rw c.in-NoHead.is (clears_neg _ _ _ _ c.place_of-in-NoHead.ensures)

pub returns-in_default : goal.returns-in_default
returns-in_default c = c.first_word.ensures.is ∙ sym (clears_first _ c.args.kind _ _ c.in_default.not-Success c.in_default.not-NoHead)
