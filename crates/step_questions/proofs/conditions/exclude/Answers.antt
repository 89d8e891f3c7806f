-- `step_questions::exclude` meets its contract.
use mathlib.Core.Path.{refl, sym, ◌∙◌}
use Rattle.table.proofs.View.{after_off}
use Rattle.step_conditions.specs.Known.{step_of}
use Rattle.step_questions.proofs.conditions.exclude.Goals as goal

pub returns-clause-marks : goal.returns-clause-marks
returns-clause-marks c = c.remove_atom.ensures ∙ sym (after_off _ _ (step_of c.args.s) (rw c.requires.kind refl))

pub returns-clause-holding : goal.returns-clause-holding
returns-clause-holding c = c.forget.ensures.holding _ _ _ c.requires.holding
