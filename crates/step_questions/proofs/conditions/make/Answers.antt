-- `step_questions::make` meets its contract: what is known after a drop.
use mathlib.Core.Path.{refl, sym, ◌∙◌}
use Rattle.step_conditions.specs.Known.{step_of}
use Rattle.step_questions.proofs.Known.{after_drop}
use Rattle.step_questions.proofs.conditions.make.Goals as goal

pub returns-in_default : goal.returns-in_default
returns-in_default c = record {
  marks = c.make_step.ensures;
  same_reference = (refl, refl);
  holding = rw c.make_step.ensures (after_drop _ _ c.args.table.now.placed.passed c.requires.marked (step_of c.args.s) c.requires.applies (sym c.drops_literal.ensures ∙ c.if-drops_literal.true) _ c.requires.holding);
}
