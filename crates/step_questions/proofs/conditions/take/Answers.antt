-- `step_questions::take` meets its contract: the first no, or the step made.
use mathlib.Core.Path.{sym, ◌∙◌}
use Rattle.std.proofs.lemmas.Result.{err_from_is_err_and}
use Rattle.step_conditions.specs.Known.{step_of}
use Rattle.step_questions.proofs.Laws.{shape_inv, applies_of, not_shaped, not_holding, made}
use Rattle.step_questions.proofs.conditions.take.Goals as goal

pub returns-in_err-shape-clause-taken : goal.returns-in_err-shape-clause-taken
returns-in_err-shape-clause-taken c = let p = err_from_is_err_and c.from_residual.result c.from_residual.ensures.1 in rw (p.1, p.2) (not_shaped _ _ (step_of c.args.s) _ (sym c.in_err-shape.was ∙ c.shape.ensures))

pub condition-requires-clause-shaped : goal.condition-requires-clause-shaped
condition-requires-clause-shaped c = shape_inv _ _ (step_of c.args.s) (sym c.shape.ensures ∙ c.in_ok-shape.was)

pub returns-in_err-condition-clause-taken : goal.returns-in_err-condition-clause-taken
returns-in_err-condition-clause-taken c = let p = err_from_is_err_and c.from_residual-in_err-condition.result c.from_residual-in_err-condition.ensures.1 in
    rw (p.1, p.2) (not_holding _ _ (step_of c.args.s) _ (shape_inv _ _ (step_of c.args.s) (sym c.shape.ensures ∙ c.in_ok-shape.was)) (sym c.in_err-condition.was ∙ c.condition.ensures))

pub make-requires-clause-applies : goal.make-requires-clause-applies
make-requires-clause-applies c = applies_of _ _ (step_of c.args.s) (shape_inv _ _ (step_of c.args.s) (sym c.shape.ensures ∙ c.in_ok-shape.was)) (sym c.condition.ensures ∙ c.in_ok-condition.was)

pub returns-clause-taken : goal.returns-clause-taken
returns-clause-taken c = made _ _ (step_of c.args.s) _ (shape_inv _ _ (step_of c.args.s) (sym c.shape.ensures ∙ c.in_ok-shape.was)) (sym c.condition.ensures ∙ c.in_ok-condition.was) c.make.ensures.marks
