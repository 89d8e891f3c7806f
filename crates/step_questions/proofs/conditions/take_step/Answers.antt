-- `step_questions::take_step` meets its contract: the first word is the number of no kind, or of one.
use mathlib.Core.Path.{subst}
use Rattle.rewriting.specs.Kinds.{Kind, number}
use Rattle.step_conditions.specs.declared.Step.{Step}
use Rattle.step_conditions.specs.Known.{step_of}
use Rattle.step_questions.specs.Verdicts.{Taken}
use Rattle.step_questions.proofs.Laws.{not_known, words_taken}
use Rattle.step_questions.proofs.conditions.take_step.Goals as goal

pub returns-in_default-clause-taken : goal.returns-in_default-clause-taken
returns-in_default-clause-taken c = not_known _ _ c.args.words c.in_default.ensures.1

pub returns-clause-taken : goal.returns-clause-taken
returns-clause-taken c = words_taken _ _ c.args.words _ _ _ c.in-Ok.ensures
    (subst (λ (s : Step Kind). Taken c.args.table.now.words.now c.args.marks.now c.take.new.marks (number s.kind) (step_of s) c.take.result) c.new.ensures c.take.ensures.taken)
