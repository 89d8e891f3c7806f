-- `step_questions::atom_headed` meets its contract: 32 is asked of kind 7.
use Rattle.table.specs.View.{view}
use Rattle.step_conditions.specs.Known.{step_of}
use Rattle.step_questions.proofs.Laws.{headed_kind}
use Rattle.step_questions.proofs.Known.{headed_loop}
use Rattle.step_questions.proofs.conditions.atom_headed.Goals as goal

pub returns-in-Loop : goal.returns-in-Loop
returns-in-Loop c = λ ws ms k. headed_loop _ _ _ _ (step_of c.args.s) _ c.in-Loop.is k c.no_head.ensures

pub returns-in_default : goal.returns-in_default
returns-in_default c = λ ws ms k. headed_kind (view ws ms) (step_of c.args.s) c.in_default.not-Loop
