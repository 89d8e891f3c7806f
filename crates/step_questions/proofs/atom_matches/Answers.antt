-- `step_questions::atom_matches` meets its contract: 29 is asked of kind 3.
use Rattle.step_questions.proofs.Laws.{success_partner}
use Rattle.step_conditions.specs.Known.{step_of}
use Rattle.step_questions.proofs.atom_matches.Goals as goal

pub only-requires : goal.only-requires
only-requires c = rw c.from.ensures (success_partner _ _ (step_of c.args.s) c.in-Success.is c.requires)
