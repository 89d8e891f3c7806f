-- `step_questions::condition_holds` meets its contract: kind 9, and the others.
use mathlib.Core.Path.{refl, ◌∙◌}
use Rattle.rewriting.specs.Steps.{condition, condition_holds}
use Rattle.step_conditions.specs.Known.{step_of}
use Rattle.step_questions.proofs.Laws.{on_target_unless, shape_fits}
use Rattle.step_questions.proofs.conditions.condition_holds.Goals as goal

pub excluded-requires-clause-target : goal.excluded-requires-clause-target
excluded-requires-clause-target c = rw c.from-t.ensures (shape_fits _ _ _ (step_of c.args.s) c.requires.shaped).0

pub holds-requires : goal.holds-requires
holds-requires c = let f = shape_fits _ _ _ (step_of c.args.s) c.requires.shaped in
    record { target = rw c.from-t.ensures f.0; partner = rw c.from-p.ensures f.1; kind = on_target_unless _ c.in_default.not-Excluded; known = c.requires.known }

pub returns-in-Excluded : goal.returns-in-Excluded
unfolding condition condition_holds
returns-in-Excluded c = c.excluded.ensures ∙ rw (c.from-t.ensures, c.in-Excluded.is) refl

pub returns-in_default : goal.returns-in_default
unfolding condition_holds
returns-in_default c = c.holds.ensures ∙ rw (c.from-t.ensures, c.from-p.ensures) refl
