-- `make_step`: kind 9, kind 4, and the others.
use mathlib.Core.Path.{refl}
use native.Mathlib.Omega.{arith}
use Rattle.step_conditions.specs.Known.{step_of}
use Rattle.search_spreads.proofs.Limits.{applied_lt}
use Rattle.reducer.proofs.Makes.{after_nine, step_made, other_on_target, idle_made, idle_four}
use Rattle.reducer.proofs.make_step.Goals as goal

pub returns-in-Excluded : goal.returns-in-Excluded
returns-in-Excluded c = record { marks = after_nine _ _ _ c.args.step c.in-Excluded.is c.exclude.ensures.marks; state = c.exclude.ensures.state; idle = c.exclude.ensures.idle }

pub apply_step-requires-clause-made : goal.apply_step-requires-clause-made
apply_step-requires-clause-made c = step_made _ _ _ c.requires.found (rw c.in-NoHead.is refl)

pub returns-in-NoHead : goal.returns-in-NoHead
returns-in-NoHead c = record { marks = c.apply_step.ensures.marks; state = c.apply_step.ensures.state; idle = idle_four _ _ _ _ c.requires.state.ready c.args.step (step_made _ _ _ c.requires.found (rw c.in-NoHead.is refl)) c.apply_step.ensures.marks _ c.requires.idle _ _ c.from.ensures c.forget_at.ensures }

pub apply_step-requires-in_default-clause-made : goal.apply_step-requires-in_default-clause-made
apply_step-requires-in_default-clause-made c = step_made _ _ _ c.requires.found (other_on_target _ c.in_default.not-Excluded)

pub returns-in_default : goal.returns-in_default
returns-in_default c = record { marks = c.apply_step-in_default.ensures.marks; state = c.apply_step-in_default.ensures.state; idle = idle_made _ _ _ _ c.requires.state.ready c.args.step (step_made _ _ _ c.requires.found (other_on_target _ c.in_default.not-Excluded)) c.apply_step-in_default.ensures.marks _ c.requires.idle c.in_default.not-NoHead }

pub forget_at-requires : goal.forget_at-requires
forget_at-requires c = omega (arith, c.from.ensures, applied_lt c.args.table.now.words.now c.args.marks.now (step_of c.args.step) c.requires.found.applies)
