-- `run_steps`: what is done so far, with what is left to do, is the whole.
use mathlib.Core.Path.{refl, ◌∙◌}
use native.Mathlib.Omega.{arith}
use Rattle.search_first.proofs.Searches.{found_nothing}
use Rattle.reducer.proofs.Runs.{running_none, running_end, running_room, running_step, found_made}
use Rattle.reducer.proofs.run_steps.Goals as goal

pub loop-step-init : goal.loop-step-init
loop-step-init c = ((refl, (refl, refl)), ((c.requires.state, c.requires.idle), running_none _ _ _ c.requires.state.ready.marks c.requires.begun))

pub returns-in_default : goal.returns-in_default
returns-in_default c = running_end _ _ _ _ _ _ c.requires.state.ready.placed.passed c.loop-step.invariant.1.1 (found_nothing _ c.in_default.ensures.found)

pub loop-step-smaller : goal.loop-step-smaller
loop-step-smaller c =
    let e = c.in-Some.ensures.found in
    let t = found_made c.args.table.now.words.now c.loop-step.marks _ e in
    let r = running_room _ _ _ _ _ _ c.requires.state.ready.placed.passed c.loop-step.invariant.1.1 _ t.0.applies in
    omega arith

pub loop-step-preserved : goal.loop-step-preserved
loop-step-preserved c =
    let e = c.in-Some.ensures.found in
    let t = found_made c.args.table.now.words.now c.loop-step.marks _ e in
    let i = c.loop-step.invariant.0 in (
      (c.make_step.auto.marks ∙ i.0, (c.write_step.auto.list ∙ i.1.0, c.make_step.auto.idle ∙ c.first_step-found.auto.idle ∙ i.1.1)),
      ((c.make_step.ensures.state, c.make_step.ensures.idle), rw (c.make_step.ensures.marks, c.write_step.ensures) (running_step _ _ _ _ _ _ c.requires.state.ready.placed.passed c.loop-step.invariant.1.1 _ t.0 t.1)),
    )

pub write_step-requires : goal.write_step-requires
write_step-requires c =
    let t = found_made c.args.table.now.words.now c.loop-step.marks _ c.in-Some.ensures.found in
    (running_room _ _ _ _ _ _ c.requires.state.ready.placed.passed c.loop-step.invariant.1.1 _ t.0.applies).1

pub make_step-requires-clause-found : goal.make_step-requires-clause-found
make_step-requires-clause-found c = (found_made c.args.table.now.words.now c.loop-step.marks _ c.in-Some.ensures.found).0
