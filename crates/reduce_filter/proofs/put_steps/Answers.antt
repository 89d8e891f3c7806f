-- `reduce_filter::put_steps` meets its contract. The loop's invariant: the lines of the steps left, written from here on, give them all. Assumes nothing.
use mathlib.Core.Path.{sym, ◌∙◌}
use native.Mathlib.Omega.{arith}
use Rattle.std.proofs.lemmas.List.{length_push}
use Rattle.text_writer.proofs.Laws.{puts_long, left_end}
use Rattle.reduce_filter.proofs.Laws.{step_before, step_words, step_rest, steps_over, steps_room, steps_left, steps_none}
use Rattle.reduce_filter.proofs.put_steps.Goals as goal

pub put_line-requires : goal.put_line-requires
put_line-requires c =
    let t = c.in-Some.ensures.steps.1 in
    let e = sym c.loop-step.invariant.rest ∙ t.0 in
    let n = t.1 ∙ c.loop-step.invariant.size in
    rw (step_words _ _ _ c.requires.inside _ _ e n) (record { room = steps_room _ _ _ (step_before _ _ _ c.requires.inside _ _ e n) _ _ _ _ _ c.loop-step.invariant.left c.requires.room })

pub loop-step-preserved : goal.loop-step-preserved
loop-step-preserved c =
    let t = c.in-Some.ensures.steps.1 in
    let e = sym c.loop-step.invariant.rest ∙ t.0 in
    let n = t.1 ∙ c.loop-step.invariant.size in
    let written = rw (step_words _ _ _ c.requires.inside _ _ e n) at c.put_line.ensures.written in
    rw (length_push c.loop-step.yielded c.in-Some.step) (record {
      same_reference = c.put_line.ensures.same_reference ∙ c.loop-step.invariant.same_reference;
      size = c.in-Some.ensures.steps.0 ∙ c.loop-step.invariant.size;
      rest = step_rest _ _ _ c.requires.inside _ _ e n;
      left = steps_left _ _ _ (step_before _ _ _ c.requires.inside _ _ e n) _ _ _ _ _ c.loop-step.invariant.left _ _ (puts_long _ _ _ _ _ written) written;
    })

pub returns-clause-written : goal.returns-clause-written
returns-clause-written c =
    let t = c.in-None.ensures.steps.1 in
    left_end _ _ _ _ _ _ c.loop-step.invariant.left (steps_none _ _ _ _ (steps_over _ _ _ c.requires.inside _ c.loop-step.invariant.rest (omega (arith, t.0, c.loop-step.invariant.size))))
