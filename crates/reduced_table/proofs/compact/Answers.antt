-- Each way out, with the answer of the question that led there.
use mathlib.Core.Path.{refl, sym, ap, ◌∙◌}
use native.Mathlib.Omega.{arith}
use Rattle.std.specs.Prelude.{Ok, Err}
use Rattle.std.proofs.lemmas.Result.{err_from_is_err_and}
use Rattle.answers.specs.Answers.{written_if}
use Rattle.answers.proofs.Slices.{sets_written}
use Rattle.reduced_sizes.specs.Leaves.{reduced}
use Rattle.reduced_table.proofs.Answers.{answer_few, answer_mark, answer_room, answer_accepted}
use Rattle.reduced_table.proofs.compact.Goals as goal

pub returns-then-marks-words : goal.returns-then-marks-words
unfolding written_if
returns-then-marks-words c = let e = answer_few c.args.words.now c.args.marks.now c.args.out.now c.if-marks-words.true in rw e (record { answer = refl; out = refl })

pub returns-in_err-check_marks : goal.returns-in_err-check_marks
unfolding written_if
returns-in_err-check_marks c =
    let p = err_from_is_err_and c.from_residual.result c.from_residual.ensures.1 in
    let e = answer_mark c.args.words.now c.args.marks.now c.args.out.now c.if-marks-words.false _ (sym c.check_marks.ensures ∙ c.in_err-check_marks.was) in
    rw e (record { answer = p.1 ∙ ap Err p.2; out = refl })

pub returns-then-out-size : goal.returns-then-out-size
unfolding written_if
returns-then-out-size c = let e = answer_room c.args.words.now c.args.marks.now c.args.out.now c.if-marks-words.false _ (sym c.check_marks.ensures ∙ c.in_ok-check_marks.was) (omega (arith, c.left_size-size.ensures)) in rw e (record { answer = refl; out = refl })

pub write_reduced-requires : goal.write_reduced-requires
write_reduced-requires c = record { ready = record { passed = c.requires; marked = c.if-marks-words.false }; room = omega (arith, c.left_size-size.ensures) }

pub returns : goal.returns
unfolding written_if
returns c = let e = answer_accepted c.args.words.now c.args.marks.now c.args.out.now c.if-marks-words.false _ (sym c.check_marks.ensures ∙ c.in_ok-check_marks.was) (omega (arith, c.left_size-size.ensures)) in rw e (record { answer = ap Ok c.left_size-size.ensures; out = c.write_reduced.ensures ∙ sets_written (reduced c.args.words.now c.args.marks.now) c.args.out.now (omega (arith, c.left_size-size.ensures)) })
