-- `reduce_table`: the questions one after the other.
use mathlib.Core.Path.{sym, ◌∙◌}
use native.Mathlib.Omega.{arith}
use Rattle.reducer.proofs.Answers.{begun, passed, refused_same, no_table, few_marks, no_room, done}
use Rattle.reducer.proofs.reduce_table.Goals as goal

pub returns-in_default : goal.returns-in_default
returns-in_default c = rw (refused_same c.check_table-checked.result _ _ c.map.ensures.cases c.in_default.is) (no_table _ _ _ _ (sym c.check_table-checked.ensures ∙ c.in_default.is))

pub returns-then-marks-words : goal.returns-then-marks-words
returns-then-marks-words c = few_marks c.args.words.now c.args.marks.now c.args.list.now _ (sym c.check_table-checked.ensures ∙ c.in-Ok.is) c.if-marks-words.true

pub returns-then-list-steps : goal.returns-then-list-steps
returns-then-list-steps c = no_room c.args.words.now c.args.marks.now c.args.list.now _ (sym c.check_table-checked.ensures ∙ c.in-Ok.is) c.if-marks-words.false (omega (arith, c.if-list-steps.true, c.most_steps-steps.ensures.room))

pub returns : goal.returns
returns c =
    let e = sym c.check_table-checked.ensures ∙ c.in-Ok.is in
    done c.args.words.now c.args.marks.now c.args.list.now _ e _ _ _ _ c.if-marks-words.false (omega (arith, c.if-list-steps.false, c.most_steps-steps.ensures.room)) c.keep_all.ensures c.reduce_kept.ensures

pub most_steps-steps-requires : goal.most_steps-steps-requires
most_steps-steps-requires c = passed _ _ (sym c.check_table-checked.ensures ∙ c.in-Ok.is)

pub reduce_kept-requires-clause-passed : goal.reduce_kept-requires-clause-passed
reduce_kept-requires-clause-passed c = passed _ _ (sym c.check_table-checked.ensures ∙ c.in-Ok.is)

pub reduce_kept-requires-clause-begun : goal.reduce_kept-requires-clause-begun
reduce_kept-requires-clause-begun c = begun _ _ _ _ (passed _ _ (sym c.check_table-checked.ensures ∙ c.in-Ok.is)) c.keep_all.ensures (omega (arith, c.if-list-steps.false, c.most_steps-steps.ensures.room))
