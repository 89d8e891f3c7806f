-- Questions 1 to 8, then the rest.
use mathlib.Core.Path.{refl, sym, ◌∙◌}
use Rattle.table.proofs.Encoding.{valid_passed}
use Rattle.answers.specs.Answers.{written_if}
use Rattle.reduced_table.specs.Reduced.{reduced_out}
use Rattle.reduced_table.proofs.Answers.{answer_table, answer_valid}
use Rattle.reduced_table.proofs.reduced_table.Goals as goal

pub returns-in_default : goal.returns-in_default
unfolding reduced_out written_if
returns-in_default c = let e = answer_table c.args.words.now c.args.marks.now c.args.out.now _ (sym c.check_table-checked.ensures ∙ c.in_default.is) in (rw c.in_default.is at c.map.ensures.cases ∙ sym e, rw e refl)

pub compact-requires : goal.compact-requires
compact-requires c = (valid_passed _ _ (sym c.check_table-checked.ensures ∙ c.in-Ok.is)).0

pub returns : goal.returns
unfolding reduced_out
returns c = let e = answer_valid c.args.words.now c.args.marks.now c.args.out.now _ (sym c.check_table-checked.ensures ∙ c.in-Ok.is) in rw e (c.compact.ensures.answer, c.compact.ensures.out)
