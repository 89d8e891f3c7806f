-- `step_lists::check_list` meets its contract.
use mathlib.Core.Path.{sym, ◌∙◌}
use native.Mathlib.Omega.{arith}
use Rattle.table.proofs.Encoding.{valid_passed}
use Rattle.step_lists.proofs.Walks.{check_refused, check_9, check_11, leaves_made}
use Rattle.step_lists.proofs.check_list.Goals as goal

pub returns-in_default : goal.returns-in_default
returns-in_default c = let q = rw c.in_default.is at c.map.ensures.cases in rw q (check_refused _ _ _ _ (sym c.check_table-checked.ensures ∙ c.in_default.is))

pub returns-then-marks-words : goal.returns-then-marks-words
returns-then-marks-words c = check_9 _ _ _ _ (sym c.check_table-checked.ensures ∙ c.in-Ok.is) c.if-marks-words.true

pub returns-then-not-list_fits : goal.returns-then-not-list_fits
returns-then-not-list_fits c = check_11 _ _ _ _ (sym c.check_table-checked.ensures ∙ c.in-Ok.is) c.if-marks-words.false (sym c.list_fits.ensures ∙ c.if-not-list_fits.true)

pub check_steps-requires : goal.check_steps-requires
check_steps-requires c = record { passed = (valid_passed _ _ (sym c.check_table-checked.ensures ∙ c.in-Ok.is)).0; marked = omega (arith, c.keep_all.auto.marks, c.if-marks-words.false) }

pub returns : goal.returns
returns c = leaves_made _ _ _ _ (sym c.check_table-checked.ensures ∙ c.in-Ok.is) _ _ _ c.if-marks-words.false (sym c.list_fits.ensures ∙ c.if-not-list_fits.false) c.keep_all.ensures c.check_steps.ensures
