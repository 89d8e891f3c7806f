-- `models_list::list_models` meets its contract.
use mathlib.Core.Path.{sym, ◌∙◌}
use native.Mathlib.Omega.{arith}
use Rattle.table.proofs.Encoding.{passed_limits, valid_passed}
use Rattle.models_list.proofs.Answered.{call_refused, call_many, call_narrow, call_done}
use Rattle.models_list.proofs.list_models.Goals as goal

pub returns-in_default : goal.returns-in_default
returns-in_default c = let (a, b) = call_refused c.args.words.now c.args.out.now _ (sym c.check_table-checked.ensures ∙ c.in_default.is) in ((rw c.in_default.is at c.map.ensures.cases) ∙ a, b)

pub bounds-words-0 : goal.bounds-words-0
bounds-words-0 c = omega (arith, (passed_limits _ (valid_passed _ _ (sym c.check_table-checked.ensures ∙ c.in-Ok.is)).0).long)

pub returns-then-words-gt-MAX_ATOMS : goal.returns-then-words-gt-MAX_ATOMS
returns-then-words-gt-MAX_ATOMS c = call_many c.args.words.now c.args.out.now (valid_passed _ _ (sym c.check_table-checked.ensures ∙ c.in-Ok.is)).0 c.if-words-gt-MAX_ATOMS.true

pub all_models-requires-clause-listable : goal.all_models-requires-clause-listable
all_models-requires-clause-listable c = record { passed = (valid_passed _ _ (sym c.check_table-checked.ensures ∙ c.in-Ok.is)).0; few = c.if-words-gt-MAX_ATOMS.false }

pub returns-then-out-models : goal.returns-then-out-models
returns-then-out-models c = call_narrow c.args.words.now c.args.out.now (valid_passed _ _ (sym c.check_table-checked.ensures ∙ c.in-Ok.is)).0 c.if-words-gt-MAX_ATOMS.false _ (c.as_slice-models.ensures ∙ c.all_models.ensures) c.if-out-models.true

pub returns : goal.returns
returns c = call_done c.args.words.now c.args.out.now (valid_passed _ _ (sym c.check_table-checked.ensures ∙ c.in-Ok.is)).0 c.if-words-gt-MAX_ATOMS.false _ (c.as_slice-models.ensures ∙ c.all_models.ensures) _ c.if-out-models.false c.copy_from_slice.ensures.after
