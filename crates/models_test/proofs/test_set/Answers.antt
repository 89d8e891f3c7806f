-- `models_test::test_set` meets its contract.
use mathlib.Core.Path.{◌≡◌, refl, sym, ap, ◌∙◌}
use borrow.Author.Rules.{rules}
use Rattle.std.specs.Prelude.{Ok, Err}
use Rattle.std.proofs.lemmas.Result.{err_from_is_err_and}
use Rattle.semantics.specs.Lists.{bit}
use Rattle.models_test.proofs.Answered.{table_refused, set_refused, tested, testable}
use Rattle.models_test.proofs.test_set.Goals as goal

pub returns-in_default : goal.returns-in_default
returns-in_default c = (rw c.in_default.is at c.map.ensures.cases) ∙ sym (table_refused c.args.words.now c.args.set.now _ (sym c.check_table-checked.ensures ∙ c.in_default.is))

pub returns-in_err-check_set : goal.returns-in_err-check_set
returns-in_err-check_set c =
    let p = err_from_is_err_and c.from_residual.result c.from_residual.ensures.1 in
    p.1 ∙ ap Err p.2 ∙ sym (set_refused _ _ _ (sym c.check_table-checked.ensures ∙ c.in-Ok.is) _ refl _ (sym c.check_set.ensures ∙ c.in_err-check_set.was))

pub is_stable-requires : goal.is_stable-requires
is_stable-requires c = testable _ _ _ (sym c.check_table-checked.ensures ∙ c.in-Ok.is) _ refl _ (sym c.check_set.ensures ∙ c.in_ok-check_set.was)

pub returns : goal.returns
returns c =
    let e : c.from.result ≡ bit c.is_stable.result = search rules in
    ap Ok (e ∙ ap bit c.is_stable.ensures) ∙ sym (tested _ _ _ (sym c.check_table-checked.ensures ∙ c.in-Ok.is) _ refl _ (sym c.check_set.ensures ∙ c.in_ok-check_set.was))
