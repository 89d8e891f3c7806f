-- `cycle::has_cycle` meets its contract.
use mathlib.Core.Path.{◌≡◌, sym, ap, ◌∙◌}
use borrow.Author.Rules.{rules}
use Rattle.semantics.specs.Lists.{bit}
use Rattle.table.proofs.Encoding.{valid_passed}
use Rattle.cycle.proofs.Answered.{table_refused, searched}
use Rattle.std.specs.Prelude.{Ok}
use Rattle.cycle.proofs.has_cycle.Goals as goal

pub returns-in_default : goal.returns-in_default
returns-in_default c = (rw c.in_default.is at c.map.ensures.cases) ∙ sym (table_refused c.args.words.now _ (sym c.check_table-checked.ensures ∙ c.in_default.is))

pub find_cycle-requires : goal.find_cycle-requires
find_cycle-requires c = (valid_passed _ _ (sym c.check_table-checked.ensures ∙ c.in-Ok.is)).0

pub returns : goal.returns
returns c =
    let e : c.from.result ≡ bit c.find_cycle.result = search rules in
    ap Ok (e ∙ ap bit c.find_cycle.ensures) ∙ sym (searched _ _ (sym c.check_table-checked.ensures ∙ c.in-Ok.is))
