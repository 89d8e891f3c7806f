-- `reduced_marks::check_span` meets its contract.
use Prim.Native.Nat.{◌-◌}
use mathlib.Core.Path.{◌≡◌, sym, ◌∙◌}
use mathlib.Core.Bool.{◌||◌}
use lib.Dec.{ltb}
use lib.ListN.{take, drop}
use borrow.Author.Rules.{rules}
use Rattle.std.specs.List.{position}
use Rattle.std.proofs.lemmas.Iterator.{YieldsList-from_slice}
use Rattle.std.proofs.lemmas.Iterator.Search.{position_from_yields_List}
use Rattle.reduced_marks.proofs.Marks.{span_found, span_allowed}
use Rattle.reduced_marks.proofs.check_span.Goals as goal

pub returns-in-None : goal.returns-in-None
returns-in-None c =
    let e : c.position.result ≡ position (λ x. ltb x c.args.least || ltb 1 x) (take (c.args.end - c.args.at) (drop c.args.at c.args.marks.now)) =
    position_from_yields_List (λ x. ltb x c.args.least || ltb 1 x) _ _ _ c.position.ensures.ran (YieldsList-from_slice _ c.iter.ensures.rest) (λ x b q k. search rules) in
    sym (span_allowed c.args.marks.now c.args.least c.args.at c.args.end c.requires.order c.requires.within (sym e ∙ c.in-None.is))

pub returns-in-Some : goal.returns-in-Some
returns-in-Some c =
    let e : c.position.result ≡ position (λ x. ltb x c.args.least || ltb 1 x) (take (c.args.end - c.args.at) (drop c.args.at c.args.marks.now)) =
    position_from_yields_List (λ x. ltb x c.args.least || ltb 1 x) _ _ _ c.position.ensures.ran (YieldsList-from_slice _ c.iter.ensures.rest) (λ x b q k. search rules) in
    sym (span_found c.args.marks.now c.args.least c.args.at c.args.end c.requires.order c.requires.within _ (sym e ∙ c.in-Some.is))
