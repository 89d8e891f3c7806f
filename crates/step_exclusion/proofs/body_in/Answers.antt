-- `step_exclusion::body_in` meets its contract.
use mathlib.Core.Path.{◌∙◌}
use borrow.Author.Rules.{rules}
use Rattle.std.proofs.lemmas.Iterator.Search.{all_from_yields_List}
use Rattle.std.proofs.lemmas.Iterator.Consumers.{YieldsList-from_first}
use Rattle.table.specs.Slices.{kept_of}
use Rattle.step_reach.specs.Bytes.{in_bytes}
use Rattle.step_exclusion.proofs.Bools.{all_list}
use Rattle.step_exclusion.proofs.body_in.Goals as goal

pub returns : goal.returns
returns c =
    all_from_yields_List (in_bytes c.args.bytes.now) c.all.new.self _ _ c.all.ensures.ran (YieldsList-from_first (λ x. x) (λ s. kept_of s.words.now s.marks.now) _ c.atoms.ensures) (λ x b q k. search rules)
    ∙ all_list (in_bytes c.args.bytes.now) _
