-- `has_all`: each atom of the part is looked up.
use Rattle.std.proofs.Common.{rules, tests, sym, ◌∙◌}
use Rattle.std.proofs.lemmas.Iterator.Search.{all_from_yields_List}
use Rattle.std.proofs.lemmas.Iterator.Consumers.{YieldsList-from_first}
use Rattle.table.specs.Slices.{kept_of}
use Rattle.search_partners.specs.Stamps.{offset_of, is_stamped}
use Rattle.search_partners.proofs.Stamps.{all_listed}
use Rattle.search_partners.proofs.Stamped.has_all.Goals as goal

pub returns : goal.returns
returns c =
    let there = is_stamped c.args.self.now (offset_of c.args.part) in
    all_from_yields_List there c.all.new.self _ c.all.result c.all.ensures.ran (YieldsList-from_first (λ x. x) (λ s. kept_of s.words.now s.marks.now) {s = c.atoms.result} _ c.atoms.ensures) (λ x b q k. search (rules, tests)) ∙ sym (all_listed there _)
