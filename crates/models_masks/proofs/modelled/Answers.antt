-- `models_masks::modelled` meets its contract.
use Rattle.std.proofs.Common.{rules}
use Rattle.std.proofs.lemmas.Iterator.{YieldsList-from_slice}
use Rattle.std.proofs.lemmas.Iterator.Search.{all_from_yields_List}
use Rattle.models_masks.specs.declared.Rule.{Rule}
use Rattle.models_masks.specs.Masks.{holds, modelled}
use Rattle.models_masks.proofs.modelled.Goals as goal

pub returns : goal.returns
unfolding modelled
returns c = all_from_yields_List (λ (r : Rule). holds r.body r.head c.args.x) _ _ _ c.all.ensures.ran (YieldsList-from_slice c.args.rules.now cc) (λ x b q k. search rules)
