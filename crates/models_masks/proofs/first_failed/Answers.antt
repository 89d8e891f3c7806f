-- `models_masks::first_failed` meets its contract.
use Rattle.std.proofs.Common.{rules, not}
use Rattle.std.proofs.lemmas.Iterator.{YieldsList-from_slice}
use Rattle.std.proofs.lemmas.Iterator.Search.{find_from_yields_List}
use Rattle.models_masks.specs.declared.Rule.{Rule}
use Rattle.models_masks.specs.Masks.{holds}
use Rattle.models_masks.proofs.Failing.{first_one}
use Rattle.models_masks.proofs.first_failed.Goals as goal

pub returns : goal.returns
returns c = first_one c.args.rules.now c.args.x _ (find_from_yields_List (λ (r : Rule). not (holds r.body r.head c.args.x)) _ _ _ c.find.ensures.ran (YieldsList-from_slice c.args.rules.now cc) (λ x b q k. search rules))
