-- `models_masks::Rule::holds` meets its contract.
use Rattle.models_masks.proofs.Failing.{holds_word}
use Rattle.models_masks.proofs.Rule.holds.Goals as goal

pub returns : goal.returns
returns c = holds_word c.args.self.now.body c.args.self.now.head c.args.x
