-- `Marked::kept` meets its contract.
use Rattle.step_parts.proofs.Laws.{kept_entry, ready}
use Rattle.step_parts.proofs.marked.Marked.kept.Goals as goal

pub returns : goal.returns
returns c = kept_entry _ _ _ (ready c.args.self.now) c.args.t _ c.requires c.first_word.ensures.is
