-- `models_list::search::find_all` meets its contract.
use Rattle.models_masks.specs.UpTo.{items}
use Rattle.models_list.proofs.Finding.{Finding}
use Rattle.models_list.proofs.search.find_all.Given as goal

abbrev pub invariant-loop-x : goal.invariant-loop-x
invariant-loop-x l = Finding l.words (items l.found) l.x
