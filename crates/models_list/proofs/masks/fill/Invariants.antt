-- `models_list::masks::fill` meets its contract.
use Rattle.models_list.proofs.Filling.{Filling}
use Rattle.models_list.proofs.masks.fill.Given as goal

abbrev pub invariant-loop-k : goal.invariant-loop-k
invariant-loop-k l = Filling l.words l.masks l.k l.at
