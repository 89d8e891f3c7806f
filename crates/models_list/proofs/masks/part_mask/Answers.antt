-- `models_list::masks::part_mask` meets its contract.
use Rattle.sorting.specs.Sorting.{below}
use Rattle.models_list.proofs.masks.part_mask.Goals as goal

pub returns : goal.returns
unfolding below
returns c = c.mask_of.ensures
