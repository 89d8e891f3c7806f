-- `models_test::kept::fill` meets its contract.
use Rattle.models_masks.specs.UpTo.{items}
use Rattle.models_test.proofs.Listing.{Filling}
use Rattle.models_test.proofs.kept.fill.Given as goal

abbrev pub invariant-loop-k : goal.invariant-loop-k
invariant-loop-k l = Filling l.words l.set (items l.rules) l.k l.at
