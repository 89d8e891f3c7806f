-- `cycle::search::Trail::new` meets its contract.
use mathlib.Core.Path.{◌≡◌}
use lib.ListN.{length}
use Rattle.cycle.specs.Search.{AtLast}
use Rattle.cycle.proofs.search.Trail.new.Given as goal

abbrev pub invariant-loop-atom : goal.invariant-loop-atom
invariant-loop-atom l = record {
  long : length l.places ≡ 1024;
  last : AtLast l.table.words.now l.table.index.now l.places l.atom;
}
