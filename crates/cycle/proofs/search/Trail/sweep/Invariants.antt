-- `cycle::search::Trail::sweep` meets its contract.
use Rattle.cycle.specs.Search.{ranks, parents_of}
use Rattle.cycle.proofs.Ended.{AtomsEnded}
use Rattle.cycle.proofs.search.Trail.sweep.Given as goal

abbrev pub invariant-loop-atom : goal.invariant-loop-atom
invariant-loop-atom l = AtomsEnded l.table.words.now l.table.index.now l.initial.self.places (ranks l.initial.self) l.initial.self.left (parents_of l.initial.self) l.self.places (ranks l.self) l.self.left (parents_of l.self) l.atom
