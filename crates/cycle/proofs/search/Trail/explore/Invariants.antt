-- `cycle::search::Trail::explore` meets its contract.
use Rattle.cycle.specs.Search.{atom_number, ranks, parents_of, Explored, size}
use Rattle.cycle.proofs.search.Trail.explore.Given as goal

abbrev pub invariant-loop-last : goal.invariant-loop-last
invariant-loop-last l = Explored l.table.words.now l.table.index.now l.initial.self.places (ranks l.initial.self) l.initial.self.left (parents_of l.initial.self) l.self.places (ranks l.self) l.self.left (parents_of l.self) (atom_number l.last)

abbrev pub decreases-loop-last : goal.decreases-loop-last
decreases-loop-last l = size l.self.places (ranks l.self) l.self.left
