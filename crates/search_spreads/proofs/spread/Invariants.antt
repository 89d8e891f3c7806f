-- `spread`: the targets passed are done.
use Prim.Native.Nat.{◌-◌}
use Rattle.search_spreads.proofs.Spreads.{Spreading}
use Rattle.search_spreads.proofs.spread.Given as goal

abbrev pub invariant-loop-t : goal.invariant-loop-t
invariant-loop-t l = Spreading l.facts.program.now.table.words.now l.facts.program.now.marks.now l.initial.flags l.flags l.key.kind l.key.partner l.key.atom l.t

abbrev pub decreases-loop-t : goal.decreases-loop-t
decreases-loop-t l = l.t-end - l.t
