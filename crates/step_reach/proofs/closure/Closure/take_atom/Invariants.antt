-- `Closure::take_atom` meets its contract. The invariant: the places passed are counted off.
use Prim.Native.Nat.{◌+◌}
use lib.ListN.{get_or, take}
use Rattle.step_parts.specs.declared.Part.TheVariants.{Pos}
use Rattle.step_parts.specs.Reading.{words_of, marks_of}
use Rattle.step_reach.specs.Growing.{HasRoom, HasSpread, IsSameClosure}
use Rattle.step_reach.proofs.Counts.{CountingOff}
use Rattle.step_reach.proofs.Places.{Along}
use Rattle.step_reach.proofs.closure.Closure.take_atom.Given as goal

abbrev pub invariant-loop-i : goal.invariant-loop-i
invariant-loop-i l =
    let q = l.initial.self.queue.now in
    record {
      can_next : goal.iterator-loop-i.can_next l.i-iterator;
      is_finite : goal.iterator-loop-i.is_finite l.i-iterator;
      along : Along l.program.table Pos (get_or q l.k 0) l.i-iterator;
      same : IsSameClosure l.initial.self l.self;
      room : HasRoom l.program l.self;
      spread : HasSpread l.program l.initial.self l.self;
      counting : CountingOff (words_of l.program) (marks_of l.program) (get_or q l.k 0) (take (l.k + 1) q) l.i-iterator.at l.self.bytes.now l.self.missing.now;
    }
