-- `search_closure::put_back` meets its contract. The invariant: the places passed are counted on.
use mathlib.Core.Path.{◌≡◌}
use Prim.Native.Nat.{ℕ, ◌+◌}
use lib.ListN.{get_or, take}
use Rattle.step_parts.specs.declared.Part.TheVariants.{Pos}
use Rattle.step_parts.specs.Reading.{words_of, marks_of}
use Rattle.step_reach.proofs.Places.{Along}
use Rattle.search_closure.proofs.Counting.{CountingOn}
use Rattle.search_closure.proofs.put_back.Given as goal

abbrev pub invariant-loop-i : goal.invariant-loop-i
invariant-loop-i l =
    let q = l.fn.closure.queue.now in
    record {
      can_next : goal.iterator-loop-i.can_next l.i-iterator;
      is_finite : goal.iterator-loop-i.is_finite l.i-iterator;
      along : (k : ℕ) → l.fn.closure.top ≡ k + 1 → Along l.program.table Pos (get_or q k 0) l.i-iterator;
      counting : (k : ℕ) → l.fn.closure.top ≡ k + 1 → CountingOn (words_of l.program) (marks_of l.program) l.can (get_or q k 0) (take (k + 1) q) (take k q) l.first l.i-iterator.at l.missing l.least;
    }
