-- `search_closure::take_back` meets its contract. The invariant: the atoms of the queue that have left are put back.
use mathlib.Core.Path.{◌≡◌}
use Prim.Native.Nat.{◌≤◌}
use lib.ListN.{length}
use Rattle.step_parts.specs.Reading.{words_of, marks_of}
use Rattle.step_reach.specs.Growing.{IsQueued, HasRoom, IsSameClosure}
use Rattle.search_closure.proofs.Back.{TakingBack}
use Rattle.search_closure.proofs.take_back.Given as goal

abbrev pub invariant-loop-closure : goal.invariant-loop-closure
invariant-loop-closure l =
    let s = l.closure in
    record {
      same : IsSameClosure l.initial.closure s;
      queued : IsQueued s;
      room : HasRoom l.program s;
      queue : s.queue.now ≡ l.initial.closure.queue.now;
      from : l.from ≤ s.top;
      todo : length l.todo ≡ length l.initial.todo;
      taking : TakingBack (words_of l.program) (marks_of l.program) l.can s.queue.now l.first l.initial.closure.top s.top l.initial.todo s.missing.now l.todo l.least;
    }

abbrev pub decreases-loop-closure : goal.decreases-loop-closure
decreases-loop-closure l = l.closure.top
