-- `search_closure::take_back` meets its contract.
use native.Mathlib.Omega.{arith}
use mathlib.Core.Path.{◌≡◌, sym, ap, subst, ◌∙◌}
use lib.ListN.{get_or, take, length-set}
use Rattle.step_parts.specs.Reading.{words_of, marks_of, clause_count}
use Rattle.step_reach.proofs.Queue.{queued_few}
use Rattle.step_reach.proofs.Counts.{same_trans}
use Rattle.search_closure.specs.Back.{Full, First}
use Rattle.search_closure.proofs.Back.{newest_by, taking_on, taking_end}
use Rattle.search_closure.proofs.take_back.Goals as goal

pub offset_bounds-closure-closure : goal.offset_bounds-closure-closure
offset_bounds-closure-closure c = omega (arith, queued_few c.loop-closure.invariant.queued, c.put_back-least.ensures.top)

pub bounds-closure-closure : goal.bounds-closure-closure
bounds-closure-closure c = omega (arith, queued_few c.loop-closure.invariant.queued, c.put_back-least.ensures.top, c.put_back-least.ensures.queued.room)

pub bounds-todo-from : goal.bounds-todo-from
bounds-todo-from c =
    let e = c.from.ensures ∙ ap (λ q. get_or q c.put_back-least.new.closure.top 0) c.put_back-least.ensures.queue in
    omega (arith, e, (newest_by c.put_back-least.ensures.top c.loop-closure.invariant.queued).below, c.requires.todo, c.loop-closure.invariant.todo)

pub loop-closure-preserved : goal.loop-closure-preserved
loop-closure-preserved c =
    let f = c.put_back-least.ensures in
    let w = c.loop-closure.invariant in
    record {
      same = same_trans w.same f.same_reference;
      queued = f.queued;
      room = f.room;
      queue = f.queue ∙ w.queue;
      from = omega (arith, f.top);
      todo = simp length-set w.todo;
      taking = taking_on _ _ _ _ _ _ w.taking f.top f.queue c.from.ensures w.queued (omega (arith, c.requires.todo, w.todo)) f.counted f.lowest;
    }

pub returns-clause-first : goal.returns-clause-first
returns-clause-first c =
    let p = c.args.program.now in
    let w = c.loop-closure.invariant in
    let e : c.loop-closure.closure.top ≡ c.args.from = omega (arith, w.from) in
    let f = subst (λ q. First (Full (words_of p) (marks_of p) c.args.can.now (take c.args.from q)) (clause_count p.table) c.args.first) (sym w.queue) c.requires.first in
    subst (λ q. First (Full (words_of p) (marks_of p) c.args.can.now (take c.args.closure.now.top q)) (clause_count p.table) c.loop-closure.least) w.queue (taking_end _ _ _ _ _ _ w.taking c.args.from e f)
