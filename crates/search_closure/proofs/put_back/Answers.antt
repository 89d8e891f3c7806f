-- `search_closure::put_back` meets its contract.
use native.Mathlib.Omega.{arith}
use mathlib.Core.Path.{sym, ap, subst, ◌∙◌}
use Prim.Native.Nat.{ℕ, ◌+◌}
use lib.ListN.{length, get_or, take}
use Rattle.table.proofs.Encoding.{passed_limits}
use Rattle.step_parts.specs.Parts.{Latest}
use Rattle.step_parts.specs.declared.Part.TheVariants.{Pos}
use Rattle.step_parts.specs.Reading.{words_of, marks_of}
use Rattle.step_reach.proofs.Places.{place_here, place_next, place_along, Along}
use Rattle.search_closure.specs.Back.{Counted}
use Rattle.search_closure.proofs.Back.{newest_by, at_last}
use Rattle.search_closure.proofs.Counting.{CountingOn, counting_as, counting_start, counting_few, counting_on, counting_end}
use Rattle.search_closure.proofs.put_back.Goals as goal

pub places-i-items-requires : goal.places-i-items-requires
places-i-items-requires c = omega (arith, c.leave-atom.ensures.atom, (newest_by c.leave-atom.ensures.top c.requires.queued).below)

pub loop-i-init : goal.loop-i-init
loop-i-init c =
    let p = c.args.program.now in
    let ws = words_of p in
    let q = c.args.closure.now.queue.now in
    let e = c.leave-atom.ensures.top in
    let of = c.places-i-items.ensures.of in
    let missing = c.leave-atom.new.self.missing.now in
    let counted : Counted ws (marks_of p) (take (c.leave-atom.new.self.top + 1) q) missing = rw c.leave-atom.ensures.missing (subst (λ n. Counted ws (marks_of p) (take n q) c.args.closure.now.missing.now) e c.requires.counted) in
    let last = subst (λ b. Latest ws p.table.index.now Pos b (length ws) c.places-i-items.result.at) c.leave-atom.ensures.atom c.places-i-items.ensures.last in
    rw c.into_iter-i-iterator.ensures.into_iter_gives (record {
      can_next = tt;
      is_finite = tt;
      along = λ k d. at_last (λ (k : ℕ). Along p.table Pos (get_or q k 0) c.places-i-items.result) e d (of.0, of.1, of.2 ∙ c.leave-atom.ensures.atom);
      counting = λ k d. at_last (λ (k : ℕ). CountingOn ws (marks_of p) c.args.can.now (get_or q k 0) (take (k + 1) q) (take k q) c.args.first c.places-i-items.result.at missing c.args.first) e d (counting_start _ _ c.args.can.now _ _ _ _ p.table.placed.passed (newest_by e c.requires.queued) counted last);
    })

pub count_on-least-requires-clause-place : goal.count_on-least-requires-clause-place
count_on-least-requires-clause-place c = (place_here c.in-Some.ensures.steps (c.loop-i.invariant.along _ c.leave-atom.ensures.top)).0

pub count_on-least-requires-clause-clause : goal.count_on-least-requires-clause-clause
count_on-least-requires-clause-clause c = (place_here c.in-Some.ensures.steps (c.loop-i.invariant.along _ c.leave-atom.ensures.top)).1.clause

pub count_on-least-requires-clause-few : goal.count_on-least-requires-clause-few
count_on-least-requires-clause-few c =
    let g = c.in-Some.ensures.steps in
    let e = c.leave-atom.ensures.top in
    counting_few _ _ _ c.args.program.now.table.index.now _ _ _ c.args.program.now.table.placed.passed (newest_by e c.requires.queued) (counting_as (sym g.here) (c.loop-i.invariant.counting _ e)) (place_here g (c.loop-i.invariant.along _ e)).1

pub loop-i-preserved : goal.loop-i-preserved
loop-i-preserved c =
    let g = c.in-Some.ensures.steps in
    let p = c.args.program.now.table.placed.passed in
    let w = c.loop-i.invariant in
    let st = (place_here g (w.along _ c.leave-atom.ensures.top)).1 in
    record {
      can_next = tt;
      is_finite = tt;
      along = λ k d. place_along g (w.along k d);
      counting = λ k d. counting_on _ _ _ c.args.program.now.table.index.now _ _ _ p (newest_by d c.requires.queued) (counting_as (sym g.here) (w.counting k d)) (place_here g (w.along k d)).1 c.count_on-least.ensures (omega (arith, c.requires.room.counts, ap length c.leave-atom.ensures.missing, st.clause, (passed_limits _ p).few_clauses)) (place_next g (w.along k d));
    }

pub returns-clause-counted : goal.returns-clause-counted
returns-clause-counted c =
    let e = c.leave-atom.ensures.top in
    rw c.leave-atom.ensures.queue (counting_end _ _ _ c.args.program.now.table.index.now _ _ _ c.args.program.now.table.placed.passed (newest_by e c.requires.queued) (c.loop-i.invariant.counting _ e) c.in-None.ensures.steps).0

pub returns-clause-lowest : goal.returns-clause-lowest
returns-clause-lowest c =
    let e = c.leave-atom.ensures.top in
    rw (c.leave-atom.ensures.queue, e) (counting_end _ _ _ c.args.program.now.table.index.now _ _ _ c.args.program.now.table.placed.passed (newest_by e c.requires.queued) (c.loop-i.invariant.counting _ e) c.in-None.ensures.steps).1
