-- `first_by_atom`: targets passed have no step; in the walk, what is left of the part decides.
use mathlib.Core.List.{List}
use Rattle.table.specs.Questions.{Passed}
use Prim.Native.Nat.{ℕ, ◌<◌, ◌≤◌, ◌+◌, ◌*◌}
use mathlib.Core.Path.{refl, sym, ap, ◌∙◌}
use native.Mathlib.Omega.{arith}
use lib.ListN.{length, get_or}
use Rattle.rewriting.specs.Kinds.{number}
use Rattle.rewriting.proofs.Rows.{number_bounds}
use Rattle.table.proofs.Encoding.{passed_limits}
use Rattle.std.specs.Prelude.{Some}
use Rattle.search_targets.proofs.Walks.{walk_on, walk_hit, walk_end, targets_end, targets_hit, stopped_there, stopped_end}
use Rattle.search_gaps.proofs.Sweeps.{swept_none, swept_clear, swept_all, swept_before}
use Rattle.search_flags.proofs.Changes.{inside_past, inside_clear}
use Rattle.search_targets.proofs.first_by_atom.Goals as goal
use Rattle.search_targets.proofs.first_by_atom.Goals.{then-flag_at-ne0+in-None, else-flag_at-ne0}

-- there are few clauses, and the target is one of them
few : (ws : List ℕ) (t m : ℕ) → Passed ws → t < m → m ≤ get_or ws 1 0 → (t < 2048) × (t < get_or ws 1 0)
few ws t m h a b = (omega (arith, a, b, (passed_limits ws h).few_clauses), omega (arith, a, b))

pub search-init : goal.search-init
search-init c = (refl, (swept_none _ _ _ _ c.requires.calm, c.requires.inside))

pub flag_at-requires-clause-place : goal.flag_at-requires-clause-place
flag_at-requires-clause-place c = (few _ _ _ c.requires.arrays.ready.placed.passed c.search-test.true c.requires.end).0

pub loop-atom-init : goal.loop-atom-init
loop-atom-init c = rw c.into_iter-atom-iterator.ensures.into_iter_gives (tt, tt, c.search.invariant.0, c.walk-atom-items.ensures)

pub loop-atom-preserved : goal.loop-atom-preserved
loop-atom-preserved c = (tt, tt, c.loop-atom.invariant.2, walk_on c.args.facts.now.program.now c.args.kind c.search.t _ c.loop-atom.invariant.3 _ _ c.in-Some.ensures.steps (sym c.passes.ensures ∙ c.if-passes.false))

pub search-preserved : goal.search-preserved
search-preserved c =
    let inv = c.search.invariant in
    let l = (few _ _ _ c.requires.arrays.ready.placed.passed c.search-test.true c.requires.end).0 in
    let s = inv.1.0 in
    let k = number_bounds c.args.kind in
    let r : number c.args.kind * 2048 + c.search.t < length c.search.flags = omega (arith, l, s.calm.rows.long, k) in
    elim c.if-flag_at-ne0.branch [
      | then-flag_at-ne0+in-None w ↦
          let e = walk_end c.args.facts.now.program.now c.args.kind c.search.t _ w.loop-atom.invariant.3 w.in-None.ensures.steps.0 in
          (w.found-is ∙ w.loop-atom.invariant.2, rw (w.flags-is, w.set_flag.ensures) (swept_clear _ _ _ _ _ s _ l e, inside_clear c.search.flags (number c.args.kind) c.search.t _ inv.1.1 r))
      | else-flag_at-ne0 w ↦
          (w.found-is ∙ inv.0, rw w.flags-is (s, inside_past c.search.flags (number c.args.kind) c.search.t _ inv.1.1 (sym c.flag_at.ensures ∙ w.if-flag_at-ne0.false)))
    ]

pub returns-after-search : goal.returns-after-search
returns-after-search c =
    let inv = c.search.invariant in
    let l = (passed_limits _ c.requires.arrays.ready.placed.passed).few_clauses in
    record {
      found = inv.0 ∙ targets_end c.args.facts.now.program.now.table.words.now c.args.facts.now.program.now.marks.now c.args.kind (swept_all _ _ _ _ _ inv.1.0 _ _ inv.1.1 l c.search-test.false);
      swept = inv.1.0;
      inside = stopped_end c.search.flags c.args.kind _ _ inv.1.1 _ inv.0 c.search-test.false;
    }

pub returns-then-passes : goal.returns-then-passes
returns-then-passes c =
    let inv = c.search.invariant in
    let l = (passed_limits _ c.requires.arrays.ready.placed.passed).few_clauses in
    let b = swept_before _ _ _ _ _ inv.1.0 c.search.t _ inv.1.1 l (omega (arith, c.search-test.true, c.requires.end)) in
    record {
      found = ap Some c.new.ensures ∙ targets_hit c.args.facts.now.program.now.table.words.now c.args.facts.now.program.now.marks.now c.args.kind c.search.t _ _ (omega (arith, c.search-test.true, c.requires.end)) b (walk_hit c.args.facts.now.program.now c.args.kind c.search.t _ c.loop-atom.invariant.3 _ _ c.in-Some.ensures.steps (sym c.passes.ensures ∙ c.if-passes.true));
      swept = inv.1.0;
      inside = stopped_there c.search.flags c.args.kind c.search.t _ inv.1.1 _ _ refl (ap (λ x. x.target) c.new.ensures);
    }

pub set_flag-requires-clause-place : goal.set_flag-requires-clause-place
set_flag-requires-clause-place c = (few _ _ _ c.requires.arrays.ready.placed.passed c.search-test.true c.requires.end).0
