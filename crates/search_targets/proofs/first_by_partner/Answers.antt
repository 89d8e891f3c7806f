-- `first_by_partner`: targets passed have no step; in the walk, the partners passed make none, and the flags stay.
use mathlib.Core.List.{List}
use Rattle.table.specs.Questions.{Passed}
use Prim.Native.Nat.{ℕ, ◌<◌, ◌≤◌, ◌+◌, ◌*◌}
use mathlib.Core.Path.{refl, sym, ap, ◌∙◌}
use native.Mathlib.Omega.{arith}
use lib.ListN.{get_or, set}
use borrow.Author.Count.{below_more}
use Rattle.rewriting.specs.Kinds.{number}
use Rattle.rewriting.proofs.Rows.{number_bounds}
use Rattle.table.proofs.Encoding.{passed_limits}
use Rattle.std.specs.Prelude.{Some}
use Rattle.search_flags.proofs.Changes.{inside_past, inside_clear, inside_set}
use Rattle.search_targets.proofs.Walks.{partners_none, partners_hit, targets_end, targets_hit, stopped_there, stopped_end}
use Rattle.search_gaps.proofs.Sweeps.{swept_none, swept_clear, swept_all, swept_before, swept_later, calm_from}
use Rattle.search_gaps.proofs.Gaps.{swept_then}
use Rattle.step_parts.proofs.Laws.{ready}
use Rattle.search_targets.proofs.first_by_partner.Goals as goal
use Rattle.search_targets.proofs.first_by_partner.Goals.{then-flag_at-ne0+else-e-from+else-loop-p-test, else-flag_at-ne0}

-- there are few clauses, and the target is one of them
few : (ws : List ℕ) (t m : ℕ) → Passed ws → t < m → m ≤ get_or ws 1 0 → (t < 2048) × (t < get_or ws 1 0)
few ws t m h a b = (omega (arith, a, b, (passed_limits ws h).few_clauses), omega (arith, a, b))

pub search-init : goal.search-init
search-init c = (refl, (swept_none _ _ _ _ c.requires.calm, c.requires.inside))

pub search-preserved-then-e-from : goal.search-preserved-then-e-from
search-preserved-then-e-from c =
    let inv = c.search.invariant in
    let k = c.requires.kind in
    let l = (few _ _ _ (ready c.args.program.now).placed.passed c.search-test.true c.requires.end).0 in
    let z = c.lift.ensures in
    let e = partners_none c.args.program.now.table.words.now c.args.program.now.marks.now c.args.kind _ _ c.partners_end-e.ensures k (λ q h. calm_from _ _ _ _ z.swept.calm k c.search.t q (omega (arith, c.flag_at-from.ensures, c.if-e-from.true))) in
    (inv.0, rw c.set_flag.ensures (swept_clear _ _ _ _ _ (swept_then _ _ _ _ _ _ inv.1.0 z.swept) _ l e, inside_clear c.lift.new.flags (number c.args.kind) c.search.t _ (z.inside _ _ inv.1.1) (omega (arith, l, z.swept.calm.rows.long, number_bounds c.args.kind))))

pub loop-p-init : goal.loop-p-init
loop-p-init c =
    let inv = c.search.invariant in
    let k = c.requires.kind in (
      inv.0,
      (c.partners_end-e.ensures, (c.stamp_clause.ensures.stamps, (refl, λ q l. calm_from _ _ _ _ c.lift.ensures.swept.calm k c.search.t q (omega (arith, c.flag_at-from.ensures))))),
    )

pub loop-p-smaller : goal.loop-p-smaller
loop-p-smaller c = omega (arith, c.loop-p-test.true)

pub loop-p-preserved : goal.loop-p-preserved
loop-p-preserved c =
    let i = c.loop-p.invariant in
    (i.0, (i.1.0, (i.1.1.0, (i.1.1.1.0, below_more _ _ i.1.1.1.1 (sym c.partner_eligible.ensures ∙ c.if-partner_eligible.false)))))

pub search-preserved : goal.search-preserved
search-preserved c =
    let inv = c.search.invariant in
    let l = (few _ _ _ (ready c.args.program.now).placed.passed c.search-test.true c.requires.end).0 in
    let s = inv.1.0 in
    let k = number_bounds c.args.kind in
    elim c.if-flag_at-ne0.branch [
      | then-flag_at-ne0+else-e-from+else-loop-p-test w ↦
          let i = w.loop-p.invariant in
          let z = w.lift.ensures in
          let e = partners_none c.args.program.now.table.words.now c.args.program.now.marks.now c.args.kind _ _ i.1.0 c.requires.kind (λ q k. i.1.1.1.1 q (omega (arith, w.loop-p-test.false))) in
          (w.found-is ∙ i.0, rw (w.flags-is, w.set_flag-then-flag_at-ne0.ensures, i.1.1.1.0) (swept_clear _ _ _ _ _ (swept_then _ _ _ _ _ _ s z.swept) _ l e, inside_clear w.lift.new.flags (number c.args.kind) c.search.t _ (z.inside _ _ inv.1.1) (omega (arith, l, z.swept.calm.rows.long, k))))
      | else-flag_at-ne0 w ↦
          (w.found-is ∙ inv.0, rw w.flags-is (s, inside_past c.search.flags (number c.args.kind) c.search.t _ inv.1.1 (sym c.flag_at.ensures ∙ w.if-flag_at-ne0.false)))
    ]

pub returns-after-search : goal.returns-after-search
returns-after-search c =
    let inv = c.search.invariant in
    let l = (passed_limits _ (ready c.args.program.now).placed.passed).few_clauses in
    record {
      found = inv.0 ∙ targets_end c.args.program.now.table.words.now c.args.program.now.marks.now c.args.kind (swept_all _ _ _ _ _ inv.1.0 _ _ inv.1.1 l c.search-test.false);
      swept = inv.1.0;
      inside = stopped_end c.search.flags c.args.kind _ _ inv.1.1 _ inv.0 c.search-test.false;
    }

pub returns-then-partner_eligible : goal.returns-then-partner_eligible
returns-then-partner_eligible c =
    let k = c.requires.kind in
    let i = c.loop-p.invariant in
    let inv = c.search.invariant in
    let l = (passed_limits _ (ready c.args.program.now).placed.passed).few_clauses in
    let t = (few _ _ _ (ready c.args.program.now).placed.passed c.search-test.true c.requires.end).0 in
    let f = c.lift.ensures.flagged in
    let b = swept_before _ _ _ _ _ inv.1.0 c.search.t _ inv.1.1 l (omega (arith, c.search-test.true, c.requires.end)) in
    rw (c.set_flag-then-partner_eligible.ensures, i.1.1.1.0) (record {
      found = ap Some c.step_with.ensures ∙ (targets_hit c.args.program.now.table.words.now c.args.program.now.marks.now c.args.kind c.search.t _ _ (omega (arith, c.search-test.true, c.requires.end)) b
          (partners_hit _ _ _ _ _ i.1.0 k _ c.loop-p-test.true i.1.1.1.1 (sym c.partner_eligible.ensures ∙ c.if-partner_eligible.true)));
      swept = swept_later _ _ _ _ _ (swept_then _ _ _ _ _ _ inv.1.0 c.lift.ensures.swept) k c.search.t c.loop-p.p t f i.1.1.1.1;
      inside = stopped_there (set c.lift.new.flags (number c.args.kind * 2048 + c.search.t) (c.loop-p.p + 1)) c.args.kind c.search.t _ (inside_set c.lift.new.flags (number c.args.kind) c.search.t (c.loop-p.p + 1) (omega (arith, number_bounds c.args.kind)) t (λ e. absurd (f e)) _ _ (c.lift.ensures.inside _ _ inv.1.1)) _ _ refl (ap (λ x. x.target) c.step_with.ensures);
    })

pub flag_at-requires-clause-place : goal.flag_at-requires-clause-place
flag_at-requires-clause-place c = (few _ _ _ (ready c.args.program.now).placed.passed c.search-test.true c.requires.end).0

pub flag_at-from-requires-clause-place : goal.flag_at-from-requires-clause-place
flag_at-from-requires-clause-place c = (few _ _ _ (ready c.args.program.now).placed.passed c.search-test.true c.requires.end).0

pub set_flag-requires-clause-place : goal.set_flag-requires-clause-place
set_flag-requires-clause-place c = (few _ _ _ (ready c.args.program.now).placed.passed c.search-test.true c.requires.end).0

pub set_flag-requires-then-partner_eligible-clause-place : goal.set_flag-requires-then-partner_eligible-clause-place
set_flag-requires-then-partner_eligible-clause-place c = (few _ _ _ (ready c.args.program.now).placed.passed c.search-test.true c.requires.end).0

pub set_flag-requires-then-flag_at-ne0-clause-place : goal.set_flag-requires-then-flag_at-ne0-clause-place
set_flag-requires-then-flag_at-ne0-clause-place c = (few _ _ _ (ready c.args.program.now).placed.passed c.search-test.true c.requires.end).0

pub set_flag-requires-then-partner_eligible-clause-word : goal.set_flag-requires-then-partner_eligible-clause-word
set_flag-requires-then-partner_eligible-clause-word c = omega (arith, c.loop-p-test.true, c.partners_end-e.ensures.most, (passed_limits _ c.args.program.now.table.placed.passed).few_clauses)
