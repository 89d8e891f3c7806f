-- `delete_clause`: the reach, the heads, the mark, then what the step opens.
use mathlib.Core.Path.{sym, subst}
use native.Mathlib.Omega.{arith}
use lib.ListN.{get_or}
use Rattle.rewriting.specs.Marked.{entry}
use Rattle.rewriting.proofs.Effect.{target_kept_lem}
use Rattle.table.specs.View.{view}
use Rattle.step_conditions.specs.Known.{step_of, Tallied}
use Rattle.search_keys.specs.State.{State}
use Rattle.search_spreads.proofs.Limits.{applied_lt}
use Rattle.search_openings.specs.Opened.{AllFresh}
use Rattle.search_openings.proofs.Opens.{opened_more}
use Rattle.search_openings.proofs.Keeps.{state_deleted}
use Rattle.search_openings.proofs.delete_clause.Goals as goal

pub lower_heads-requires-clause-clause : goal.lower_heads-requires-clause-clause
lower_heads-requires-clause-clause c = omega (arith, c.from-t.ensures, applied_lt c.args.table.now.words.now c.args.marks.now (step_of c.args.step) c.requires.made.applies)

pub lower_heads-requires-clause-heads : goal.lower_heads-requires-clause-heads
lower_heads-requires-clause-heads c = c.requires.state.counted

pub lower_heads-requires-clause-kept : goal.lower_heads-requires-clause-kept
lower_heads-requires-clause-kept c = rw c.from-t.ensures (target_kept_lem (get_or c.args.table.now.words.now 0 0) (view c.args.table.now.words.now c.args.marks.now) (step_of c.args.step) c.requires.made.applies)

pub open_head-requires : goal.open_head-requires
open_head-requires c = omega (arith, c.from-t.ensures, applied_lt c.args.table.now.words.now c.args.marks.now (step_of c.args.step) c.requires.made.applies)

pub returns : goal.returns
returns c =
    let t = c.requires.made.applies in
    let u = step_of c.args.step in
    let flags' = c.open_head.new.flags in
    let hs' = c.lower_heads.new.heads in
    let g = c.lose_reach.ensures in
    let o = c.open_head.ensures in
    let l = subst (λ i. Tallied (entry (view c.args.table.now.words.now c.args.marks.now) i).clause.head hs' c.args.heads.now) c.from-t.ensures c.lower_heads.ensures in
    let a = subst (λ i. AllFresh flags' (entry (view c.args.table.now.words.now c.make_step.new.marks) i).clause.head) c.from-t.ensures o.fresh in
    let b = subst (λ k. AllFresh flags' (entry (view c.args.table.now.words.now k) c.args.step.target).clause.head) c.make_step.ensures a in record {
      marks = c.make_step.ensures;
      state = subst (λ k. State c.args.table.now.words.now k c.args.table.now.index.now hs' c.args.reach.now flags') (sym c.make_step.ensures)
          (state_deleted _ _ _ _ _ _ c.requires.state u t c.requires.made.on flags' (opened_more _ _ _ g.opened o.opened) hs' c.requires.deletes l (λ e. g.keeps (o.opened.grown 0 0 (omega arith) (omega arith) e)) b);
    }
