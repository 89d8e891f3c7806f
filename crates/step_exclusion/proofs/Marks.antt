-- The marks after a step of kind 9, place by place and clause by clause.
use mathlib.Core.Path.{◌≡◌, sym, ap, ◌∙◌}
use mathlib.Core.Bool.{true, false, cond}
use mathlib.Core.List.{List}
use Prim.Native.Nat.{ℕ, suc, ◌+◌, ◌-◌, ◌≤◌, ◌<◌}
use native.Mathlib.Omega.{arith}
use native.Mathlib.Numerals.{add-one}
use lib.Dec.{eqb}
use lib.ListN.{get_or, set}
use borrow.Author.Tests.{eq-eqb, ne_eqb}
use Rattle.semantics.specs.Lists.{mem}
use Rattle.rewriting.specs.Marked.{entry}
use Rattle.table.specs.Places.{head_at, pos_at, neg_at, next_at, start_from, start_of}
use Rattle.table.specs.View.{part, entry_at, view}
use Rattle.table.proofs.Places.{start_suc}
use Rattle.table.proofs.View.{entry_view}
use Rattle.step_parts.specs.Parts.{Spanned}
use Rattle.step_parts.specs.declared.Part.{Part}
use Rattle.step_parts.specs.declared.Part.TheVariants.{Head, Neg}
use Rattle.step_parts.specs.declared.Bounds.{Bounds}
use Rattle.step_parts.proofs.Laws.{From, Size}
use Rattle.table.specs.Clearing.{clear_part, clear_clause, clear_from, marks_without}

-- ---- a part

module _ (ws : List ℕ) (a i end : ℕ) (ms : List ℕ) where
  clear_step : i < end → clear_part ws a i (end - i) ms ≡ clear_part ws a (i + 1) (end - (i + 1)) (cond (eqb a (get_or ws i 0)) (set ms i 0) ms)
  unfolding clear_part
  clear_step h = let e : end - i ≡ suc (end - (i + 1)) = omega arith in ap (λ k. clear_part ws a i k ms) e ∙ rw (add-one i)

  pub clear_past : i < end → (get_or ws i 0 ≡ a → ⊥) → clear_part ws a (i + 1) (end - (i + 1)) ms ≡ clear_part ws a i (end - i) ms
  clear_past h n = sym (clear_step h ∙ rw (ne_eqb a (get_or ws i 0) (λ e. n (sym e))))

  pub clear_here : i < end → get_or ws i 0 ≡ a → clear_part ws a (i + 1) (end - (i + 1)) (set ms i 0) ≡ clear_part ws a i (end - i) ms
  clear_here h e = sym (clear_step h ∙ rw (eq-eqb a (get_or ws i 0) (sym e)))

  pub clear_end : end ≤ i → clear_part ws a i (end - i) ms ≡ ms
  unfolding clear_part
  clear_end h = let e : end - i ≡ 0 = omega arith in rw e

pub clear_span : (ws : List ℕ) (a t : ℕ) (x : Part) (b : Bounds) (ms ks : List ℕ) → Spanned ws t x b → ks ≡ clear_part ws a b.from (b.end - b.from) ms → ks ≡ clear_part ws a (From ws (start_of ws t) x) (Size ws (start_of ws t) x) ms
clear_span ws a t x b ms ks s e = e ∙ ap (λ b. clear_part ws a b.from (b.end - b.from) ms) s.is

-- ---- a clause

module _ (ws : List ℕ) (a t : ℕ) (ms : List ℕ) (h : t < get_or ws 1 0) where
  kept_mark : eqb (get_or ms (start_of ws t) 0) 1 ≡ (entry (view ws ms) t).kept
  unfolding entry_at
  kept_mark = sym (ap (λ e. e.kept) (entry_view ws ms t h))

  pos_part : mem a (part ws ms (pos_at ws (start_of ws t)) (get_or ws (start_of ws t + 1) 0)) ≡ mem a (entry (view ws ms) t).clause.pos
  unfolding entry_at
  pos_part = sym (ap (λ e. mem a e.clause.pos) (entry_view ws ms t h))

  pub clause_gone : (entry (view ws ms) t).kept ≡ false → ms ≡ clear_clause ws a (start_of ws t) ms
  unfolding clear_clause
  clause_gone e = sym (rw (kept_mark ∙ e))

  pub clause_deleted : (at : ℕ) → at ≡ start_of ws t → (entry (view ws ms) t).kept ≡ true → mem a (entry (view ws ms) t).clause.pos ≡ true → set ms at 0 ≡ clear_clause ws a (start_of ws t) ms
  unfolding clear_clause
  clause_deleted at d e q = sym (rw (kept_mark ∙ e, pos_part ∙ q, d))

  pub clause_dropped : (entry (view ws ms) t).kept ≡ true → mem a (entry (view ws ms) t).clause.pos ≡ false → (hs ns : List ℕ)
      → hs ≡ clear_part ws a (From ws (start_of ws t) Head) (Size ws (start_of ws t) Head) ms → ns ≡ clear_part ws a (From ws (start_of ws t) Neg) (Size ws (start_of ws t) Neg) hs → ns ≡ clear_clause ws a (start_of ws t) ms
  unfolding clear_clause
  clause_dropped e q hs ns f g =
      let at = start_of ws t in
      let u : pos_at ws at - head_at at ≡ get_or ws at 0 = omega arith in
      let v : next_at ws at - neg_at ws at ≡ get_or ws (at + 2) 0 = omega arith in
      g ∙ ap (λ k. clear_part ws a (neg_at ws at) k hs) v ∙ ap (clear_part ws a (neg_at ws at) (get_or ws (at + 2) 0)) (f ∙ ap (λ k. clear_part ws a (head_at at) k ms) u) ∙ sym (rw (kept_mark ∙ e, pos_part ∙ q))

-- ---- a table

pub remove_on : (ws : List ℕ) (a m t : ℕ) (ms ks : List ℕ) → t < m → ks ≡ clear_clause ws a (start_of ws t) ms → clear_from ws a (m - (t + 1)) (start_of ws (t + 1)) ks ≡ clear_from ws a (m - t) (start_of ws t) ms
unfolding clear_from
remove_on ws a m t ms ks h e =
    let d : m - t ≡ suc (m - (t + 1)) = omega arith in
    ap (clear_from ws a (m - (t + 1)) (start_of ws (t + 1))) e ∙ ap (λ at. clear_from ws a (m - (t + 1)) at (clear_clause ws a (start_of ws t) ms)) (ap (start_of ws) (add-one t) ∙ start_suc ws 2 t) ∙ sym (ap (λ k. clear_from ws a k (start_of ws t) ms) d)

pub remove_start : (ws : List ℕ) (a : ℕ) (ms : List ℕ) → clear_from ws a (get_or ws 1 0 - 0) (start_of ws 0) ms ≡ marks_without ws ms a
unfolding marks_without start_from
remove_start ws a ms = let e : get_or ws 1 0 - 0 ≡ get_or ws 1 0 = omega arith in ap (λ k. clear_from ws a k 2 ms) e

pub remove_end : (ws : List ℕ) (a m t at : ℕ) (ms : List ℕ) → m ≤ t → clear_from ws a (m - t) at ms ≡ ms
unfolding clear_from
remove_end ws a m t at ms h = let e : m - t ≡ 0 = omega arith in rw e
