-- What is known after a step. A drop changes neither the kept heads of an atom nor the reach. A deletion takes the heads of its clause; the reach stays where the clause did
-- not fire, as that of a failure or a loop step.
use mathlib.Core.Path.{◌≡◌, sym, ap, subst, ◌∙◌}
use mathlib.Core.Logic.{by_cases}
use mathlib.Core.Bool.{not, ◌&&◌, So}
use mathlib.Core.List.{List}
use Prim.Native.Nat.{ℕ, ◌+◌, ◌≤◌}
use native.Mathlib.Omega.{arith}
use native.Mathlib.Decide.{dec_lt}
use lib.ListN.{length, get_or, get_or-eq_default}
use Rattle.semantics.specs.Lists.{mem, bit}
use Rattle.semantics.proofs.Tests.{so_ext, so_false}
use Rattle.rewriting.specs.Marked.{Marked, entry, left}
use Rattle.rewriting.specs.Reaches.{reach}
use Rattle.rewriting.specs.Steps.{Step, applies, effect}
use Rattle.rewriting.specs.Kinds.{on_target}
use Rattle.rewriting.specs.Uses.{drops, asks_heads}
use Rattle.rewriting.proofs.Rows.{drop_on_target, heads_on_target}
use Rattle.rewriting.proofs.Effect.{drop_reach, heads_idle, idle_reach}
use Rattle.rewriting.proofs.Counts.{heads, heads_effect}
use Rattle.table.specs.Questions.{Passed}
use Rattle.table.specs.View.{view}
use Rattle.table.specs.Effects.{marks_after}
use Rattle.table.proofs.View.{view_after}
use Rattle.step_reach.specs.Bytes.{Reached}
use Rattle.step_conditions.specs.Known.{head_count, Heads, Tallied}

module _ (n : ℕ) (P : Marked) (s : Step) (h : So (applies n P s)) (d : So (drops s.kind)) where
  drop_heads : (a : ℕ) → head_count (left (effect P s)) a ≡ head_count (left P) a
  unfolding heads
  drop_heads a = omega (arith, subst (λ b. heads (effect P s) a + bit (not b && mem a (entry P s.target).clause.head) ≡ heads P a) d (heads_effect n P s h (drop_on_target s.kind d) a))

  same_reach : (a : ℕ) → reach (left (effect P s)) a ≡ reach (left P) a
  same_reach a = let w = drop_reach n P s h (drop_on_target s.kind d) d a in so_ext _ _ w.1 w.0

module _ (ws ms : List ℕ) (passed : Passed ws) (long : length ws ≤ length ms) (n : ℕ) (s : Step) (h : So (applies n (view ws ms) s)) (d : So (drops s.kind)) where
  pub heads_stay : (hs : List ℕ) → Heads ws ms hs → Heads ws (marks_after ws ms s) hs
  heads_stay hs k = record { is = λ a. k.is a ∙ sym (drop_heads n (view ws ms) s h d a) ∙ ap (λ P. head_count (left P) a) (sym (view_after ws ms passed long n s h)) }

  pub reached_stays : (rs : List ℕ) → Reached ws ms rs → Reached ws (marks_after ws ms s) rs
  reached_stays rs k = record { is = λ a. k.is a ∙ sym (same_reach n (view ws ms) s h d a) ∙ ap (λ P. reach (left P) a) (sym (view_after ws ms passed long n s h)) }

-- A clause deleted: one less at each of its head atoms.
pub heads_lowered : (ws ms : List ℕ) → Passed ws → length ws ≤ length ms → (n : ℕ) (s : Step) → So (on_target s.kind) → So (applies n (view ws ms) s) → ¬ So (drops s.kind)
    → (hs hs' : List ℕ) → Heads ws ms hs → Tallied (entry (view ws ms) s.target).clause.head hs' hs → Heads ws (marks_after ws ms s) hs'
unfolding heads
heads_lowered ws ms passed long n s o h d hs hs' k c = record {
  is = λ a.
      let e = heads_effect n (view ws ms) s h o a in
      let q = ap (λ b. bit (not b && mem a (entry (view ws ms) s.target).clause.head)) (so_false _ d) in
      let g = k.is a in
      by_cases (dec_lt a (length hs'))
      (λ l. let v = c.at a l in omega (arith, e, q, v, g) ∙ ap (λ P. head_count (left P) a) (sym (view_after ws ms passed long n s h)))
      (λ l. let v : get_or hs' a 0 ≡ 0 = get_or-eq_default hs' 0 (omega arith) in
      let w : get_or hs a 0 ≡ 0 = get_or-eq_default hs 0 (omega (arith, c.same)) in
      omega (arith, e, v, w, g) ∙ ap (λ P. head_count (left P) a) (sym (view_after ws ms passed long n s h)));
}

-- A failure or a loop step: the reach stays.
pub reached_idle : (ws ms : List ℕ) → Passed ws → length ws ≤ length ms → (n : ℕ) (s : Step) → So (applies n (view ws ms) s) → ¬ So (drops s.kind) → So (asks_heads s.kind)
    → (rs : List ℕ) → Reached ws ms rs → Reached ws (marks_after ws ms s) rs
reached_idle ws ms passed long n s h d x rs k = record {
  is = λ a. let w = idle_reach n (view ws ms) s h (heads_on_target s.kind x) d (heads_idle n (view ws ms) s h (heads_on_target s.kind x) x d) a in
      k.is a ∙ so_ext _ _ w.0 w.1 ∙ ap (λ P. reach (left P) a) (sym (view_after ws ms passed long n s h));
}
