-- Laws of the conditions and of the mark that a step clears.
use mathlib.Core.Path.{◌≡◌, refl, sym, ap, subst, ◌∙◌}
use mathlib.Core.Logic.{◌≢◌}
use mathlib.Core.Bool.{Bool, true, false, cond, So}
use mathlib.Core.List.{List, [], ◌∷◌}
use Prim.Native.Nat.{ℕ, zero, suc, ◌+◌, ◌-◌, ◌≤◌, ◌<◌}
use native.Mathlib.Omega.{arith}
use lib.ListN.{length, get_or, set, take, drop, length-take, length-drop}
use lib.Seq.{get_or-take, get_or-drop}
use Rattle.std.specs.Prelude.{Option, Some, None}
use Rattle.std.specs.Option.{MatchOption, unwrap_or}
use Rattle.std.specs.List.{AllWithin, HoldsAt}
use borrow.Author.Tests.{eq-eqb, ne_eqb}
use Rattle.rewriting.specs.Steps.{Step, applies}
use Rattle.rewriting.specs.Kinds.{Kind, success, no_head, drops_pos, drops_neg, row_of, uses_partner, on_target}
use Rattle.rewriting.proofs.Rows.{each_kind}
use Rattle.rewriting.proofs.Left.{kept_lt}
use Rattle.rewriting.proofs.Sound.{applies_ask}
use Rattle.rewriting.proofs.Search.{partner_lt}
use Rattle.table.specs.Places.{pos_at, neg_at, next_at, start_of}
use Rattle.table.specs.View.{view}
use Rattle.table.specs.Effects.{find, cleared_by, clears, marks_after}
use Rattle.table.proofs.View.{length_view, clears_lt, after_on}
use Rattle.step_parts.specs.declared.Part.TheVariants.{Pos, Neg}
use Rattle.semantics.specs.Lists.{single}
use Rattle.step_parts.specs.Parts.{Ready, single_of}
use Rattle.step_conditions.specs.Known.{place_in}

-- ---- a list with one element

pub single_one : (f : ℕ → Bool) (l : List ℕ) (b : ℕ) → single_of l ≡ Some b → single f l ≡ f b
single_one f [] b e = let z : ◌≡◌ {A = ℕ} 0 1 = cc in absurd (omega arith)
single_one f (x ∷ []) b e = let z : x ≡ b = cc in ap f z
single_one f (x ∷ y ∷ l) b e = let z : ◌≡◌ {A = ℕ} 0 1 = cc in absurd (omega arith)

pub single_other : (f : ℕ → Bool) (l : List ℕ) → single_of l ≡ None → single f l ≡ false
single_other f [] e = refl
single_other f (x ∷ []) e = let z : ◌≡◌ {A = ℕ} 0 1 = cc in absurd (omega arith)
single_other f (x ∷ y ∷ l) e = refl

-- a step that drops nothing clears its target's first mark
pub clears_first : (ws : List ℕ) (k : Kind) (at a : ℕ) → k ≢ success → k ≢ no_head → cleared_by ws (row_of k).deed at a ≡ at
clears_first ws k at a = each_kind (λ k. k ≢ success → k ≢ no_head → cleared_by ws (row_of k).deed at a ≡ at)
    (λ d e. refl) (λ d e. refl) (λ d e. absurd (d refl)) (λ d e. absurd (e refl)) (λ d e. refl) (λ d e. refl) (λ d e. refl) (λ d e. refl) (λ d e. refl) k

-- ---- the place of a word

first_at : (ws : List ℕ) (a o k r : ℕ) → r ≤ k → ((i : ℕ) → i < r → get_or ws (o + i) 0 ≡ a → ⊥) → (r < k → get_or ws (o + r) 0 ≡ a) → o + r ≡ find ws a o k
unfolding find
first_at ws a o zero r l f h = omega arith
first_at ws a o (suc k) zero l f h =
    let z : o + 0 ≡ o = omega arith in
    let e : get_or ws o 0 ≡ a = subst (λ i. get_or ws i 0 ≡ a) z (h (omega arith)) in
    rw (eq-eqb (get_or ws o 0) a e) z
first_at ws a o (suc k) (suc r) l f h =
    let z : o + 0 ≡ o = omega arith in
    let n : get_or ws o 0 ≡ a → ⊥ = subst (λ i. get_or ws i 0 ≡ a → ⊥) z (f 0 (omega arith)) in
    let on : (i : ℕ) → o + suc i ≡ suc o + i = λ i. omega arith in
    on r ∙ rw (ne_eqb (get_or ws o 0) a n) (first_at ws a (suc o) k r (omega arith) (λ i q. subst (λ j. get_or ws j 0 ≡ a → ⊥) (on i) (f (suc i) (omega arith))) (λ q. subst (λ j. get_or ws j 0 ≡ a) (on r) (h (omega arith))))

-- what a walk over a part's words finds
pub find_by : (ws : List ℕ) (a o k : ℕ) (r : Option ℕ) → o + k ≤ length ws
    → MatchOption r (AllWithin (λ w. w ≡ a → ⊥) (take k (drop o ws)) 0 (length (take k (drop o ws)))) (λ i. (i < length (take k (drop o ws))) × HoldsAt (λ w. w ≡ a) (take k (drop o ws)) i × AllWithin (λ w. w ≡ a → ⊥) (take k (drop o ws)) 0 i)
    → o + unwrap_or r (length (take k (drop o ws))) ≡ find ws a o k
find_by ws a o k r l m = go r m
  where
    long : length (take k (drop o ws)) ≡ k
    long = simp (length-take, length-drop) (omega arith)

    at : (i : ℕ) → i < k → get_or (take k (drop o ws)) i 0 ≡ get_or ws (o + i) 0
    at i h = get_or-take k (drop o ws) i 0 h ∙ get_or-drop o ws i 0

    go : (r : Option ℕ) → MatchOption r (AllWithin (λ w. w ≡ a → ⊥) (take k (drop o ws)) 0 (length (take k (drop o ws)))) (λ i. (i < length (take k (drop o ws))) × HoldsAt (λ w. w ≡ a) (take k (drop o ws)) i × AllWithin (λ w. w ≡ a → ⊥) (take k (drop o ws)) 0 i)
        → o + unwrap_or r (length (take k (drop o ws))) ≡ find ws a o k
    go None f = ap (λ n. o + n) long ∙ first_at ws a o k k (omega arith) (λ i h e. f i 0 (omega arith) (omega (arith, long)) (at i h ∙ e)) (λ h. absurd (omega arith))
    go (Some i) (h, e, f) = let q : i < k = omega (arith, long) in first_at ws a o k i (omega arith) (λ j g d. f j 0 (omega arith) g (at j (omega arith) ∙ d)) (λ _. sym (at i q) ∙ e 0)

-- ---- a step

-- an applicable step's clauses are among the table's
pub step_fits : (n : ℕ) (ws ms : List ℕ) (s : Step) → So (applies n (view ws ms) s) → (s.target < get_or ws 1 0) × (s.partner < get_or ws 1 0)
step_fits n ws ms s h =
    let w = applies_ask n (view ws ms) s h in
    let t : s.target < get_or ws 1 0 = omega (arith, kept_lt (view ws ms) s.target w.0, length_view ws ms) in
    (t, go (uses_partner s.kind) (partner_lt (uses_partner s.kind) (view ws ms) s.target s.partner w.1) t)
  where
    go : (b : Bool) → s.partner < cond b (length (view ws ms)) 1 → s.target < get_or ws 1 0 → s.partner < get_or ws 1 0
    go true l t = omega (arith, length_view ws ms)
    go false l t = omega arith

-- the place that a step clears, where its target is known by another name
pub clears_at : (ws : List ℕ) (s : Step) (at t : ℕ) → t ≡ s.target → at ≡ cleared_by ws (row_of s.kind).deed (start_of ws t) s.atom → at ≡ clears ws s
unfolding clears
clears_at ws s at t a e = e ∙ rw a

pub after_is : (ws ms : List ℕ) (s : Step) (at : ℕ) → So (on_target s.kind) → at ≡ clears ws s → set ms at 0 ≡ marks_after ws ms s
after_is ws ms s at o e = ap (λ i. set ms i 0) e ∙ sym (after_on ws ms s o)

-- ---- the place that a step clears

pub clears_pos : (ws : List ℕ) (at a r : ℕ) → r ≡ place_in ws at Pos a → r ≡ cleared_by ws drops_pos at a
clears_pos ws at a r q = let z : neg_at ws at - pos_at ws at ≡ get_or ws (at + 1) 0 = omega arith in q ∙ rw z

pub clears_neg : (ws : List ℕ) (at a r : ℕ) → r ≡ place_in ws at Neg a → r ≡ cleared_by ws drops_neg at a
clears_neg ws at a r q = let z : next_at ws at - neg_at ws at ≡ get_or ws (at + 2) 0 = omega arith in q ∙ rw z

pub clears_fits : (ws ms index : List ℕ) (n : ℕ) (s : Step) (at : ℕ) → Ready ws ms index → So (on_target s.kind) → So (applies n (view ws ms) s) → at ≡ clears ws s → at < length ms
clears_fits ws ms index n s at r o h e = omega (arith, clears_lt ws ms r.placed.passed r.marks n s o h, r.marks)
