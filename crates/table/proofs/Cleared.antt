-- Clearing the marks of kind 9 only sets marks to 0, at least one of them where the step applies, and none past the table.
use mathlib.Core.Path.{◌≡◌, refl, sym, ap, ◌∙◌}
use mathlib.Core.Logic.{◌⊎◌, inl, inr, ⊎_elim, by_cases}
use mathlib.Core.Bool.{Bool, true, false, cond}
use mathlib.Core.List.{List, [], ◌∷◌}
use Prim.Native.Nat.{ℕ, zero, suc, ◌+◌, ◌≤◌, ◌<◌}
use native.Mathlib.Omega.{arith}
use native.Mathlib.Decide.{dec_lt}
use lib.Dec.{eqb}
use lib.ListN.{length, get_or, set, take}
use borrow.Author.Tests.{ne_eqb}
use Rattle.semantics.specs.Lists.{mem, count, bit}
use Rattle.table.specs.Questions.{Passed}
use Rattle.table.specs.Places.{head_at, pos_at, neg_at, next_at, start_from}
use Rattle.table.specs.View.{part, view, zeros}
use Rattle.table.proofs.Places.{passed_good}
use Rattle.rewriting.specs.Exclusion.{removal}
use Rattle.rewriting.specs.Measure.{measure}
use Rattle.table.specs.Clearing.{clear_part, clear_clause, clear_from, marks_without}
use Rattle.table.proofs.Clearing.{entries_agree, clause_length, clause_other, view_without}

-- ---- marks are only set to 0

abbrev Falls : List ℕ → List ℕ → Type 0
Falls ms ks = (i : ℕ) → (get_or ks i 0 ≡ get_or ms i 0) ⊎ (get_or ks i 0 ≡ 0)

falls_trans : (ms ks js : List ℕ) → Falls ms ks → Falls ks js → Falls ms js
falls_trans ms ks js f g i = ⊎_elim (λ e. ⊎_elim (λ d. inl (e ∙ d)) (λ d. inr (e ∙ d)) (f i)) inr (g i)

set_falls : (ms : List ℕ) (j : ℕ) → Falls ms (set ms j 0)
set_falls [] j i = inl refl
set_falls (x ∷ ms) zero zero = inr refl
set_falls (x ∷ ms) zero (suc i) = inl refl
set_falls (x ∷ ms) (suc j) zero = inl refl
set_falls (x ∷ ms) (suc j) (suc i) = set_falls ms j i

part_falls : (ws : List ℕ) (a at k : ℕ) (ms : List ℕ) → Falls ms (clear_part ws a at k ms)
unfolding clear_part
part_falls ws a at zero ms i = inl refl
part_falls ws a at (suc k) ms i =
    let ks = cond (eqb a (get_or ws at 0)) (set ms at 0) ms in falls_trans ms ks (clear_part ws a (suc at) k ks) (go (eqb a (get_or ws at 0))) (part_falls ws a (suc at) k ks) i
  where
    go : (t : Bool) → Falls ms (cond t (set ms at 0) ms)
    go true i = set_falls ms at i
    go false i = inl refl

clause_falls : (ws : List ℕ) (a at : ℕ) (ms : List ℕ) → Falls ms (clear_clause ws a at ms)
unfolding clear_clause
clause_falls ws a at ms = go (eqb (get_or ms at 0) 1) (mem a (part ws ms (pos_at ws at) (get_or ws (at + 1) 0)))
  where
    hs : List ℕ
    hs = clear_part ws a (head_at at) (get_or ws at 0) ms

    go : (k t : Bool) → Falls ms (cond k (cond t (set ms at 0) (clear_part ws a (neg_at ws at) (get_or ws (at + 2) 0) hs)) ms)
    go true true i = set_falls ms at i
    go true false i = falls_trans ms hs (clear_part ws a (neg_at ws at) (get_or ws (at + 2) 0) hs) (part_falls ws a (head_at at) (get_or ws at 0) ms) (part_falls ws a (neg_at ws at) (get_or ws (at + 2) 0) hs) i
    go false t i = inl refl

from_falls : (ws : List ℕ) (a m at : ℕ) (ms : List ℕ) → Falls ms (clear_from ws a m at ms)
unfolding clear_from
from_falls ws a zero at ms i = inl refl
from_falls ws a (suc m) at ms i =
    let ks = clear_clause ws a at ms in falls_trans ms ks (clear_from ws a m (next_at ws at) ks) (clause_falls ws a at ms) (from_falls ws a m (next_at ws at) ks) i

from_length : (ws : List ℕ) (a m at : ℕ) (ms : List ℕ) → length (clear_from ws a m at ms) ≡ length ms
unfolding clear_from
from_length ws a zero at ms = refl
from_length ws a (suc m) at ms = from_length ws a m (next_at ws at) (clear_clause ws a at ms) ∙ clause_length ws a at ms

pub length_without_marks : (ws ms : List ℕ) (a : ℕ) → length (marks_without ws ms a) ≡ length ms
unfolding marks_without
length_without_marks ws ms a = from_length ws a (get_or ws 1 0) 2 ms

-- ---- none past the table

from_past : (ws : List ℕ) (a m at : ℕ) (ms : List ℕ) (i : ℕ) → ((t : ℕ) → t < m → next_at ws (start_from ws at t) ≤ i) → get_or (clear_from ws a m at ms) i 0 ≡ get_or ms i 0
unfolding clear_from start_from
from_past ws a zero at ms i g = refl
from_past ws a (suc m) at ms i g =
    from_past ws a m (next_at ws at) (clear_clause ws a at ms) i (λ t h. g (suc t) (omega arith)) ∙ clause_other ws a at ms i (inr (g zero (omega arith)))

-- "Marks past the table never change."
pub without_past : (ws ms : List ℕ) (a i : ℕ) → Passed ws → length ws ≤ i → get_or (marks_without ws ms a) i 0 ≡ get_or ms i 0
unfolding marks_without
without_past ws ms a i p l = from_past ws a (get_or ws 1 0) 2 ms i (λ t h. omega (arith, (passed_good ws p t h).fits))

-- ---- at least one

abbrev none : ℕ → ℕ
none x = bit (eqb x 0)

none_falls : (x y : ℕ) → (y ≡ x) ⊎ (y ≡ 0) → (none x ≤ none y) × (none y ≤ none x → y ≡ x)
none_falls x y (inl e) = rw e (omega arith, λ _. refl)
none_falls zero y (inr e) = rw e (omega arith, λ _. refl)
none_falls (suc x) y (inr e) = rw (e, ne_eqb (suc x) 0 (λ z. omega arith)) (omega arith, λ h. absurd (omega arith))

-- no fewer marks at 0, and where no more, the same marks
falls_zeros : (n : ℕ) (ms ks : List ℕ) → length ks ≡ length ms → Falls ms ks
    → (count (λ x. eqb x 0) (take n ms) ≤ count (λ x. eqb x 0) (take n ks)) × (count (λ x. eqb x 0) (take n ks) ≤ count (λ x. eqb x 0) (take n ms) → (i : ℕ) → i < n → get_or ks i 0 ≡ get_or ms i 0)
falls_zeros zero ms ks l f = (omega arith, λ h i b. absurd (omega arith))
falls_zeros (suc n) [] [] l f = (omega arith, λ h i b. refl)
falls_zeros (suc n) [] (y ∷ ks) l f = absurd (omega arith)
falls_zeros (suc n) (x ∷ ms) [] l f = absurd (omega arith)
falls_zeros (suc n) (x ∷ ms) (y ∷ ks) l f =
    let b = none_falls x y (f zero) in let r = falls_zeros n ms ks (omega arith) (λ i. f (suc i)) in
    (omega (arith, b.0, r.0), λ h. at (b.1 (omega (arith, r.0))) (r.1 (omega (arith, b.0))))
  where
    at : y ≡ x → ((i : ℕ) → i < n → get_or ks i 0 ≡ get_or ms i 0) → (i : ℕ) → i < suc n → get_or (y ∷ ks) i 0 ≡ get_or (x ∷ ms) i 0
    at e g zero b = e
    at e g (suc i) b = g i (omega arith)

-- Where something is taken from the measure, at least one more mark is at 0: with the same marks nothing would be.
pub zeros_without : (ws ms : List ℕ) (a : ℕ) → Passed ws → length ws ≤ length ms → measure (removal a (view ws ms)) < measure (view ws ms) → zeros ws ms < zeros ws (marks_without ws ms a)
unfolding zeros marks_without view
zeros_without ws ms a p l h = by_cases (dec_lt (zeros ws ms) (zeros ws (marks_without ws ms a))) (λ b. b) (λ b. absurd (same (λ i. by_cases (dec_lt i (length ws))
    ((falls_zeros (length ws) ms (marks_without ws ms a) (length_without_marks ws ms a) falls).1 (omega arith) i)
    (λ o. without_past ws ms a i p (omega arith)))))
  where
    falls : Falls ms (marks_without ws ms a)
    falls = from_falls ws a (get_or ws 1 0) 2 ms

    same : ¬ ((i : ℕ) → get_or (marks_without ws ms a) i 0 ≡ get_or ms i 0)
    same o =
        let e : view ws (marks_without ws ms a) ≡ view ws ms = entries_agree ws (marks_without ws ms a) ms (get_or ws 1 0) 2 (λ i _. o i) in
        omega (arith, h, ap measure (sym (view_without ws ms a p l) ∙ e))
