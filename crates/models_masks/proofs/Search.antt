-- Walks along a list and along the numbers below a bound, one step at a time, and what their end says.
use Prim.Native.Nat.{ℕ, zero, suc, ◌+◌, ◌≤◌, ◌<◌}
use mathlib.Core.Path.{◌≡◌, refl, sym, ap₂, subst}
use mathlib.Core.Logic.{◌↔◌, ◌⊎◌, inl, inr, ⊎_elim}
use mathlib.Core.List.{List}
use mathlib.Core.Bool.{Bool, true, false, ◌&&◌, So}
use native.Mathlib.Omega.{arith}
use native.Mathlib.Numerals.{add-one}
use lib.Arith.{lt_of_le-ne}
use lib.Dec.{eqb}
use lib.ListN.{length, get_or, drop, drop_of_length-le}
use lib.Seq.{drop-cons}
use borrow.Author.Tests.{eqb-true, eqb-false}
use Rattle.semantics.specs.Lists.{any, all}
use Rattle.semantics.proofs.Tests.{and_iff, so_false, not_so}
use Rattle.models_masks.specs.Masks.{all_below}

module _ (p : ℕ → Bool) (l : List ℕ) (i : ℕ) (h : i < length l) where
  pub any_on : p (get_or l i 0) ≡ false → any p (drop i l) ≡ any p (drop (i + 1) l)
  any_on q = rw (drop-cons l i 0 h, add-one, q)

  pub any_hit : p (get_or l i 0) ≡ true → any p (drop i l) ≡ true
  any_hit q = rw (drop-cons l i 0 h, q)

  pub all_on : p (get_or l i 0) ≡ true → all p (drop i l) ≡ all p (drop (i + 1) l)
  all_on q = rw (drop-cons l i 0 h, add-one, q)

  pub all_lost : p (get_or l i 0) ≡ false → all p (drop i l) ≡ false
  all_lost q = rw (drop-cons l i 0 h, q)

pub any_end : (p : ℕ → Bool) (l : List ℕ) (i : ℕ) → length l ≤ i → any p (drop i l) ≡ false
any_end p l i h = rw (drop_of_length-le l h)

pub all_end : (p : ℕ → Bool) (l : List ℕ) (i : ℕ) → length l ≤ i → all p (drop i l) ≡ true
all_end p l i h = rw (drop_of_length-le l h)

pub all_below_iff : (f : ℕ → Bool) (n : ℕ) → So (all_below f n) ↔ ((i : ℕ) → i < n → So (f i))
unfolding all_below
all_below_iff f n = (to n, from n)
  where
    last : (i n : ℕ) → i < suc n → (i ≡ n) ⊎ (i < n)
    last i n h = go (eqb i n) refl
      where
        go : (t : Bool) → eqb i n ≡ t → (i ≡ n) ⊎ (i < n)
        go true e = inl (eqb-true i n e)
        go false e = inr (lt_of_le-ne (omega arith) (eqb-false i n e))

    to : (n : ℕ) → So (all_below f n) → (i : ℕ) → i < n → So (f i)
    to zero h i l = absurd (omega arith)
    to (suc n) h i l =
        let w = (and_iff (f n) (all_below f n)).0 h in
        ⊎_elim (λ e. subst (λ k. So (f k)) (sym e) w.0) (λ k. to n w.1 i k) (last i n l)

    from : (n : ℕ) → ((i : ℕ) → i < n → So (f i)) → So (all_below f n)
    from zero h = refl
    from (suc n) h = (and_iff _ _).1 (h n (omega arith), from n (λ i l. h i (omega arith)))

-- one failure decides
pub all_below_lost : (f : ℕ → Bool) (n i : ℕ) → i < n → f i ≡ false → all_below f n ≡ false
all_below_lost f n i h q = so_false _ (λ s. not_so q ((all_below_iff f n).0 s i h))

pub all_below_end : (f : ℕ → Bool) (n i : ℕ) → n ≤ i → ((k : ℕ) → k < i → So (f k)) → all_below f n ≡ true
all_below_end f n i l h = (all_below_iff f n).1 (λ k q. h k (omega arith))

pub all_below_ext : (f g : ℕ → Bool) (n : ℕ) → ((i : ℕ) → i < n → f i ≡ g i) → all_below f n ≡ all_below g n
unfolding all_below
all_below_ext f g zero h = refl
all_below_ext f g (suc n) h = ap₂ (λ a b. a && b) (h n (omega arith)) (all_below_ext f g n (λ i l. h i (omega arith)))
