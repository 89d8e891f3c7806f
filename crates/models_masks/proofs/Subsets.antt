-- The search over the subsets of a mask, and the mask of a list, one step at a time.
use Prim.Native.Nat.{ℕ, suc, ◌+◌, ◌-◌, ◌*◌, ◌^◌, ◌≤◌, ◌<◌}
use mathlib.Core.Path.{◌≡◌, refl, ap, ◌∙◌}
use mathlib.Core.List.{List, ◌∷◌}
use mathlib.Core.Bool.{Bool, true, false, not, ◌&&◌, So}
use native.Mathlib.Omega.{arith}
use native.Mathlib.Nat.{le_antisymm}
use lib.Bits.{bit_and, and_le_l}
use lib.Dec.{leb}
use lib.ListN.{length, get_or, drop, length-drop}
use lib.Pow.{pow_mono}
use lib.Seq.{drop-cons}
use borrow.Author.Tests.{eq-eqb, eqb-true, leb-true, leb-false}
use Rattle.semantics.specs.Lists.{bit}
use Rattle.semantics.specs.Programs.{Atoms}
use Rattle.semantics.proofs.Tests.{and_iff, not_iff, not_so}
use Rattle.models_masks.specs.Masks.{mask_of, all_below, inside}
use Rattle.models_masks.proofs.Search.{all_below_iff, all_below_lost}
use Rattle.models_masks.proofs.Bits.{mask_bound, and_again, next_subset}

-- the subsets of m from x on fail the test f
abbrev pub FailFrom : (ℕ → Bool) → ℕ → ℕ → Type 0
FailFrom f m x = (y : ℕ) → x ≤ y → y < m → So (not (inside y m && f y))

pub next_less : (m x : ℕ) → 0 < x → bit_and (x - 1) m < x
next_less m x h = omega (arith, and_le_l (x - 1) m)

module _ (f : ℕ → Bool) (m x : ℕ) where
  pub fail_start : FailFrom f m m
  fail_start y l h = absurd (omega arith)

  pub fail_next : bit_and x m ≡ x → FailFrom f m x → f (bit_and (x - 1) m) ≡ false → FailFrom f m (bit_and (x - 1) m)
  fail_next e old q y l h = go (leb x y) refl
    where
      go : (t : Bool) → leb x y ≡ t → So (not (inside y m && f y))
      go true p = old y (leb-true x y p) h
      go false p = (not_iff (inside y m && f y)).1 (λ k.
          let w = (and_iff (inside y m) (f y)).0 k in
          let s : y ≡ bit_and (x - 1) m = le_antisymm (next_subset x m y e (eqb-true _ _ w.0) (leb-false x y p)) l in
          not_so (ap f s ∙ q) w.1)

  -- a subset that passes decides
  pub found : 0 < x → x ≤ m → f (bit_and (x - 1) m) ≡ true → all_below (λ y. not (inside y m && f y)) m ≡ false
  found p l q =
      let z = bit_and (x - 1) m in
      all_below_lost _ m z (omega (arith, next_less m x p)) (rw (eq-eqb (bit_and z m) z (and_again (x - 1) m), q))

  pub none_found : x ≤ 0 → FailFrom f m x → all_below (λ y. not (inside y m && f y)) m ≡ true
  none_found h g = (all_below_iff _ m).1 (λ k l. g k (omega arith) l)

-- ---- the mask of a list, from its last entry on

module _ (s : List ℕ) (X : Atoms) (i : ℕ) where
  pub mask_end : length s ≤ i → mask_of (drop i s) X ≡ 0
  unfolding mask_of
  mask_end h = rw (lib.ListN.drop_of_length-le s h)

  pub mask_whole : i ≤ 0 → mask_of (drop i s) X ≡ mask_of s X
  mask_whole h = let e : i ≡ 0 = omega arith in ap (λ k. mask_of (drop k s) X) e

  module _ (p : 0 < i) (h : i ≤ length s) where
    pub mask_more : mask_of (drop (i - 1) s) X ≡ mask_of (drop i s) X * 2 + bit (X (get_or s (i - 1) 0))
    unfolding mask_of
    mask_more = let e : suc (i - 1) ≡ i = omega arith in rw (drop-cons s (i - 1) 0 (omega arith) ∙ ap (λ k. get_or s (i - 1) 0 ∷ drop k s) e)

    pub mask_small : length s ≤ 16 → mask_of (drop i s) X < 32768
    mask_small l =
        let k : length (drop i s) ≤ 15 = omega (arith, length-drop i s) in
        let q : 2 ^ length (drop i s) ≤ 2 ^ 15 = pow_mono k in
        omega (arith, mask_bound (drop i s) X)
