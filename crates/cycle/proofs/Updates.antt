-- One element of a list changed: what stands at each place then, and the sum.
use Prim.Native.Nat.{ℕ, zero, suc, ◌+◌, ◌<◌}
use mathlib.Core.Path.{◌≡◌, refl, sym, subst}
use mathlib.Core.Logic.{◌≢◌, ◌⊎◌, inl, inr}
use mathlib.Core.Bool.{Bool, true, false}
use mathlib.Core.List.{List, [], ◌∷◌}
use native.Mathlib.Omega.{arith}
use lib.Dec.{eqb}
use lib.ListN.{length, get_or, set}
use lib.Seq.{get_or-set_same, get_or-set_other}
use borrow.Author.Tests.{eqb-true, eqb-false}
use Rattle.cycle.specs.Search.{total}

pub same_or : (i j : ℕ) → (j ≡ i) ⊎ (j ≢ i)
same_or i j = go (eqb j i) refl
  where
    go : (t : Bool) → eqb j i ≡ t → (j ≡ i) ⊎ (j ≢ i)
    go true e = inl (eqb-true j i e)
    go false e = inr (eqb-false j i e)

-- at a place: the new value, or the old one
module _ (l : List ℕ) (i v : ℕ) (h : i < length l) where
  pub at_set : (Q : ℕ → ℕ → Type 0) → Q i v → ((j : ℕ) → j ≢ i → Q j (get_or l j 0)) → (j : ℕ) → Q j (get_or (set l i v) j 0)
  at_set Q q o j = go (same_or i j)
    where
      go : (j ≡ i) ⊎ (j ≢ i) → Q j (get_or (set l i v) j 0)
      go (inl e) = subst (λ k. Q k (get_or (set l i v) k 0)) (sym e) (subst (Q i) (sym (get_or-set_same l i v 0 h)) q)
      go (inr n) = subst (Q j) (sym (get_or-set_other l i j v 0 n)) (o j n)

pub total_set : (l : List ℕ) (i v : ℕ) → i < length l → total (set l i v) + get_or l i 0 ≡ total l + v
unfolding total
total_set (x ∷ l) zero v h = omega arith
total_set (x ∷ l) (suc i) v h = let e = total_set l i v (omega arith) in omega arith
total_set [] i v h = absurd (omega arith)
