-- Words and bytes stored one by one: one run of stores after another; and a new array.
use Prim.Native.Nat.{ℕ, zero, suc, ◌+◌, ◌<◌}
use mathlib.Core.Path.{◌≡◌, refl, ap, ◌∙◌}
use mathlib.Core.List.{List, [], ◌∷◌, ◌++◌}
use native.Mathlib.Omega.{arith}
use native.Mathlib.Nat.{add-zero}
use lib.ListN.{length, get_or, set, replicate}
use lib.Seq.{sets, set_comm}

pub sets_append : (l : List ℕ) (i : ℕ) (a b : List ℕ) → sets l i (a ++ b) ≡ sets (sets l i a) (i + length a) b
sets_append l i [] b = rw add-zero
sets_append l i (x ∷ a) b = let e : i + suc (length a) ≡ suc i + length a = omega arith in rw e (sets_append (set l i x) (suc i) a b)

-- a store before a run is as well made first
pub set_sets : (l : List ℕ) (i j v : ℕ) (vs : List ℕ) → j < i → set (sets l i vs) j v ≡ sets (set l j v) i vs
set_sets l i j v [] h = refl
set_sets l i j v (a ∷ vs) h = set_sets (set l i a) (suc i) j v vs (omega arith) ∙ ap (λ z. sets z (suc i) vs) (set_comm l i j a v (λ e. omega arith))

-- a new array is 0 everywhere, and past its end too
pub zero_at : (k a : ℕ) → ◌≡◌ {A = ℕ} (get_or (replicate k 0) a 0) 0
zero_at zero a = refl
zero_at (suc k) zero = refl
zero_at (suc k) (suc a) = zero_at k a
