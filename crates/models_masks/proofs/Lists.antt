-- The library's tests over a list and those of the definitions say the same.
use mathlib.Core.Path.{◌≡◌, refl, sym, ap₂}
use mathlib.Core.List.{List, [], ◌∷◌}
use mathlib.Core.Bool.{Bool, ◌&&◌, ◌||◌}
use Prim.Native.Nat.{ℕ}
use lib.Dec.{eqb}
use borrow.Author.Tests.{eqb-true, eq-eqb}
use Rattle.std.specs.List.{list_any, list_all}
use Rattle.semantics.specs.Lists.{any, all, mem}
use Rattle.semantics.proofs.Tests.{so_ext}

pub any_list : {A : Type 0} (p q : A → Bool) → ((x : A) → p x ≡ q x) → (l : List A) → list_any p l ≡ any q l
any_list p q h [] = refl
any_list p q h (x ∷ l) = ap₂ (λ a b. a || b) (h x) (any_list p q h l)

pub all_list : {A : Type 0} (p q : A → Bool) → ((x : A) → p x ≡ q x) → (l : List A) → list_all p l ≡ all q l
all_list p q h [] = refl
all_list p q h (x ∷ l) = ap₂ (λ a b. a && b) (h x) (all_list p q h l)

-- what `contains` says
pub contains_mem : (a : ℕ) (l : List ℕ) → list_any (λ y. eqb y a) l ≡ mem a l
contains_mem a l = any_list (λ y. eqb y a) (λ y. eqb a y)
    (λ y. so_ext _ _ (λ h. eq-eqb a y (sym (eqb-true y a h))) (λ h. eq-eqb y a (sym (eqb-true a y h)))) l
