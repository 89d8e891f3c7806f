-- The tests of kind 9, read one after the other.
use mathlib.Core.Path.{◌≡◌, refl, sym, ap, ◌∙◌}
use mathlib.Core.Bool.{Bool, true, false, ◌&&◌}
use mathlib.Core.List.{List, [], ◌∷◌}
use Prim.Native.Nat.{ℕ}
use Rattle.std.specs.List.{list_all}
use Rattle.semantics.specs.Lists.{any, all}
use Rattle.semantics.specs.Programs.{Clause}
use Rattle.rewriting.specs.Consequences.{consequences}
use Rattle.rewriting.specs.Exclusion.{plain_constraint, occurs, excludes}

-- ---- the condition

and_false : (p r : Bool) → p ≡ false → false ≡ (p && r)
and_false p r e = rw e

and_true : (p r : Bool) → p ≡ true → (p && r) ≡ r
and_true p r e = rw e

module _ (cs : List Clause) (c : Clause) (a : ℕ) where
  pub not_plain : plain_constraint c ≡ false → false ≡ excludes cs c a
  unfolding excludes
  not_plain e = and_false (plain_constraint c) _ e

  plain_so : plain_constraint c ≡ true → excludes cs c a ≡ (any (occurs a) cs && all (consequences cs a) c.pos)
  unfolding excludes
  plain_so e = and_true (plain_constraint c) _ e

all_same : (f g : ℕ → Bool) (l : List ℕ) → ((b : ℕ) → f b ≡ g b) → all f l ≡ all g l
all_same f g [] h = refl
all_same f g (x ∷ l) h = rw (h x, all_same f g l h)

pub condition_none : (cs : List Clause) (c : Clause) (a : ℕ) → plain_constraint c ≡ true → any (occurs a) cs ≡ false → false ≡ excludes cs c a
condition_none cs c a e q = sym (plain_so cs c a e ∙ rw q)

pub condition_all : (cs : List Clause) (c : Clause) (a : ℕ) (f : ℕ → Bool) → plain_constraint c ≡ true → any (occurs a) cs ≡ true → ((b : ℕ) → f b ≡ consequences cs a b) → all f c.pos ≡ excludes cs c a
condition_all cs c a f e q h = all_same f (consequences cs a) c.pos h ∙ sym (plain_so cs c a e ∙ rw q)

-- the library's word for the test of a whole list
pub all_list : (f : ℕ → Bool) (l : List ℕ) → list_all f l ≡ all f l
all_list f [] = refl
all_list f (x ∷ l) = ap (λ b. f x && b) (all_list f l)
