-- Tests over the elements of a list.
use Rattle.std.specs.Prelude.{Bool, true, false, cond, ◌&&◌, ◌||◌, ℕ, ◌+◌, eqb, ltb}
use mathlib.Core.List.{List, [], ◌∷◌, Memᴰ}

-- a test as a number
abbrev pub bit : Bool → ℕ
bit true = 1
bit false = 0

module _ {A : Type 0} where
  infix 40 ◌∈◌
  abbrev pub ◌∈◌ : A → List A → Type 0
  x ∈ l = Memᴰ x l

  -- the test holds of some element, of every element
  abbrev pub any : (A → Bool) → List A → Bool
  any p [] = false
  any p (x ∷ l) = p x || any p l

  abbrev pub all : (A → Bool) → List A → Bool
  all p [] = true
  all p (x ∷ l) = p x && all p l

  abbrev pub null : List A → Bool
  null [] = true
  null (x ∷ l) = false

  -- the elements of which the test holds
  abbrev pub keep : (A → Bool) → List A → List A
  keep p [] = []
  keep p (x ∷ l) = cond (p x) (x ∷ keep p l) (keep p l)

  -- how many they are
  abbrev pub count : (A → Bool) → List A → ℕ
  count p [] = 0
  count p (x ∷ l) = bit (p x) + count p l

-- the list has exactly one element, and the test holds of it
abbrev pub single : (ℕ → Bool) → List ℕ → Bool
single f [] = false
single f (b ∷ []) = f b
single f (b ∷ c ∷ l) = false

-- the number is in the list
abbrev pub mem : ℕ → List ℕ → Bool
mem a l = any (λ x. eqb a x) l

-- every number of the first list is in the second
abbrev pub within : List ℕ → List ℕ → Bool
within k l = all (λ a. mem a l) k

-- the list with every occurrence of a number taken out
abbrev pub without : ℕ → List ℕ → List ℕ
without a [] = []
without a (x ∷ l) = cond (eqb a x) (without a l) (x ∷ without a l)

-- two lists have the same numbers in the same order
unfoldable pub same : List ℕ → List ℕ → Bool
same [] [] = true
same [] (y ∷ l) = false
same (x ∷ k) [] = false
same (x ∷ k) (y ∷ l) = eqb x y && same k l

-- each number is below all that follow it
unfoldable pub ascending : List ℕ → Bool
ascending [] = true
ascending (x ∷ l) = all (λ y. ltb x y) l && ascending l
