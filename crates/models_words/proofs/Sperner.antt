-- Sperner's theorem on words: of the sets of sixteen atoms at most 12,870 can be taken so that none is within another. By chains: the words of one digit more
-- come of chains of words, each within the next, and a chain gives at most one word.
use mathlib.Core.Path.{◌≡◌, refl, sym, ap, ap₂, ◌∙◌}
use mathlib.Core.Logic.{◌≢◌, by_cases}
use mathlib.Core.Bool.{Bool, true, false, cond, So}
use mathlib.Core.List.Memᴰ
use mathlib.Core.List.{List, [], ◌∷◌}
use Prim.Native.Nat.{ℕ, zero, suc, ◌+◌, ◌*◌, ◌^◌, ◌≤◌, ◌<◌}
use native.Mathlib.Omega.{arith}
use native.Mathlib.Nat.{pow-suc, mul_assoc, mul-one, one-mul, add-zero, add-suc, min-eq_left}
use native.Mathlib.Numerals.{add-one}
use lib.Bits.{bit_and, and_self}
use lib.ListN.{length, length-append}
use Rattle.semantics.specs.Lists.{bit, ◌∈◌, keep}
use Rattle.semantics.proofs.Tests.{so_dec, bit_false, bit_bound}
use Rattle.models_masks.proofs.Bits.{and_digits}
use Rattle.sorting.specs.Sorting.{below}
use Rattle.sorting.proofs.Ascending.{keep_more}

-- ---- sums

-- of f over the numbers below k
unfoldable pub total : (ℕ → ℕ) → ℕ → ℕ
total f zero = 0
total f (suc k) = total f k + f k

-- of f over the elements of a list
abbrev sum : (ℕ → ℕ) → List ℕ → ℕ
sum f [] = 0
sum f (x ∷ l) = f x + sum f l

sum_none : (f : ℕ → ℕ) (l : List ℕ) → ((x : ℕ) → x ∈ l → f x ≡ 0) → sum f l ≡ 0
sum_none f [] h = refl
sum_none f (x ∷ l) h = omega (arith, h x (Memᴰ.head refl), sum_none f l (λ y m. h y (Memᴰ.tail m)))

total_pairs : (f : ℕ → ℕ) (k : ℕ) → total (λ x. f (x * 2) + f (x * 2 + 1)) k ≡ total f (k * 2)
unfolding total
total_pairs f zero = refl
total_pairs f (suc k) =
    let e : suc k * 2 ≡ suc (suc (k * 2)) = omega arith in omega (arith, total_pairs f k, ap f (add-one (k * 2)), ap (total f) e)

pub total_le : (f g : ℕ → ℕ) (k j : ℕ) → ((x : ℕ) → x < k → f x ≤ g x) → total f k ≤ total g (k + j)
unfolding total
total_le f g zero zero h = omega arith
total_le f g (suc k) zero h =
    omega (arith, total_le f g k zero (λ x l. h x (omega arith)), h k (omega arith), ap (total g) (add-zero k), ap (total g) (add-zero (suc k)))
total_le f g k (suc j) h = omega (arith, total_le f g k j h, ap (total g) (add-suc k j))

pub length_kept : (f : ℕ → Bool) (k : ℕ) → length (keep f (below k)) ≡ total (λ x. bit (f x)) k
unfolding below total
length_kept f zero = refl
length_kept f (suc k) =
    ap (λ n. length (keep f (below n))) (sym (add-one k)) ∙ ap length (keep_more f k) ∙ length-append (keep f (below k)) (cond (f k) (k ∷ []) [])
    ∙ omega (arith, length_kept f k, one (f k))
  where
    one : (t : Bool) → length (cond t (k ∷ []) []) ≡ bit t
    one true = refl
    one false = refl

-- ---- chains of words

-- each word is within all later ones, and another
abbrev Chain : List ℕ → Type 0
Chain [] = Unit {0}
Chain (x ∷ l) = ((y : ℕ) → y ∈ l → (bit_and x y ≡ x) × (x ≢ y)) × Chain l

-- one digit more: the chain with the digit 0, and its last word with the digit 1 too
abbrev up : List ℕ → List ℕ
up [] = []
up (x ∷ []) = x * 2 ∷ (x * 2 + 1) ∷ []
up (x ∷ y ∷ l) = x * 2 ∷ up (y ∷ l)

-- and all words but the last with the digit 1
abbrev over : List ℕ → List ℕ
over [] = []
over (x ∷ []) = []
over (x ∷ y ∷ l) = (x * 2 + 1) ∷ over (y ∷ l)

-- with a further digit that is no greater, a word stays within another
within_next : {a b : ℕ} (x y p q : ℕ) → a ≡ x * 2 + p → b ≡ y * 2 + q → p ≤ q → q < 2 → bit_and x y ≡ x → bit_and a b ≡ a
within_next x y p q e f l h s = ap₂ bit_and e f ∙ and_digits x y (omega arith) h ∙ ap₂ (λ u v. u * 2 + v) s (min-eq_left l) ∙ sym e

up_of : (l : List ℕ) (z : ℕ) → z ∈ up l → (w : ℕ) × (w ∈ l) × (d : ℕ) × (d < 2) × (z ≡ w * 2 + d)
up_of [] z m = elim m [ ]
up_of (x ∷ []) z (Memᴰ.head e) = (x, Memᴰ.head refl, 0, omega arith, omega arith)
up_of (x ∷ []) z (Memᴰ.tail (Memᴰ.head e)) = (x, Memᴰ.head refl, 1, omega arith, e)
up_of (x ∷ []) z (Memᴰ.tail (Memᴰ.tail m)) = elim m [ ]
up_of (x ∷ y ∷ l) z (Memᴰ.head e) = (x, Memᴰ.head refl, 0, omega arith, omega arith)
up_of (x ∷ y ∷ l) z (Memᴰ.tail m) = let (w, k, d, h, e) = up_of (y ∷ l) z m in (w, Memᴰ.tail k, d, h, e)

over_of : (l : List ℕ) (z : ℕ) → z ∈ over l → (w : ℕ) × (w ∈ l) × (z ≡ w * 2 + 1)
over_of [] z m = elim m [ ]
over_of (x ∷ []) z m = elim m [ ]
over_of (x ∷ y ∷ l) z (Memᴰ.head e) = (x, Memᴰ.head refl, e)
over_of (x ∷ y ∷ l) z (Memᴰ.tail m) = let (w, k, e) = over_of (y ∷ l) z m in (w, Memᴰ.tail k, e)

up_chain : (l : List ℕ) → Chain l → Chain (up l)
up_chain [] c = tt
up_chain (x ∷ []) c = (
  λ z m. let e = Memᴰ.eq_of_singleton m in (within_next x x 0 1 (omega arith) e (omega arith) (omega arith) (and_self x), λ q. omega arith),
  (λ z m. absurd (Memᴰ.not-nil m), tt),
)
up_chain (x ∷ y ∷ l) c = (
  λ z m. let (w, k, d, h, e) = up_of (y ∷ l) z m in
      let (s, n) = c.0 w k in
      (within_next x w 0 d (omega arith) e (omega arith) h s, λ q. n (omega arith)),
  up_chain (y ∷ l) c.1,
)

over_chain : (l : List ℕ) → Chain l → Chain (over l)
over_chain [] c = tt
over_chain (x ∷ []) c = tt
over_chain (x ∷ y ∷ l) c = (
  λ z m. let (w, k, e) = over_of (y ∷ l) z m in
      let (s, n) = c.0 w k in
      (within_next x w 1 1 refl e (omega arith) (omega arith) s, λ q. n (omega arith)),
  over_chain (y ∷ l) c.1,
)

length_up : (x : ℕ) (l : List ℕ) → length (up (x ∷ l)) ≡ suc (suc (length l))
length_up x [] = refl
length_up x (y ∷ l) = ap suc (length_up y l)

length_over : (x : ℕ) (l : List ℕ) → length (over (x ∷ l)) ≡ length l
length_over x [] = refl
length_over x (y ∷ l) = ap suc (length_over y l)

-- how many chains that are not empty come of one of length j by n further digits
pub chains : ℕ → ℕ → ℕ
chains zero zero = 0
chains zero (suc j) = 1
chains (suc n) zero = 0
chains (suc n) (suc j) = chains n (suc (suc j)) + chains n j

-- ---- Sperner's theorem

module _ (p : ℕ → Bool) where
  -- how many words with the high digits x and n further digits pass the test
  ways : ℕ → ℕ → ℕ
  ways zero x = bit (p x)
  ways (suc n) x = ways n (x * 2) + ways n (x * 2 + 1)

  total_ways : (n k : ℕ) → total (ways n) k ≡ total (λ x. bit (p x)) (k * 2 ^ n)
  unfolding ways
  total_ways zero k = ap (total (λ x. bit (p x))) (sym (mul-one k))
  total_ways (suc n) k = total_pairs (ways n) k ∙ total_ways n (k * 2) ∙ ap (total (λ x. bit (p x))) (mul_assoc k 2 (2 ^ n) ∙ ap (λ y. k * y) (omega (arith, pow-suc 2 n)))

  ways_split : (n : ℕ) (l : List ℕ) → sum (ways (suc n)) l ≡ sum (ways n) (up l) + sum (ways n) (over l)
  unfolding ways
  ways_split n [] = refl
  ways_split n (x ∷ []) = omega arith
  ways_split n (x ∷ y ∷ l) = omega (arith, ways_split n (y ∷ l))

  module _ (apart : (x y : ℕ) → So (p x) → So (p y) → bit_and x y ≡ x → x ≡ y) where
    -- a chain holds at most one word that passes
    chain_one : (l : List ℕ) → Chain l → sum (ways 0) l ≤ 1
    unfolding ways
    chain_one [] c = omega arith
    chain_one (x ∷ l) c = by_cases (so_dec (p x))
        (λ h. omega (arith, bit_bound (p x), sum_none (ways 0) l (λ y m. bit_false (p y) (λ k. (c.0 y m).1 (apart x y h k (c.0 y m).0)))))
        (λ h. omega (arith, bit_false (p x) h, chain_one l c.1))

    chain_few : (n : ℕ) (l : List ℕ) → Chain l → sum (ways n) l ≤ chains n (length l)
    unfolding ways chains
    chain_few zero [] c = omega arith
    chain_few zero (x ∷ l) c = chain_one (x ∷ l) c
    chain_few (suc n) [] c = omega arith
    chain_few (suc n) (x ∷ l) c =
        omega (
          arith,
          ways_split n (x ∷ l),
          chain_few n (up (x ∷ l)) (up_chain (x ∷ l) c),
          chain_few n (over (x ∷ l)) (over_chain (x ∷ l) c),
          ap (chains n) (length_up x l),
          ap (chains n) (length_over x l),
        )

    -- Of the words of n digits, an antichain has at most as many as there are chains.
    pub sperner : (n : ℕ) → total (λ x. bit (p x)) (2 ^ n) ≤ chains n 1
    unfolding total
    sperner n = omega (arith, chain_few n (0 ∷ []) (λ z m. absurd (Memᴰ.not-nil m), tt), total_ways n 1, ap (total (λ x. bit (p x))) (one-mul (2 ^ n)))

-- 16 over 8
pub middle : chains 16 1 ≡ 12870
unfolding chains
middle = refl
