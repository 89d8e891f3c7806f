-- Words and their sets.
use mathlib.Core.Path.{◌≡◌, refl, sym, ap, ap₂, subst, ◌∙◌}
use mathlib.Core.Bool.{Bool, true, false, cond, So}
use mathlib.Core.List.Memᴰ
use mathlib.Core.List.{List, [], ◌∷◌, ◌++◌}
use Prim.Native.Nat.{ℕ, zero, suc, ◌+◌, ◌*◌, ◌/◌, ◌%◌, ◌^◌, ◌<◌}
use native.Mathlib.Omega.{arith}
use native.Mathlib.Decide.{dec_lt}
use native.Mathlib.Nat.{pow-suc, mul_assoc, mod-eq_of_lt, div-eq_of_lt, lt_of_lt_of_le}
use native.Mathlib.Numerals.{one-add}
use lib.ListN.{length}
use lib.Pow.{pow_mono, mod-pow-add}
use borrow.Author.Tests.{eqb-true}
use Rattle.semantics.specs.Lists.{bit, ◌∈◌, keep}
use Rattle.semantics.specs.Programs.{Atoms, among}
use Rattle.semantics.proofs.Tests.{mem_iff, keep_iff}
use Rattle.semantics.proofs.Decide.{keep_is}
use Rattle.table.specs.Encoding.{Ordered}
use Rattle.models_masks.specs.Masks.{mask_of}
use Rattle.models_masks.proofs.Bits.{bit_odd, mask_bound, mask_inj}
use Rattle.sorting.specs.Sorting.{below}
use Rattle.semantics.proofs.Ascending.{ascending_same}
use Rattle.sorting.proofs.Ascending.{keep_ascends, below_in, below_lt, below_ascends, length_below, keep_append}
use Rattle.models_words.specs.Words.{word, set_of_word, entries_of}

mask_last : (l : List ℕ) (a : ℕ) (M : Atoms) → mask_of (l ++ a ∷ []) M ≡ mask_of l M + bit (M a) * 2 ^ length l
unfolding mask_of
mask_last [] a M = omega arith
mask_last (b ∷ l) a M =
    omega (arith, mask_last l a M, mul_assoc (bit (M a)) (2 ^ length l) 2, ap (λ k. bit (M a) * k) (pow-suc 2 (length l)))

mask_more : (n : ℕ) (M : Atoms) → mask_of (below (suc n)) M ≡ mask_of (below n) M + bit (M n) * 2 ^ n
unfolding below
mask_more n M = mask_last (below n) n M ∙ ap (λ k. mask_of (below n) M + bit (M n) * 2 ^ k) (length_below n)

-- a word's digits below n, as a mask
mask_mod : (n x : ℕ) → mask_of (below n) (set_of_word x) ≡ x % 2 ^ n
unfolding below mask_of
mask_mod zero x = omega arith
mask_mod (suc n) x =
    omega (arith, mask_more n (set_of_word x), mask_mod n x, ap (λ k. x % 2 ^ k) (sym (one-add n)) ∙ mod-pow-add x 1 n, ap (λ k. k * 2 ^ n) (bit_odd (x / 2 ^ n)))

-- A word below 2 to the power of n is the mask of its set.
pub mask_word : (n x : ℕ) → x < 2 ^ n → mask_of (below n) (set_of_word x) ≡ x
mask_word n x h = mask_mod n x ∙ mod-eq_of_lt h

word_append : (k l : List ℕ) → word (k ++ l) ≡ word k + word l
unfolding word
word_append [] l = omega arith
word_append (a ∷ k) l = omega (arith, word_append k l)

-- the mask of a set over the atoms below n is the word of those in it
mask_kept : (n : ℕ) (M : Atoms) → mask_of (below n) M ≡ word (keep M (below n))
unfolding below mask_of word
mask_kept zero M = refl
mask_kept (suc n) M =
    mask_more n M ∙ ap₂ (λ x y. x + y) (mask_kept n M) (sym (one (M n)))
    ∙ sym (word_append (keep M (below n)) (keep M (n ∷ []))) ∙ ap word (sym (keep_append M (below n) (n ∷ [])))
  where
    one : (t : Bool) → word (cond t (n ∷ []) []) ≡ bit t * 2 ^ n
    one true = omega arith
    one false = omega arith

-- A word below 2 to the power of n is the word of its set.
pub word_entries : (n x : ℕ) → x < 2 ^ n → word (entries_of n x) ≡ x
unfolding entries_of
word_entries n x h = sym (mask_kept n (set_of_word x)) ∙ mask_word n x h

keep_ordered : (n : ℕ) (M : Atoms) → Ordered n (keep M (below n))
keep_ordered n M = record { below = λ a m. below_lt n a ((keep_iff M (below n) a).0 m).0; ascends = keep_ascends M (below n) (below_ascends n) }

-- A word's atoms are below n and ascend.
pub entries_ordered : (n x : ℕ) → Ordered n (entries_of n x)
unfolding entries_of
entries_ordered n x = keep_ordered n (set_of_word x)

keep_agree : (f g : ℕ → Bool) (l : List ℕ) → ((a : ℕ) → a ∈ l → f a ≡ g a) → keep f l ≡ keep g l
keep_agree f g [] h = refl
keep_agree f g (x ∷ l) h = rw (h x (Memᴰ.head refl), keep_agree f g l (λ a m. h a (Memᴰ.tail m)))

-- The word of ascending atoms below n has just those atoms, and is below 2 to the power of n.
pub entries_word : (n : ℕ) (l : List ℕ) → Ordered n l → (entries_of n (word l) ≡ l) × (word l < 2 ^ n)
unfolding entries_of
entries_word n l o =
    let all_kept_lem : keep (among l) (below n) ≡ l =
    ascending_same (keep (among l) (below n)) l (keep_ordered n (among l)).ascends o.ascends (λ a. (
      λ m. (mem_iff a l).0 ((keep_iff (among l) (below n) a).0 m).1,
      λ m. (keep_iff (among l) (below n) a).1 (below_in n a (o.below a m), (mem_iff a l).1 m),
    )) in
    let e : mask_of (below n) (among l) ≡ word l = mask_kept n (among l) ∙ ap word all_kept_lem in
    let small : word l < 2 ^ n = subst (λ x. x < 2 ^ n) e (subst (λ k. mask_of (below n) (among l) < 2 ^ k) (length_below n) (mask_bound (below n) (among l))) in
    (keep_agree (set_of_word (word l)) (among l) (below n) (mask_inj (below n) (set_of_word (word l)) (among l) (mask_word n (word l) small ∙ sym e)) ∙ all_kept_lem, small)

-- The set of a word below 2 to the power of n has no further atoms.
pub among_entries : (n x : ℕ) → x < 2 ^ n → among (entries_of n x) ≡ set_of_word x
unfolding entries_of
among_entries n x h = keep_is (set_of_word x) (below n) (λ a s. (mem_iff a (below n)).1 (below_in n a (small a (eqb-true _ _ s) (dec_lt a n))))
  where
    small : (a : ℕ) → x / 2 ^ a % 2 ≡ 1 → Dec (a < n) → a < n
    small a e (yes k) = k
    small a e (no k) = let z = div-eq_of_lt (lt_of_lt_of_le h (pow_mono {i = n} {j = a} (omega arith))) in absurd (omega (arith, ap (λ y. y % 2) z))

-- Words below 2 to the power of n that have the same set are the same.
pub set_inj : (n x y : ℕ) → x < 2 ^ n → y < 2 ^ n → set_of_word x ≡ set_of_word y → x ≡ y
set_inj n x y h k e = sym (mask_word n x h) ∙ ap (mask_of (below n)) e ∙ mask_word n y k

-- A set of atoms below n is the set of a word below 2 to the power of n.
pub word_of_set : (n : ℕ) (M : Atoms) → ((a : ℕ) → So (M a) → a < n) → (x : ℕ) × (x < 2 ^ n) × (set_of_word x ≡ M)
word_of_set n M h =
    let (e, small) = entries_word n (keep M (below n)) (keep_ordered n M) in
    (word (keep M (below n)), small, sym (among_entries n (word (keep M (below n))) small) ∙ ap among e ∙ keep_is M (below n) (λ a m. (mem_iff a (below n)).1 (below_in n a (h a m))))
