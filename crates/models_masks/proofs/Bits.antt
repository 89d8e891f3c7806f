-- Masks: the bits that two masks over one list share are those of the sets' common atoms, every number of few enough digits is a
-- mask, and the subsets of a mask are met by counting down.
use Prim.Native.Nat.{ℕ, zero, suc, ◌+◌, ◌-◌, ◌*◌, ◌/◌, ◌%◌, ◌^◌, ◌≤◌, ◌<◌, min}
use mathlib.Core.Path.{◌≡◌, refl, sym, ap, ap₂, ◌∙◌}
use mathlib.Core.Logic.{◌↔◌, ◌⊎◌, inl, inr}
use mathlib.Core.List.Memᴰ
use mathlib.Core.List.{List, [], ◌∷◌}
use mathlib.Core.Bool.{Bool, true, false, ◌&&◌, ◌||◌, So, false≢true}
use native.Mathlib.Omega.{arith}
use native.Mathlib.Nat.{pow-suc, mod-lt, div-add-mod', min-eq_left, min-le_right}
use lib.Arith.{digits_div, digits_mod, bin_ind}
use lib.Bits.{bit_and, and_step}
use lib.Dec.{eqb, ltb}
use lib.ListN.{length}
use borrow.Author.Tests.{eq-eqb, ne_eqb, eqb-true, ltb-true}
use Rattle.semantics.specs.Lists.{bit, ◌∈◌, all, ascending}
use Rattle.semantics.specs.Programs.{Atoms}
use Rattle.semantics.proofs.Tests.{and_iff, all_iff, so_ext, bit_le, bit_same, bit_bound}
use Rattle.models_masks.specs.Masks.{mask_of, inside}

-- ---- one digit

digit : (b : Bool) → bit b < 2
digit b = omega (arith, bit_bound b)

bit_of_and : (a b : Bool) → min (bit a) (bit b) ≡ bit (a && b)
bit_of_and true true = refl
bit_of_and true false = refl
bit_of_and false true = refl
bit_of_and false false = refl

pub bit_odd : (x : ℕ) → bit (eqb (x % 2) 1) ≡ x % 2
bit_odd x = go (x % 2) (mod-lt x (omega arith))
  where
    go : (r : ℕ) → r < 2 → bit (eqb r 1) ≡ r
    go zero h = refl
    go (suc zero) h = refl
    go (suc (suc r)) h = absurd (omega arith)

pub and_digits : (P Q : ℕ) {p q : ℕ} → p < 2 → q < 2 → bit_and (P * 2 + p) (Q * 2 + q) ≡ bit_and P Q * 2 + min p q
and_digits P Q {p} {q} h k =
    and_step (P * 2 + p) (Q * 2 + q)
    ∙ ap₂ (λ x y. bit_and x y * 2 + min ((P * 2 + p) % 2) ((Q * 2 + q) % 2)) (digits_div P h) (digits_div Q k)
    ∙ ap₂ (λ x y. bit_and P Q * 2 + min x y) (digits_mod P h) (digits_mod Q k)

-- ---- masks over one list

pub and_masks : (s : List ℕ) (X Y : Atoms) → bit_and (mask_of s X) (mask_of s Y) ≡ mask_of s (λ a. X a && Y a)
unfolding mask_of
and_masks [] X Y = refl
and_masks (a ∷ s) X Y =
    and_digits (mask_of s X) (mask_of s Y) (digit (X a)) (digit (Y a))
    ∙ ap₂ (λ x y. x * 2 + y) (and_masks s X Y) (bit_of_and (X a) (Y a))

pub mask_ext : (s : List ℕ) (X Y : Atoms) → ((a : ℕ) → a ∈ s → X a ≡ Y a) → mask_of s X ≡ mask_of s Y
unfolding mask_of
mask_ext [] X Y h = refl
mask_ext (a ∷ s) X Y h = ap₂ (λ x y. x * 2 + bit y) (mask_ext s X Y (λ b m. h b (Memᴰ.tail m))) (h a (Memᴰ.head refl))

pub mask_inj : (s : List ℕ) (X Y : Atoms) → mask_of s X ≡ mask_of s Y → (a : ℕ) → a ∈ s → X a ≡ Y a
unfolding mask_of
mask_inj [] X Y e a x'' = elim x'' [ ]
mask_inj (b ∷ s) X Y e a (Memᴰ.head q) =
    let i : bit (X b) ≡ bit (Y b) = omega (arith, bit_bound (X b), bit_bound (Y b)) in rw q (bit_same (X b) (Y b) i)
mask_inj (b ∷ s) X Y e a (Memᴰ.tail m) =
    let i : mask_of s X ≡ mask_of s Y = omega (arith, bit_bound (X b), bit_bound (Y b)) in mask_inj s X Y i a m

mask_none : (s : List ℕ) → mask_of s (λ a. false) ≡ 0
unfolding mask_of
mask_none [] = refl
mask_none (a ∷ s) = rw (mask_none s)

pub mask_bound : (s : List ℕ) (X : Atoms) → mask_of s X < 2 ^ length s
unfolding mask_of
mask_bound [] X = omega arith
mask_bound (a ∷ s) X = omega (arith, mask_bound s X, bit_bound (X a), pow-suc 2 (length s))

pub mask_le : (s : List ℕ) (X Y : Atoms) → ((a : ℕ) → a ∈ s → So (X a) → So (Y a)) → mask_of s X ≤ mask_of s Y
unfolding mask_of
mask_le [] X Y h = omega arith
mask_le (a ∷ s) X Y h = omega (arith, mask_le s X Y (λ b m. h b (Memᴰ.tail m)), bit_le (X a) (Y a) (h a (Memᴰ.head refl)))

pub inside_iff : (s : List ℕ) (X Y : Atoms) → So (inside (mask_of s X) (mask_of s Y)) ↔ ((a : ℕ) → a ∈ s → So (X a) → So (Y a))
inside_iff s X Y = (
  λ h a m x. ((and_iff (X a) (Y a)).0 (mask_inj s (λ a. X a && Y a) X (sym (and_masks s X Y) ∙ eqb-true _ _ h) a m ∙ x)).1,
  λ h. eq-eqb _ _ (and_masks s X Y ∙ mask_ext s (λ a. X a && Y a) X
      (λ a m. so_ext (X a && Y a) (X a) (λ k. ((and_iff _ _).0 k).0) (λ x. (and_iff _ _).1 (x, h a m x)))),
)

pub apart_iff : (s : List ℕ) (X Y : Atoms) → So (eqb (bit_and (mask_of s X) (mask_of s Y)) 0) ↔ ((a : ℕ) → a ∈ s → So (X a) → ¬ So (Y a))
apart_iff s X Y = (
  λ h a m x y. false≢true (sym (mask_inj s (λ a. X a && Y a) (λ a. false) (sym (and_masks s X Y) ∙ eqb-true _ _ h ∙ sym (mask_none s)) a m) ∙ (and_iff _ _).1 (x, y)),
  λ h. eq-eqb _ _ (and_masks s X Y ∙ mask_ext s (λ a. X a && Y a) (λ a. false)
      (λ a m. so_ext (X a && Y a) false (λ k. let w = (and_iff _ _).0 k in absurd (h a m w.0 w.1)) (λ x. absurd (false≢true x))) ∙ mask_none s),
)

-- ---- every number is a mask

-- the atoms of the list whose bit is set
abbrev pub bits_in : List ℕ → ℕ → Atoms
bits_in [] x a = false
bits_in (b ∷ s) x a = (eqb a b && eqb (x % 2) 1) || bits_in s (x / 2) a

pub bits_in_sub : (s : List ℕ) (x a : ℕ) → So (bits_in s x a) → a ∈ s
bits_in_sub [] x a h = absurd (false≢true h)
bits_in_sub (b ∷ s) x a h = go (eqb a b) refl h (bits_in_sub s (x / 2) a)
  where
    go : (t : Bool) → eqb a b ≡ t → So ((t && eqb (x % 2) 1) || bits_in s (x / 2) a) → (So (bits_in s (x / 2) a) → a ∈ s) → a ∈ b ∷ s
    go true e k f = Memᴰ.head (eqb-true _ _ e)
    go false e k f = Memᴰ.tail (f k)

or_none : (t u : Bool) → ¬ So u → (t || u) ≡ t
or_none true u h = refl
or_none false true h = absurd (h refl)
or_none false false h = refl

pub mask_of_bits : (s : List ℕ) (x : ℕ) → So (ascending s) → x < 2 ^ length s → mask_of s (bits_in s x) ≡ x
unfolding mask_of ascending
mask_of_bits [] x o h = omega arith
mask_of_bits (b ∷ s) x o h =
    let low : bits_in (b ∷ s) x b ≡ eqb (x % 2) 1 =
    rw (eq-eqb b b refl) (or_none (eqb (x % 2) 1) (bits_in s (x / 2) b) (λ k. omega (arith, above b (bits_in_sub s (x / 2) b k)))) in
    ap₂ (λ u v. u * 2 + bit v)
    (mask_ext s (bits_in (b ∷ s) x) (bits_in s (x / 2)) (λ a m. rw (ne_eqb a b (λ e. omega (arith, above a m))))) low
    ∙ ap₂ (λ u v. u * 2 + v) (mask_of_bits s (x / 2) ((and_iff (all (λ y. ltb b y) s) (ascending s)).0 o).1 (omega (arith, h, pow-suc 2 (length s)))) (bit_odd x)
    ∙ div-add-mod' x 2
  where
    above : (a : ℕ) → a ∈ s → b < a
    above a m = ltb-true b a ((all_iff (λ y. ltb b y) s).0 ((and_iff (all (λ y. ltb b y) s) (ascending s)).0 o).0 a m)

-- ---- the subsets of a mask, by counting down

two : zero < 2
two = omega arith

pub and_again : (a m : ℕ) → bit_and (bit_and a m) m ≡ bit_and a m
and_again = bin_ind (λ a. (m : ℕ) → bit_and (bit_and a m) m ≡ bit_and a m) (λ m. refl)
    (λ a ih m.
    let d : min (a % 2) (m % 2) < 2 = omega (arith, min-le_right (a % 2) (m % 2), mod-lt m two) in
    ap₂ bit_and (and_step a m) (sym (div-add-mod' m 2))
    ∙ and_digits (bit_and (a / 2) (m / 2)) (m / 2) d (mod-lt m two)
    ∙ ap₂ (λ x y. x * 2 + y) (ih (m / 2)) (min-eq_left (min-le_right (a % 2) (m % 2)))
    ∙ sym (and_step a m))

-- a mask within another, digit by digit
within_digits : (x m : ℕ) → bit_and x m ≡ x → (bit_and (x / 2) (m / 2) ≡ x / 2) × (x % 2 ≤ m % 2)
within_digits x m e =
    let q : bit_and (x / 2) (m / 2) * 2 + min (x % 2) (m % 2) ≡ x / 2 * 2 + x % 2 = sym (and_step x m) ∙ e ∙ sym (div-add-mod' x 2) in
    let d = min-le_right (x % 2) (m % 2) in
    let r : min (x % 2) (m % 2) ≡ x % 2 = omega (arith, mod-lt x two, mod-lt m two) in
    (omega (arith, mod-lt x two, mod-lt m two), omega arith)

pub inside_trans : (x y m : ℕ) → bit_and x y ≡ x → bit_and y m ≡ y → bit_and x m ≡ x
inside_trans = bin_ind (λ x. (y m : ℕ) → bit_and x y ≡ x → bit_and y m ≡ y → bit_and x m ≡ x) (λ y m e f. refl)
    (λ x ih y m e f.
    let (e2, u) = within_digits x y e in
    let (f2, w) = within_digits y m f in
    and_step x m ∙ ap₂ (λ p q. p * 2 + q) (ih (y / 2) (m / 2) e2 f2) (min-eq_left (omega arith)) ∙ div-add-mod' x 2)

-- below a subset x of m, the next subset is (x - 1) & m
pub next_subset : (x m y : ℕ) → bit_and x m ≡ x → bit_and y m ≡ y → y < x → y ≤ bit_and (x - 1) m
next_subset = bin_ind (λ x. (m y : ℕ) → bit_and x m ≡ x → bit_and y m ≡ y → y < x → y ≤ bit_and (x - 1) m)
    (λ m y e f h. absurd (omega arith))
    (λ x ih m y e f h.
    let (e2, u) = within_digits x m e in
    let (f2, w) = within_digits y m f in
    step x m y e2 u f2 w h (ih (m / 2) (y / 2) e2 f2) (last x))
  where
    last : (x : ℕ) → (x % 2 ≡ 1) ⊎ (x % 2 ≡ 0)
    last x = go (x % 2) (mod-lt x two)
      where
        go : (r : ℕ) → r < 2 → (r ≡ 1) ⊎ (r ≡ 0)
        go zero h = inr refl
        go (suc zero) h = inl refl
        go (suc (suc r)) h = absurd (omega arith)

    step : (x m y : ℕ) → bit_and (x / 2) (m / 2) ≡ x / 2 → x % 2 ≤ m % 2 → bit_and (y / 2) (m / 2) ≡ y / 2 → y % 2 ≤ m % 2 → y < x
        → (y / 2 < x / 2 → y / 2 ≤ bit_and (x / 2 - 1) (m / 2)) → (x % 2 ≡ 1) ⊎ (x % 2 ≡ 0) → y ≤ bit_and (x - 1) m
    step x m y e u f w h ih (inl o) =
        let a : (x - 1) / 2 ≡ x / 2 = omega arith in
        let b : (x - 1) % 2 ≡ 0 = omega arith in
        omega (arith, and_step (x - 1) m ∙ ap₂ (λ p q. bit_and p (m / 2) * 2 + min q (m % 2)) a b ∙ ap (λ p. p * 2 + min 0 (m % 2)) e)
    step x m y e u f w h ih (inr o) =
        let a : (x - 1) / 2 ≡ x / 2 - 1 = omega arith in
        let b : (x - 1) % 2 ≡ 1 = omega arith in
        let q : bit_and (x - 1) m ≡ bit_and (x / 2 - 1) (m / 2) * 2 + min 1 (m % 2) = and_step (x - 1) m ∙ ap₂ (λ p q. bit_and p (m / 2) * 2 + min q (m % 2)) a b in
        let i = ih (omega arith) in
        omega arith
