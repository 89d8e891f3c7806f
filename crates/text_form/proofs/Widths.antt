-- How many digits a number has, case by case; and its digits are the numeral of it, and the only one.
use Prim.Native.Nat.{ℕ, zero, suc, ◌+◌, ◌-◌, ◌*◌, ◌/◌, ◌%◌, ◌^◌, ◌≤◌, ◌<◌}
use mathlib.Core.Path.{◌≡◌, refl, sym, ap, subst, ◌∙◌}
use mathlib.Core.Logic.{by_cases}
use mathlib.Core.List.{List, [], ◌∷◌, ◌++◌, append_assoc, append-nil}
use mathlib.Core.Bool.{Bool, true, false, ◌&&◌}
use native.Mathlib.Omega.{arith}
use native.Mathlib.Nat.{div-div-eq-div-mul, pow-suc, mul_comm}
use native.Mathlib.Decide.{dec_lt}
use lib.ListN.{length}
use lib.Dec.{leb}
use borrow.Author.Tests.{le-leb, lt-leb}
use Rattle.text_form.specs.Digits.{between, width, places, digits}
use Rattle.text_form.specs.Numerals.{AllDigits, NoLeadingZero, value_from, Numeral}

-- ---- the cases

in_case : (a b v : ℕ) → a ≤ v → v ≤ b → between a b v ≡ true
unfolding between
in_case a b v h k = rw (le-leb a v h, le-leb v b k)

past_case : (a b v : ℕ) → b < v → between a b v ≡ false
unfolding between
past_case a b v h = rw (lt-leb v b h) (go (leb a v))
  where
    go : (t : Bool) → (t && false) ≡ false
    go true = refl
    go false = refl

pub one_digit : (v : ℕ) → v ≤ 9 → width v ≡ 1
unfolding width
one_digit v h = rw (in_case 0 9 v (omega arith) h)

pub two_digits : (v : ℕ) → 10 ≤ v → v ≤ 99 → width v ≡ 2
unfolding width
two_digits v a b = rw (past_case 0 9 v a, in_case 10 99 v a b)

pub three_digits : (v : ℕ) → 100 ≤ v → v ≤ 999 → width v ≡ 3
unfolding width
three_digits v a b = rw (past_case 0 9 v (omega arith), past_case 10 99 v a, in_case 100 999 v a b)

pub four_digits : (v : ℕ) → 1000 ≤ v → v ≤ 9999 → width v ≡ 4
unfolding width
four_digits v a b = rw (past_case 0 9 v (omega arith), past_case 10 99 v (omega arith), past_case 100 999 v a, in_case 1000 9999 v a b)

pub five_digits : (v : ℕ) → 10000 ≤ v → v ≤ 65536 → width v ≡ 5
unfolding width
five_digits v a b = rw (past_case 0 9 v (omega arith), past_case 10 99 v (omega arith), past_case 100 999 v (omega arith), past_case 1000 9999 v a, in_case 10000 65536 v a b)

pub no_digits : (v : ℕ) → 65536 < v → width v ≡ 0
unfolding width
no_digits v h = rw (past_case 0 9 v (omega arith), past_case 10 99 v (omega arith), past_case 100 999 v (omega arith), past_case 1000 9999 v (omega arith), past_case 10000 65536 v h)

module _ (F : ℕ → Type 0) (v : ℕ) (one : v ≤ 9 → F 1) (two : 10 ≤ v → v ≤ 99 → F 2) (three : 100 ≤ v → v ≤ 999 → F 3) (four : 1000 ≤ v → v ≤ 9999 → F 4) (five : 10000 ≤ v → v ≤ 65536 → F 5) where
  -- what holds in each case holds of every number that is written
  pub width_by : v ≤ 65536 → F (width v)
  width_by l =
      by_cases (dec_lt v 10) (λ h. subst F (sym (one_digit v (omega arith))) (one (omega arith)))
      (λ p. by_cases (dec_lt v 100) (λ h. subst F (sym (two_digits v (omega arith) (omega arith))) (two (omega arith) (omega arith)))
      (λ q. by_cases (dec_lt v 1000) (λ h. subst F (sym (three_digits v (omega arith) (omega arith))) (three (omega arith) (omega arith)))
      (λ r. by_cases (dec_lt v 10000) (λ h. subst F (sym (four_digits v (omega arith) (omega arith))) (four (omega arith) (omega arith)))
      (λ s. subst F (sym (five_digits v (omega arith) l)) (five (omega arith) l)))))

pub width_five : (v : ℕ) → width v ≤ 5
width_five v = by_cases (dec_lt 65536 v) (λ h. omega (arith, no_digits v h))
    (λ h. width_by (λ k. k ≤ 5) v (λ a. omega arith) (λ a b. omega arith) (λ a b. omega arith) (λ a b. omega arith) (λ a b. omega arith) (omega arith))

-- "A number has one to four digits"
pub width_four : (v : ℕ) → v ≤ 9999 → width v ≤ 4
width_four v h = width_by (λ k. k ≤ 4) v (λ a. omega arith) (λ a b. omega arith) (λ a b. omega arith) (λ a b. omega arith) (λ a b. absurd (omega arith)) (omega arith)

-- a digit more
width_more : (v x : ℕ) → 0 < v → x < 10 → v * 10 + x ≤ 65536 → width (v * 10 + x) ≡ suc (width v)
width_more v x p h l =
    let u = v * 10 + x in
    width_by (λ k. width u ≡ suc k) v
    (λ a. two_digits u (omega arith) (omega arith))
    (λ a b. three_digits u (omega arith) (omega arith))
    (λ a b. four_digits u (omega arith) (omega arith))
    (λ a b. five_digits u (omega arith) l)
    (λ a b. absurd (omega arith))
    (omega arith)

-- ---- digits

pub places_length : (v k : ℕ) → length (places v k) ≡ k
unfolding places
places_length v zero = refl
places_length v (suc k) = ap suc (places_length v k)

pub digits_length : (v : ℕ) → length (digits v) ≡ width v
unfolding digits
digits_length v = places_length v (width v)

places_more : (v x k : ℕ) → x < 10 → places (v * 10 + x) (suc k) ≡ places v k ++ (48 + x) ∷ []
unfolding places
places_more v x zero h = let e : 48 + (v * 10 + x) / 10 ^ 0 % 10 ≡ 48 + x = omega arith in rw e
places_more v x (suc k) h =
    let d : (v * 10 + x) / 10 ≡ v = omega arith in
    let e : (v * 10 + x) / 10 ^ suc k ≡ v / 10 ^ k = rw (pow-suc 10 k, mul_comm (10 ^ k) 10, ← div-div-eq-div-mul (v * 10 + x) 10 (10 ^ k), d) in
    rw (e, places_more v x k h)

-- a digit more behind a number that is not 0
pub digits_more : (v x : ℕ) → 0 < v → x < 10 → v * 10 + x ≤ 65536 → digits (v * 10 + x) ≡ digits v ++ (48 + x) ∷ []
unfolding digits
digits_more v x p h l = rw (width_more v x p h l) (places_more v x (width v) h)

pub digits_one : (v : ℕ) → v < 10 → digits v ≡ (48 + v) ∷ []
unfolding digits places
digits_one v h = let e : 48 + v / 10 ^ 0 % 10 ≡ 48 + v = omega arith in rw (one_digit v (omega arith), e)

-- all but the last digit are those of a tenth
pub digits_last : (v : ℕ) → 10 ≤ v → v ≤ 65536 → digits v ≡ digits (v / 10) ++ (48 + v % 10) ∷ []
digits_last v a l =
    let e : v / 10 * 10 + v % 10 ≡ v = omega arith in
    ap digits (sym e) ∙ digits_more (v / 10) (v % 10) (omega arith) (omega arith) (omega arith)

-- ---- numerals

value_more : (v b : ℕ) (bs : List ℕ) → value_from v (bs ++ b ∷ []) ≡ value_from v bs * 10 + (b - 48)
unfolding value_from
value_more v b [] = refl
value_more v b (c ∷ bs) = value_more (v * 10 + (c - 48)) b bs

value_least : (v : ℕ) (bs : List ℕ) → v ≤ value_from v bs
unfolding value_from
value_least v [] = omega arith
value_least v (b ∷ bs) = omega (arith, value_least (v * 10 + (b - 48)) bs)

all_more : (b : ℕ) (bs : List ℕ) → AllDigits bs → 48 ≤ b → b ≤ 57 → AllDigits (bs ++ b ∷ [])
all_more b [] h l m = (l, m, tt)
all_more b (c ∷ bs) h l m = (h.0, h.1, all_more b bs h.2 l m)

-- a digit more behind the numeral of a number that is not 0
numeral_more : (v x : ℕ) (bs : List ℕ) → 0 < v → x < 10 → Numeral bs v → Numeral (bs ++ (48 + x) ∷ []) (v * 10 + x)
unfolding value_from
numeral_more v x bs p h n = record {
  bytes = all_more (48 + x) bs n.bytes (omega arith) (omega arith);
  begins = go bs n.begins n.value;
  value = value_more 0 (48 + x) bs ∙ omega (arith, n.value);
}
  where
    go : (bs : List ℕ) → NoLeadingZero bs → value_from 0 bs ≡ v → NoLeadingZero (bs ++ (48 + x) ∷ [])
    go [] h e = absurd h
    go (b ∷ []) h e = λ z. omega arith
    go (b ∷ c ∷ bs) h e = h

numeral_one : (v : ℕ) → v < 10 → Numeral (digits v) v
unfolding value_from
numeral_one v h = rw (digits_one v h) (record { bytes = (omega arith, omega arith, tt); begins = tt; value = omega arith })

numeral_up : (n v : ℕ) → v ≤ n → v ≤ 65536 → Numeral (digits v) v
numeral_up zero v l m = numeral_one v (omega arith)
numeral_up (suc n) v l m = by_cases (dec_lt v 10) (numeral_one v)
    (λ h. let e : v / 10 * 10 + v % 10 ≡ v = omega arith in
    let k = numeral_more (v / 10) (v % 10) (digits (v / 10)) (omega arith) (omega arith) (numeral_up n (v / 10) (omega arith) (omega arith)) in
    rw (digits_last v (omega arith) m) (subst (Numeral (digits (v / 10) ++ (48 + v % 10) ∷ [])) e k))

-- The digits of a number are its numeral,
pub digits_numeral : (v : ℕ) → v ≤ 65536 → Numeral (digits v) v
digits_numeral v l = numeral_up v v (omega arith) l

grown : (v : ℕ) (bs : List ℕ) → 0 < v → AllDigits bs → value_from v bs ≤ 65536 → digits v ++ bs ≡ digits (value_from v bs)
unfolding value_from
grown v [] p h l = append-nil (digits v)
grown v (b ∷ bs) p h l =
    let u = v * 10 + (b - 48) in
    let e : 48 + (b - 48) ≡ b = omega (arith, h.0) in
    let k = value_least u bs in
    let d : digits u ≡ digits v ++ b ∷ [] = digits_more v (b - 48) p (omega (arith, h.0, h.1)) (omega arith) ∙ ap (λ z. digits v ++ z ∷ []) e in
    sym (append_assoc (digits v) (b ∷ []) bs) ∙ ap (λ z. z ++ bs) (sym d) ∙ grown u bs (omega arith) h.2 l

-- and the only one.
pub numeral_digits : (bs : List ℕ) (v : ℕ) → v ≤ 65536 → Numeral bs v → bs ≡ digits v
unfolding value_from
numeral_digits [] v l n = absurd n.begins
numeral_digits (b ∷ []) v l n =
    let e : 48 + v ≡ b = omega (arith, n.value, n.bytes.0) in
    sym (digits_one v (omega (arith, n.value, n.bytes.1)) ∙ ap (λ z. z ∷ []) e)
numeral_digits (b ∷ c ∷ bs) v l n =
    let u = 0 * 10 + (b - 48) in
    let e : 48 + u ≡ b = omega (arith, n.bytes.0) in
    let z : u ≡ 0 → ⊥ = λ q. n.begins (omega (arith, n.bytes.0)) in
    let p : 0 < u = by_cases (dec_lt 0 u) (λ h. h) (λ h. absurd (z (omega arith))) in
    let d : digits u ≡ b ∷ [] = digits_one u (omega (arith, n.bytes.1)) ∙ ap (λ z. z ∷ []) e in
    ap (λ z. z ++ (c ∷ bs)) (sym d) ∙ grown u (c ∷ bs) p n.bytes.2 (omega (arith, n.value)) ∙ ap digits n.value
