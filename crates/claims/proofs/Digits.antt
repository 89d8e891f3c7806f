-- Slip 4 of document 02, "Digits by cases": of every number from 0 to 65,536, and of the text of every table.
use Prim.Native.Nat.{ℕ, ◌≤◌}
use mathlib.Core.Path.{◌≡◌, sym, ap, subst, ◌∙◌}
use mathlib.Core.Logic.{◌↔◌}
use mathlib.Core.List.{List, [], ◌∷◌}
use mathlib.Core.Bool.{true}
use native.Mathlib.Omega.{arith}
use lib.ListN.{length}
use Rattle.table.specs.Questions.{Passed}
use Rattle.table.specs.Programs.{program_of}
use Rattle.text_form.specs.Digits.{width, digits, commas}
use Rattle.text_form.specs.Numerals.{Numeral}
use Rattle.text_form.specs.Reader.{numbers}
use Rattle.text_form.specs.Writer.{text_of}
use Rattle.text_form.proofs.Widths as widths
use Rattle.text_form.proofs.Numbers.{FourDigits, numbers_of, numbers_inv}
use Rattle.text_form.proofs.Lines.{commas_one}
use Rattle.text_form.proofs.Before.{render_by, digits_before, digits_before_lem, numerals_agree, text_by}

-- ---- "For every number from 0 to 65,536 the digits written are proved to be as many as its case says"

pub as_many : (v : ℕ) → length (digits v) ≡ width v
as_many v = widths.digits_length v

-- "0 to 9"
pub one_digit : (v : ℕ) → v ≤ 9 → length (digits v) ≡ 1
one_digit v h = as_many v ∙ widths.one_digit v h

-- "10 to 99"
pub two_digits : (v : ℕ) → 10 ≤ v → v ≤ 99 → length (digits v) ≡ 2
two_digits v a b = as_many v ∙ widths.two_digits v a b

-- "100 to 999"
pub three_digits : (v : ℕ) → 100 ≤ v → v ≤ 999 → length (digits v) ≡ 3
three_digits v a b = as_many v ∙ widths.three_digits v a b

-- "1,000 to 9,999"
pub four_digits : (v : ℕ) → 1000 ≤ v → v ≤ 9999 → length (digits v) ≡ 4
four_digits v a b = as_many v ∙ widths.four_digits v a b

-- "and for the place of a refusal 10,000 to 65,536"
pub five_digits : (v : ℕ) → 10000 ≤ v → v ≤ 65536 → length (digits v) ≡ 5
five_digits v a b = as_many v ∙ widths.five_digits v a b

-- ---- the digits are the number's

-- They are digits, without leading zero save 0 itself, and stand for the number;
pub read_back : (v : ℕ) → v ≤ 65536 → Numeral (digits v) v
read_back = widths.digits_numeral

-- no other bytes do.
pub no_other : (bs : List ℕ) (v : ℕ) → v ≤ 65536 → Numeral bs v → bs ≡ digits v
no_other = widths.numeral_digits

-- The reader of texts reads bytes as one number exactly when they are its numeral, of at most four digits.
pub reader_exactly : (bs : List ℕ) (v : ℕ) → (numbers bs ≡ record { ok = true; xs = v ∷ [] }) ↔ (Numeral bs v × (v ≤ 9999))
reader_exactly bs v = (
  λ h. let w = subst (λ l. (bs ≡ commas l) × FourDigits l) (ap (λ s. s.xs) h) (numbers_inv bs (ap (λ s. s.ok) h)) in (rw (w.0, commas_one v) (read_back v (omega (arith, w.1.0))), w.1.0),
  λ h. ap numbers (no_other bs v (omega (arith, h.1)) h.0 ∙ sym (commas_one v)) ∙ numbers_of (v ∷ []) (h.1, tt),
)

-- ---- "every output keeps its bytes"

-- The text of every table is what it was with the number of digits found as before; the program's output likewise: `output_before` (`reduce_filter/proofs/Before.antt`).
pub text_before : (ws : List ℕ) → Passed ws → render_by digits_before (program_of ws) ≡ text_of ws
text_before = text_by digits_before digits_before_lem

-- Whatever way of writing numbers gives numerals, however it finds how many digits there are, gives the text of every table.
pub text_numerals : (d : ℕ → List ℕ) → ((v : ℕ) → v ≤ 65536 → Numeral (d v) v) → (ws : List ℕ) → Passed ws → render_by d (program_of ws) ≡ text_of ws
text_numerals d h = text_by d (numerals_agree d h)
