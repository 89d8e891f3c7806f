-- What a numeral is, whoever wrote it: its digits, and the number that they stand for.
use Rattle.std.specs.Prelude.{ℕ, ◌+◌, ◌-◌, ◌*◌, ◌≤◌, ◌≡◌, ◌≢◌, List, [], ◌∷◌}

-- the bytes of 0 to 9 are 48 to 57
abbrev pub AllDigits : List ℕ → Type 0
AllDigits [] = Unit {0}
AllDigits (b ∷ bs) = (48 ≤ b) × (b ≤ 57) × AllDigits bs

-- at least one digit, and "no leading zero, save 0 itself"
abbrev pub NoLeadingZero : List ℕ → Type 0
NoLeadingZero [] = ⊥
NoLeadingZero (b ∷ []) = Unit {0}
NoLeadingZero (b ∷ c ∷ bs) = b ≢ 48

-- the number that the bytes stand for, where those before them stand for v
unfoldable pub value_from : ℕ → List ℕ → ℕ
value_from v [] = v
value_from v (b ∷ bs) = value_from (v * 10 + (b - 48)) bs

-- the bytes are the numeral of v
pub record Numeral (bs : List ℕ) (v : ℕ) : Type 0 where
  pub bytes : AllDigits bs
  pub begins : NoLeadingZero bs
  pub value : value_from 0 bs ≡ v
