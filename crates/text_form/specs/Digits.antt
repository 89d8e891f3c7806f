-- The digits of a number and the numbers of a list, as bytes.
use Rattle.std.specs.Prelude.{ℕ, zero, suc, ◌+◌, ◌/◌, ◌%◌, ◌^◌, List, [], ◌∷◌, ◌++◌, Bool, cond, ◌&&◌, leb}

-- v is one of the numbers from a to b
unfoldable pub between : ℕ → ℕ → ℕ → Bool
between a b v = leb a v && leb v b

-- How many digits a number has: "A number has one to four digits", "a place may have five digits"; as "cases that people can hold against the text form: 0 to 9, 10 to 99,
-- 100 to 999, 1,000 to 9,999, and for the place of a refusal 10,000 to 65,536". No larger number is written.
unfoldable pub width : ℕ → ℕ
width v =
    cond (between 0 9 v) 1
    (cond (between 10 99 v) 2
    (cond (between 100 999 v) 3
    (cond (between 1000 9999 v) 4
    (cond (between 10000 65536 v) 5 0))))

-- the k last decimal places of v; 48 is the byte of 0
unfoldable pub places : ℕ → ℕ → List ℕ
places v zero = []
places v (suc k) = (48 + v / 10 ^ k % 10) ∷ places v k

-- "no leading zero, save 0 itself"
unfoldable pub digits : ℕ → List ℕ
digits v = places v (width v)

-- "numbers joined by commas": those after the first, each after a comma, which is 44
unfoldable pub others : List ℕ → List ℕ
others [] = []
others (x ∷ xs) = 44 ∷ digits x ++ others xs

-- "or nothing"
unfoldable pub commas : List ℕ → List ℕ
commas [] = []
commas (x ∷ xs) = digits x ++ others xs
