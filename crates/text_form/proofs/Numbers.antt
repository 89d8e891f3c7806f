-- The digits of a number read back as the number, and what reads as a number is its digits; the same for lists.
use Prim.Native.Nat.{ℕ, zero, suc, ◌+◌, ◌-◌, ◌*◌, ◌/◌, ◌%◌, ◌≤◌, ◌<◌}
use mathlib.Core.Path.{◌≡◌, refl, sym, ap, ◌∙◌}
use mathlib.Core.Logic.{by_cases}
use mathlib.Core.List.{List, [], ◌∷◌, ◌++◌, append_assoc}
use mathlib.Core.Bool.{Bool, true, false, ◌&&◌, ◌||◌, not, cond}
use native.Mathlib.Omega.{arith}
use native.Mathlib.Decide.{dec_lt}
use lib.Dec.{leb, eqb}
use borrow.Author.Tests.{le-leb, leb-true, eqb-true}
use Rattle.semantics.proofs.Tests.{and_iff}
use Rattle.text_form.specs.Digits.{digits, others, commas}
use Rattle.text_form.specs.Reader.{Next, Digit, Comma, Bad, next_of, Scanned, emit, on_next, scan, numbers}
use Rattle.text_form.proofs.Widths.{digits_one, digits_more, digits_last}

-- ---- one byte

next_begin : (x : ℕ) → x < 10 → next_of false 0 (48 + x) ≡ Digit x
unfolding next_of
next_begin x h = let e : 0 * 10 + (48 + x - 48) ≡ x = omega arith in rw (le-leb 48 (48 + x) (omega arith), le-leb (48 + x) 57 (omega arith), e)

next_on : (v x : ℕ) → x < 10 → 0 < v → v ≤ 999 → next_of true v (48 + x) ≡ Digit (v * 10 + x)
unfolding next_of
next_on v x h p l = let e : v * 10 + (48 + x - 48) ≡ v * 10 + x = omega arith in rw (le-leb 48 (48 + x) (omega arith), le-leb (48 + x) 57 (omega arith), le-leb 1 v p, le-leb v 999 l, e)

-- a byte that goes on with a number is a digit
record Goes (g : Bool) (v b w : ℕ) : Type 0 where
  pub x : ℕ
  pub small : x < 10
  pub byte : b ≡ 48 + x
  pub value : w ≡ v * 10 + x
  pub short : v ≤ 999
  pub more : g ≡ true → 0 < v

next_digit : (g : Bool) (v b w : ℕ) → next_of g v b ≡ Digit w → Goes g v b w
unfolding next_of
next_digit g v b w h = go (leb 48 b && leb b 57) refl (leb v 999 && (not g || leb 1 v)) refl (g && eqb b 44) h
  where
    least : (g : Bool) → (not g || leb 1 v) ≡ true → g ≡ true → 0 < v
    least true q e = leb-true 1 v q
    least false q e = let z : ◌≡◌ {A = ℕ} 0 1 = cc in absurd (omega arith)

    go : (t : Bool) → (leb 48 b && leb b 57) ≡ t → (u : Bool) → (leb v 999 && (not g || leb 1 v)) ≡ u → (c : Bool)
        → cond t (cond u (Digit (v * 10 + (b - 48))) Bad) (cond c Comma Bad) ≡ Digit w → Goes g v b w
    go true p true q c e =
        let (l, m) = (and_iff (leb 48 b) (leb b 57)).0 p in
        let lo = leb-true 48 b l in
        let hi = leb-true b 57 m in
        let (s, t) = (and_iff (leb v 999) (not g || leb 1 v)).0 q in
        let f : v * 10 + (b - 48) ≡ w = cc in
        record { x = b - 48; small = omega arith; byte = omega arith; value = sym f; short = leb-true v 999 s; more = least g t }
    go true p false q c e = let z : ◌≡◌ {A = ℕ} 0 1 = cc in absurd (omega arith)
    go false p u q true e = let z : ◌≡◌ {A = ℕ} 0 1 = cc in absurd (omega arith)
    go false p u q false e = let z : ◌≡◌ {A = ℕ} 0 1 = cc in absurd (omega arith)

-- so a number so far has four digits at most
pub digit_most : (g : Bool) (v b w : ℕ) → next_of g v b ≡ Digit w → w ≤ 9999
digit_most g v b w h = let d = next_digit g v b w h in omega (arith, d.value, d.small, d.short)

next_comma : (g : Bool) (v b : ℕ) → next_of g v b ≡ Comma → (g ≡ true) × (b ≡ 44)
unfolding next_of
next_comma g v b h = go (leb 48 b && leb b 57) (leb v 999 && (not g || leb 1 v)) (g && eqb b 44) refl h
  where
    go : (t u c : Bool) → (g && eqb b 44) ≡ c → cond t (cond u (Digit (v * 10 + (b - 48))) Bad) (cond c Comma Bad) ≡ Comma → (g ≡ true) × (b ≡ 44)
    go true true c q e = let z : ◌≡◌ {A = ℕ} 0 1 = cc in absurd (omega arith)
    go true false c q e = let z : ◌≡◌ {A = ℕ} 0 1 = cc in absurd (omega arith)
    go false u true q e = let (h, k) = (and_iff g (eqb b 44)).0 q in (h, eqb-true b 44 k)
    go false u false q e = let z : ◌≡◌ {A = ℕ} 0 1 = cc in absurd (omega arith)

-- ---- from digits to the number

scan_on : (g : Bool) (v w b : ℕ) (l : List ℕ) → next_of g v b ≡ Digit w → scan g v (b ∷ l) ≡ scan true w l
unfolding scan
scan_on g v w b l h = rw h

scan_comma : (v : ℕ) (l : List ℕ) → scan true v (44 ∷ l) ≡ emit v (scan false 0 l)
unfolding scan next_of
scan_comma v l = refl

scan_digits : (n x : ℕ) → x ≤ n → x ≤ 9999 → (r : List ℕ) → scan false 0 (digits x ++ r) ≡ scan true x r
scan_digits zero x a b r =
    rw (digits_one x (omega arith)) (scan_on false 0 x (48 + x) r (next_begin x (omega arith)))
scan_digits (suc n) x a b r = by_cases (dec_lt x 10)
    (λ h. rw (digits_one x h) (scan_on false 0 x (48 + x) r (next_begin x h)))
    (λ h. let e : x / 10 * 10 + x % 10 ≡ x = omega arith in
    let i : scan false 0 (digits (x / 10) ++ ((48 + x % 10) ∷ r)) ≡ scan true (x / 10) ((48 + x % 10) ∷ r) = scan_digits n (x / 10) (omega arith) (omega arith) ((48 + x % 10) ∷ r) in
    rw (digits_last x (omega arith) (omega arith), append_assoc) (i ∙ scan_on true (x / 10) x (48 + x % 10) r (next_on (x / 10) (x % 10) (omega arith) (omega arith) (omega arith) ∙ ap Digit e)))

-- numbers of at most b
abbrev pub UpTo : ℕ → List ℕ → Type 0
UpTo b [] = Unit {0}
UpTo b (x ∷ xs) = (x ≤ b) × UpTo b xs

-- numbers of at most four digits
abbrev pub FourDigits : List ℕ → Type 0
FourDigits xs = UpTo 9999 xs

scan_others : (x : ℕ) (xs : List ℕ) → FourDigits (x ∷ xs) → scan false 0 (digits x ++ others xs) ≡ record { ok = true; xs = x ∷ xs }
unfolding others scan
scan_others x [] s = scan_digits x x (omega arith) s.0 []
scan_others x (y ∷ ys) s = scan_digits x x (omega arith) s.0 (44 ∷ digits y ++ others ys) ∙ scan_comma x (digits y ++ others ys) ∙ ap (emit x) (scan_others y ys s.1)

-- ---- from what reads as numbers to their digits

record Found (s : Scanned) (t : List ℕ) : Type 0 where
  pub x : ℕ
  pub rest : List ℕ
  pub is : s.xs ≡ x ∷ rest
  pub text : t ≡ digits x ++ others rest
  pub small : FourDigits (x ∷ rest)

-- the digits of the number that has begun
abbrev pre : Bool → ℕ → List ℕ
pre true v = digits v
pre false v = []

scan_inv : (g : Bool) (v : ℕ) (l : List ℕ) → v ≤ 9999 → (g ≡ false → v ≡ 0) → (scan g v l).ok ≡ true → Found (scan g v l) (pre g v ++ l)
unfolding scan others
scan_inv true v [] a z h = record { x = v; rest = []; is = refl; text = refl; small = (a, tt) }
scan_inv false v [] a z h = let z : ◌≡◌ {A = ℕ} 0 1 = cc in absurd (omega arith)
scan_inv g v (b ∷ l) a z h =
    go (next_of g v b) refl (λ w c h'. scan_inv true w l c (λ q. let z : ◌≡◌ {A = ℕ} 0 1 = cc in absurd (omega arith)) h') (scan_inv false 0 l (omega arith) (λ q. refl)) h
  where
    grown : (g : Bool) (w : ℕ) → (g ≡ false → v ≡ 0) → Goes g v b w → (w ≤ 9999) × (pre g v ++ (b ∷ l) ≡ digits w ++ l)
    grown true w z d =
        let m = d.short in
        (omega (arith, d.value, d.small), rw (d.byte, d.value, digits_more v d.x (d.more refl) d.small (omega (arith, d.small)), append_assoc))
    grown false w z d =
        let e : w ≡ d.x = omega (arith, d.value, z refl) in
        (omega (arith, d.small), rw (d.byte, e, digits_one d.x d.small))

    go : (k : Next) → next_of g v b ≡ k
        → ((w : ℕ) → w ≤ 9999 → (scan true w l).ok ≡ true → Found (scan true w l) (digits w ++ l))
        → ((scan false 0 l).ok ≡ true → Found (scan false 0 l) l)
        → (on_next k (λ w. scan true w l) (emit v (scan false 0 l))).ok ≡ true → Found (on_next k (λ w. scan true w l) (emit v (scan false 0 l))) (pre g v ++ (b ∷ l))
    go (Digit w) e f i h = let d = grown g w z (next_digit g v b w e) in let r = f w d.0 h in
        record { x = r.x; rest = r.rest; is = r.is; text = d.1 ∙ r.text; small = r.small }
    go Comma e f i h = let d = next_comma g v b e in let r = i h in
        record { x = v; rest = r.x ∷ r.rest; is = ap (λ l. v ∷ l) r.is; text = rw (d.0, d.1) (ap (λ t. digits v ++ 44 ∷ t) r.text); small = (a, r.small) }
    go Bad e f i h = let z : ◌≡◌ {A = ℕ} 0 1 = cc in absurd (omega arith)

-- ---- values

-- the numbers of a list, written, are read
pub numbers_of : (xs : List ℕ) → FourDigits xs → numbers (commas xs) ≡ record { ok = true; xs = xs }
unfolding commas numbers scan
numbers_of [] s = refl
numbers_of (x ∷ xs) s = go (digits x ++ others xs) (scan_others x xs s)
  where
    go : (t : List ℕ) → scan false 0 t ≡ record { ok = true; xs = x ∷ xs } → numbers t ≡ record { ok = true; xs = x ∷ xs }
    go [] h = let e = ap (λ (s : Scanned). s.ok) h in let z : ◌≡◌ {A = ℕ} 0 1 = cc in absurd (omega arith)
    go (b ∷ l) h = h

-- what is read as numbers is those numbers, written
pub numbers_inv : (l : List ℕ) → (numbers l).ok ≡ true → (l ≡ commas (numbers l).xs) × FourDigits (numbers l).xs
unfolding commas numbers
numbers_inv [] h = (refl, tt)
numbers_inv (b ∷ l) h = let r = scan_inv false 0 (b ∷ l) (omega arith) (λ q. refl) h in (rw r.is r.text, rw r.is r.small)
