-- Bytes written one after the other: numbers, lists and lines.
use Prim.Native.Nat.{ℕ, suc, ◌+◌, ◌-◌, ◌/◌, ◌%◌, ◌^◌, ◌≤◌, ◌<◌}
use mathlib.Core.Path.{◌≡◌, refl, sym, ap, ◌∙◌}
use mathlib.Core.List.{List, [], ◌∷◌, ◌++◌, append_assoc}
use native.Mathlib.Omega.{arith}
use native.Mathlib.Nat.{div-div-eq-div-mul, pow-suc}
use native.Mathlib.Numerals.{add-one}
use lib.ListN.{length, length-append, get_or, take, drop, set, drop_of_length-le}
use lib.Seq.{sets, sets-eq, length-sets, drop-cons, drop-drop}
use Rattle.text_form.specs.Digits.{width, places, digits, others, commas}
use Rattle.text_form.specs.Render.{line_text}
use Rattle.text_form.specs.Stored.{Puts}
use Rattle.text_form.proofs.Widths.{places_length}
use Rattle.table.proofs.Slices.{sets_append, set_sets}

-- ---- pieces one after the other

pub puts_none : (w : List ℕ) (at : ℕ) (bs : List ℕ) → bs ≡ [] → Puts w w at at bs
puts_none w at bs e = record { next = omega (arith, ap length e); holds = ap (sets w at) (sym e) }

pub puts_long : (w w1 : List ℕ) (a b : ℕ) (xs : List ℕ) → Puts w w1 a b xs → length w1 ≡ length w
puts_long w w1 a b xs p = ap length p.holds ∙ length-sets w a xs

pub puts_then : (w w1 w2 : List ℕ) (a b c : ℕ) (xs ys : List ℕ) → Puts w w1 a b xs → Puts w1 w2 b c ys → Puts w w2 a c (xs ++ ys)
puts_then w w1 w2 a b c xs ys p q = record {
  next = omega (arith, p.next, q.next, length-append xs ys);
  holds = q.holds ∙ ap (λ z. sets z b ys) p.holds ∙ ap (λ z. sets (sets w a xs) z ys) p.next ∙ sym (sets_append w a xs ys);
}

-- A loop that writes a whole from `at` on into w₀ has come to n, with w, and r is left to write.
pub record Left (w w₀ : List ℕ) (n at : ℕ) (r whole : List ℕ) : Type 0 where
  pub long : length w ≡ length w₀
  pub room : n + length r ≡ at + length whole
  pub same : sets w n r ≡ sets w₀ at whole

pub left_start : (w : List ℕ) (at : ℕ) (r whole : List ℕ) → r ≡ whole → Left w w at at r whole
left_start w at r whole e = record { long = refl; room = ap (λ z. at + length z) e; same = ap (sets w at) e }

module _ (w w₀ : List ℕ) (n at : ℕ) (r whole : List ℕ) (l : Left w w₀ n at r whole) where
  pub left_on : (w1 : List ℕ) (n1 : ℕ) (xs r1 : List ℕ) → r ≡ xs ++ r1 → length w1 ≡ length w → Puts w w1 n n1 xs → Left w1 w₀ n1 at r1 whole
  left_on w1 n1 xs r1 e k p = record {
    long = k ∙ l.long;
    room = omega (arith, l.room, p.next, ap length e, length-append xs r1);
    same = ap (λ z. sets z n1 r1) p.holds ∙ ap (λ z. sets (sets w n xs) z r1) p.next ∙ sym (sets_append w n xs r1) ∙ ap (sets w n) (sym e) ∙ l.same;
  }

  -- the next piece fits
  pub left_room : (xs r1 : List ℕ) → r ≡ xs ++ r1 → at + length whole ≤ length w₀ → n + length xs ≤ length w
  left_room xs r1 e h = omega (arith, l.long, l.room, ap length e, length-append xs r1)

  pub left_end : r ≡ [] → Puts w₀ w at n whole
  left_end e = record { next = omega (arith, l.room, ap length e); holds = ap (sets w n) (sym e) ∙ l.same }

-- ---- digits

-- A number of w digits is being written into `old` from `at` on: its last decimal places are stored, all but j, and the number without them is left.
pub record Placed (old out : List ℕ) (at v w left j : ℕ) : Type 0 where
  pub most : j ≤ w
  pub rest : left ≡ v / 10 ^ (w - j)
  pub holds : out ≡ sets old (at + j) (places v (w - j))

pub placed_start : (out : List ℕ) (at v w : ℕ) → Placed out out at v w v w
unfolding places
placed_start out at v w = let z : w - w ≡ 0 = omega arith in record { most = omega arith; rest = rw z (omega arith); holds = rw z refl }

module _ (old out : List ℕ) (at v w left j : ℕ) (s : Placed old out at v w left j) where
  pub placed_long : length out ≡ length old
  placed_long = ap length s.holds ∙ length-sets old (at + j) (places v (w - j))

  pub placed_on : (i : ℕ) → j ≡ i + 1 → Placed old (set out (at + i) (48 + left % 10)) at v w (left / 10) i
  unfolding places
  placed_on i h =
      let m = s.most in
      let q : at + j ≡ suc (at + i) = omega arith in
      let k : w - i ≡ suc (w - j) = omega arith in
      record {
        most = omega arith;
        rest = rw (s.rest, k, pow-suc 10 (w - j), div-div-eq-div-mul);
        holds = rw (s.rest, s.holds, q, k) (set_sets old (suc (at + i)) (at + i) (48 + v / 10 ^ (w - j) % 10) (places v (w - j)) (omega arith));
      }

  pub placed_end : j ≡ 0 → w ≡ width v → Puts old out at (at + w) (digits v)
  unfolding digits
  placed_end l e =
      let q : w - j ≡ width v = omega arith in
      let z : at + j ≡ at = omega arith in
      record { next = omega (arith, places_length v (width v)); holds = s.holds ∙ rw (z, q) }

-- ---- bytes

-- bytes put one after the other
pub bytes_on : (out bs : List ℕ) (at i : ℕ) → i < length bs → sets out (at + i) (drop i bs) ≡ sets (set out (at + i) (get_or bs i 0)) (at + (i + 1)) (drop (i + 1) bs)
bytes_on out bs at i h = let q : at + (i + 1) ≡ suc (at + i) = omega arith in rw (q, drop-cons bs i 0 h, add-one i)

pub bytes_end : (out bs : List ℕ) (at i : ℕ) → length bs ≤ i → sets out (at + i) (drop i bs) ≡ out
bytes_end out bs at i h = rw (drop_of_length-le bs h)

-- bytes copied over those from `at` on
pub puts_copied : (w ys bs : List ℕ) (at : ℕ) → at + length bs ≤ length w → ys ≡ bs → Puts w (take at w ++ (ys ++ drop (at + length bs - at) (drop at w))) at (at + length bs) bs
puts_copied w ys bs at h e =
    let k : at + length bs - at ≡ length bs = omega arith in
    let d : drop (length bs) (drop at w) ≡ drop (at + length bs) w = drop-drop (length bs) at w in
    record { next = refl; holds = rw (e, k, d) (sym (append_assoc (take at w) bs (drop (at + length bs) w)) ∙ sym (sets-eq bs w at h)) }

-- ---- a list

pub others_on : (xs : List ℕ) (i v : ℕ) → i < length xs → v ≡ get_or xs i 0 → others (drop i xs) ≡ (44 ∷ digits v) ++ others (drop (i + 1) xs)
unfolding others
others_on xs i v h e = rw (drop-cons xs i 0 h, add-one i, e)

pub others_end : (xs : List ℕ) (i : ℕ) → length xs ≤ i → others (drop i xs) ≡ []
unfolding others
others_end xs i h = rw (drop_of_length-le xs h)

module _ (x : ℕ) (xs : List ℕ) where
  pub commas_length : length (commas (x ∷ xs)) ≡ length (digits x) + length (others xs)
  unfolding commas
  commas_length = length-append (digits x) (others xs)

  pub commas_puts : (w w1 w2 : List ℕ) (a b c : ℕ) → Puts w w1 a b (digits x) → Puts w1 w2 b c (others xs) → Puts w w2 a c (commas (x ∷ xs))
  unfolding commas
  commas_puts w w1 w2 a b c p q = puts_then w w1 w2 a b c (digits x) (others xs) p q

pub commas_none : (w : List ℕ) (at : ℕ) (xs : List ℕ) → length xs ≡ 0 → Puts w w at at (commas xs)
unfolding commas
commas_none w at [] h = puts_none w at [] refl
commas_none w at (x ∷ xs) h = absurd (omega arith)

-- ---- a line

pub line_puts : (w w1 w2 w3 : List ℕ) (a b c d : ℕ) (key v : List ℕ) → Puts w w1 a b key → Puts w1 w2 b c v → Puts w2 w3 c d (10 ∷ []) → Puts w w3 a d (line_text key v)
unfolding line_text
line_puts w w1 w2 w3 a b c d key v p q r = puts_then w w1 w3 a b d key (v ++ 10 ∷ []) p (puts_then w1 w2 w3 b c d v (10 ∷ []) q r)
