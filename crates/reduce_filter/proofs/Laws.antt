-- The output's lines, one after the other.
use Prim.Native.Nat.{ℕ, suc, ◌+◌, ◌-◌, ◌*◌, ◌≤◌, ◌<◌}
use mathlib.Core.Path.{◌≡◌, sym, ap, ◌∙◌}
use mathlib.Core.List.{List, [], ◌∷◌, ◌++◌, append-nil}
use native.Mathlib.Omega.{arith}
use lib.ListN.{length, length-append, length-drop, take, drop}
use lib.Seq.{drop-drop, take_at, drop_at, length-take-le}
use Rattle.std.proofs.lemmas.List.{drop-take, take-take}
use Rattle.table.specs.Places.{cut}
use Rattle.text_form.specs.Digits.{digits, others, commas}
use Rattle.text_form.specs.Render.{line_text}
use Rattle.text_form.specs.Stored.{Puts}
use Rattle.text_writer.proofs.Laws.{puts_then, Left, left_on, left_room}
use Rattle.reduce_filter.specs.Output.{step_key, step_lines}

pub pair_puts : (w w1 w2 : List ℕ) (p q r a b : ℕ) → Puts w w1 p q (digits a) → Puts w1 w2 q r (44 ∷ digits b) → Puts w w2 p r (commas (a ∷ b ∷ []))
unfolding commas others
pair_puts w w1 w2 p q r a b x y = rw (append-nil (digits b)) (puts_then w w1 w2 p q r (digits a) (44 ∷ digits b) x y)

-- what is left of the list's first s steps, k of which have come: four words more are the next step's
module _ (ls : List ℕ) (s k : ℕ) (fits : 4 * s ≤ length ls) (x r : List ℕ) (e : drop (4 * k) (take (4 * s) ls) ≡ x ++ r) (four : length x ≡ 4) where
  pub step_before : k < s
  step_before = omega (arith, ap length e, length-append x r, length-drop (4 * k) (take (4 * s) ls), length-take-le (4 * s) ls fits)

  pub step_words : x ≡ cut ls (4 * k) 4
  step_words =
      let n : 4 * s ≡ 4 * k + (4 * s - 4 * k) = omega (arith, step_before) in
      sym (take_at x r 4 four) ∙ ap (take 4) (sym e ∙ ap (λ z. drop (4 * k) (take z ls)) n ∙ drop-take (4 * k) (4 * s - 4 * k) ls) ∙ take-take 4 (4 * s - 4 * k) (drop (4 * k) ls) (omega (arith, step_before))

  pub step_rest : r ≡ drop (4 * (k + 1)) (take (4 * s) ls)
  step_rest =
      let n : 4 * k + 4 ≡ 4 * (k + 1) = omega arith in
      sym (drop_at x r 4 four) ∙ ap (drop 4) (sym e) ∙ drop-drop 4 (4 * k) (take (4 * s) ls) ∙ ap (λ z. drop z (take (4 * s) ls)) n

-- too few words for a step: all have come
pub steps_over : (ls : List ℕ) (s k : ℕ) → 4 * s ≤ length ls → (r : List ℕ) → r ≡ drop (4 * k) (take (4 * s) ls) → length r < 4 → s ≤ k
steps_over ls s k fits r e l = omega (arith, ap length e, length-drop (4 * k) (take (4 * s) ls), length-take-le (4 * s) ls fits)

-- one step more
module _ (ls : List ℕ) (k s : ℕ) (h : k < s) where
  steps_on : step_lines ls (4 * k) (s - k) ≡ line_text step_key (commas (cut ls (4 * k) 4)) ++ step_lines ls (4 * (k + 1)) (s - (k + 1))
  unfolding step_lines
  steps_on = let q : s - k ≡ suc (s - (k + 1)) = omega arith in let n : 4 * (k + 1) ≡ 4 * k + 4 = omega arith in rw (q, n)

  module _ (w w₀ : List ℕ) (n at : ℕ) (whole : List ℕ) (l : Left w w₀ n at (step_lines ls (4 * k) (s - k)) whole) where
    abbrev line : List ℕ
    line = line_text step_key (commas (cut ls (4 * k) 4))

    pub steps_room : at + length whole ≤ length w₀ → n + length line ≤ length w
    steps_room x = left_room w w₀ n at _ whole l line (step_lines ls (4 * (k + 1)) (s - (k + 1))) steps_on x

    pub steps_left : (w1 : List ℕ) (n1 : ℕ) → length w1 ≡ length w → Puts w w1 n n1 line → Left w1 w₀ n1 at (step_lines ls (4 * (k + 1)) (s - (k + 1))) whole
    steps_left w1 n1 x p = left_on w w₀ n at _ whole l w1 n1 line (step_lines ls (4 * (k + 1)) (s - (k + 1))) steps_on x p

pub steps_none : (ls : List ℕ) (from k s : ℕ) → s ≤ k → step_lines ls from (s - k) ≡ []
unfolding step_lines
steps_none ls from k s h = let q : s - k ≡ 0 = omega arith in rw q
