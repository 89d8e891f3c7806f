-- The five parts of the flags as one list: a word of a part written.
use Rattle.std.proofs.Common.{◌≡◌, refl, ℕ, ◌+◌, ◌-◌, ◌<◌, List, ◌++◌, length, set, ap, ◌∙◌, arith, length-append, length-set}
use Rattle.std.proofs.lemmas.List.{set-append_left, set-append_right}
use Rattle.search_flags.specs.Flags.{lowests, highests}

-- all five, one after the other
abbrev whole : List ℕ → List ℕ → List ℕ → List ℕ → List ℕ → List ℕ
whole keys lows ends tops gaps = keys ++ lows ++ ends ++ tops ++ gaps

module _ (keys lows ends tops gaps : List ℕ) (i v : ℕ) where
  -- a word in front of the last two parts
  front : i < length (keys ++ lows ++ ends) → set (whole keys lows ends tops gaps) i v ≡ set (keys ++ lows ++ ends) i v ++ tops ++ gaps
  front h =
      let l : i < length (keys ++ lows ++ ends ++ tops) = omega (arith, length-append (keys ++ lows ++ ends) tops) in
      set-append_left _ gaps i v l ∙ ap (λ x. x ++ gaps) (set-append_left _ tops i v h)

  -- in front of the last three
  first_two : i < length (keys ++ lows) → set (whole keys lows ends tops gaps) i v ≡ set (keys ++ lows) i v ++ ends ++ tops ++ gaps
  first_two h =
      let l : i < length (keys ++ lows ++ ends) = omega (arith, length-append (keys ++ lows) ends) in
      front l ∙ ap (λ x. x ++ tops ++ gaps) (set-append_left _ ends i v h)

  -- a flag
  pub set_keys : length keys ≡ 34816 → i < 34816 → set (whole keys lows ends tops gaps) i v ≡ set keys i v ++ lows ++ ends ++ tops ++ gaps
  set_keys k h =
      let l : i < length (keys ++ lows) = simp length-append (omega arith) in
      let s : i < length keys = omega arith in
      first_two l ∙ ap (λ x. x ++ ends ++ tops ++ gaps) (set-append_left keys lows i v s)

  -- a lower bound
  set_lows : (r : ℕ) → i ≡ length keys + r → r < length lows → set (whole keys lows ends tops gaps) i v ≡ keys ++ set lows r v ++ ends ++ tops ++ gaps
  set_lows r e h =
      let l : i < length (keys ++ lows) = simp length-append (omega arith) in
      let k : i - length keys ≡ r = omega arith in
      first_two l ∙ ap (λ x. x ++ ends ++ tops ++ gaps) (set-append_right keys lows (length keys) i v refl (omega arith) ∙ ap (λ j. keys ++ set lows j v) k)

  -- an upper bound
  set_ends : (r : ℕ) → i ≡ length keys + length lows + r → r < length ends → set (whole keys lows ends tops gaps) i v ≡ keys ++ lows ++ set ends r v ++ tops ++ gaps
  set_ends r e h =
      let l : i < length (keys ++ lows ++ ends) = simp length-append (omega arith) in
      let n : length (keys ++ lows) ≡ length keys + length lows = length-append keys lows in
      let k : i - (length keys + length lows) ≡ r = omega arith in
      front l ∙ ap (λ x. x ++ tops ++ gaps) (set-append_right (keys ++ lows) ends (length keys + length lows) i v n (omega arith) ∙ ap (λ j. keys ++ lows ++ set ends j v) k)

-- both bounds of a row
pub set_both : (keys lows ends tops gaps : List ℕ) (r x y : ℕ) → length keys ≡ 34816 → length lows ≡ 17 → length ends ≡ 17 → r < 17
    → set (set (whole keys lows ends tops gaps) (lowests + r) x) (highests + r) y ≡ keys ++ set lows r x ++ set ends r y ++ tops ++ gaps
set_both keys lows ends tops gaps r x y k l e b =
    let n : length (set lows r x) ≡ 17 = simp length-set l in
    ap (λ xs. set xs (highests + r) y) (set_lows keys lows ends tops gaps (lowests + r) x r (omega arith) (omega arith))
    ∙ set_ends keys (set lows r x) ends tops gaps (highests + r) y r (omega arith) (omega arith)
