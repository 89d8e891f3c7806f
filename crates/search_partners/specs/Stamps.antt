-- Stamps: an array of bytes that holds one clause's atoms, so that a test of membership is one look.
use Rattle.std.specs.Prelude.{◌≡◌, Bool, ◌&&◌, List, [], ◌∷◌, ℕ, ◌+◌, ◌<◌, eqb, get_or, set}
use Rattle.semantics.specs.Lists.{all, mem}
use Rattle.semantics.specs.Programs.{Clause}
use Rattle.step_parts.specs.declared.Part.{Part}
use Rattle.step_parts.specs.declared.Part.TheVariants.{Head, Pos, Neg}

-- where the stamps of a part begin
abbrev pub offset_of : Part → ℕ
offset_of Head = 0
offset_of Pos = 1024
offset_of Neg = 2048

-- a 1 for each atom, from a place on
unfoldable pub stamped : List ℕ → ℕ → List ℕ → List ℕ
stamped st o [] = st
stamped st o (a ∷ l) = stamped (set st (o + a) 1) o l

abbrev pub is_stamped : List ℕ → ℕ → ℕ → Bool
is_stamped st o a = eqb (get_or st (o + a) 0) 1

-- The stamps are those of a clause: its head from 0 on, its positive body from 1,024 on, its negative body from 2,048 on.
pub record Stamps (c : Clause) (st : List ℕ) : Type 0 where
  pub head : (a : ℕ) → a < 1024 → is_stamped st 0 a ≡ mem a c.head
  pub pos : (a : ℕ) → a < 1024 → is_stamped st 1024 a ≡ mem a c.pos
  pub neg : (a : ℕ) → a < 1024 → is_stamped st 2048 a ≡ mem a c.neg

-- every part of a clause is stamped in its own range
abbrev pub all_stamped : List ℕ → Clause → Bool
all_stamped st d = all (is_stamped st 0) d.head && (all (is_stamped st 1024) d.pos && all (is_stamped st 2048) d.neg)
