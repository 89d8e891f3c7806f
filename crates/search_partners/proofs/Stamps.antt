-- Stamps: a walk of a part word by word, and what the stamps of a whole clause say.
use mathlib.Core.Path.{◌≡◌, refl, sym, ap, ◌∙◌}
use mathlib.Core.Logic.{◌≢◌, by_cases}
use mathlib.Core.Bool.{Bool, true, false, ◌&&◌, ◌||◌}
use mathlib.Core.List.Memᴰ
use mathlib.Core.List.{List, [], ◌∷◌}
use Prim.Native.Nat.{ℕ, ◌+◌, ◌<◌}
use native.Mathlib.Omega.{arith}
use native.Mathlib.Decide.{ℕ_discrete}
use lib.Dec.{eqb}
use lib.ListN.{length, get_or, set, replicate, length-set, get_or-replicate, length-replicate}
use lib.Seq.{get_or-set_same, get_or-set_other}
use borrow.Author.Tests.{eq-eqb, ne_eqb}
use Rattle.semantics.proofs.Tests.{or_false}
use Rattle.semantics.specs.Lists.{◌∈◌, any, all, mem}
use Rattle.semantics.specs.Programs.{Clause}
use Rattle.std.specs.List.{list_all}
use Rattle.search_partners.specs.Stamps.{stamped, is_stamped, Stamps}

-- ---- what is stamped

-- a byte is 1 after the stamping where it was, or where an atom's is
stamped_at : (st : List ℕ) (o : ℕ) (l : List ℕ) (j : ℕ) → ((a : ℕ) → a ∈ l → o + a < length st)
    → eqb (get_or (stamped st o l) j 0) 1 ≡ (any (λ a. eqb j (o + a)) l || eqb (get_or st j 0) 1)
unfolding stamped
stamped_at st o [] j h = refl
stamped_at st o (a ∷ l) j h =
    stamped_at (set st (o + a) 1) o l j (λ b m. rw (length-set st (o + a) 1) (h b (Memᴰ.tail m)))
    ∙ by_cases (ℕ_discrete j (o + a))
    (λ e. rw (eq-eqb j (o + a) e, e, get_or-set_same st (o + a) 1 0 (h a (Memᴰ.head refl))) (or_true (any (λ b. eqb (o + a) (o + b)) l)))
    (λ d. rw (ne_eqb j (o + a) d, get_or-set_other st (o + a) j 1 0 d))
  where
    or_true : (b : Bool) → (b || true) ≡ true
    or_true true = refl
    or_true false = refl

pub length_stamped : (st : List ℕ) (o : ℕ) (l : List ℕ) → length (stamped st o l) ≡ length st
unfolding stamped
length_stamped st o [] = refl
length_stamped st o (a ∷ l) = length_stamped (set st (o + a) 1) o l ∙ length-set st (o + a) 1

any_same : (f g : ℕ → Bool) (l : List ℕ) → ((a : ℕ) → a ∈ l → f a ≡ g a) → any f l ≡ any g l
any_same f g [] h = refl
any_same f g (a ∷ l) h = rw (h a (Memᴰ.head refl), any_same f g l (λ b m. h b (Memᴰ.tail m)))

pub all_same : (f g : ℕ → Bool) (l : List ℕ) → ((a : ℕ) → a ∈ l → f a ≡ g a) → all f l ≡ all g l
all_same f g [] h = refl
all_same f g (a ∷ l) h = rw (h a (Memᴰ.head refl), all_same f g l (λ b m. h b (Memᴰ.tail m)))

-- in the part's own range: the atom is stamped if it is in the list, or was stamped
stamped_own : (st : List ℕ) (o : ℕ) (l : List ℕ) (x : ℕ) → ((a : ℕ) → a ∈ l → o + a < length st) → is_stamped (stamped st o l) o x ≡ (mem x l || is_stamped st o x)
stamped_own st o l x h = stamped_at st o l (o + x) h ∙ ap (λ b. b || is_stamped st o x) (any_same (λ a. eqb (o + x) (o + a)) (λ a. eqb x a) l (λ a m. same a))
  where
    same : (a : ℕ) → eqb (o + x) (o + a) ≡ eqb x a
    same a = by_cases (ℕ_discrete x a) (λ e. eq-eqb _ _ (ap (λ y. o + y) e) ∙ sym (eq-eqb _ _ e)) (λ d. ne_eqb (o + x) (o + a) (λ e. d (omega arith)) ∙ sym (ne_eqb _ _ d))

-- out of the part's range nothing changes
stamped_other : (st : List ℕ) (o : ℕ) (l : List ℕ) (j : ℕ) → ((a : ℕ) → a ∈ l → o + a < length st) → ((a : ℕ) → a ∈ l → j ≢ o + a) → eqb (get_or (stamped st o l) j 0) 1 ≡ eqb (get_or st j 0) 1
stamped_other st o l j h d = stamped_at st o l j h ∙ ap (λ b. b || eqb (get_or st j 0) 1) (none l d)
  where
    none : (l : List ℕ) → ((a : ℕ) → a ∈ l → j ≢ o + a) → any (λ a. eqb j (o + a)) l ≡ false
    none [] d = refl
    none (a ∷ l) d = rw (ne_eqb j (o + a) (d a (Memᴰ.head refl)), none l (λ b m. d b (Memᴰ.tail m)))

-- The three parts stamped one after the other, from nothing.
pub stamps_of : (c : Clause) → ((a : ℕ) → a ∈ c.head → a < 1024) → ((a : ℕ) → a ∈ c.pos → a < 1024) → ((a : ℕ) → a ∈ c.neg → a < 1024)
    → Stamps c (stamped (stamped (stamped (replicate 3072 0) 0 c.head) 1024 c.pos) 2048 c.neg)
stamps_of c hb pb nb = record {
  head = λ a l. stamped_other two 2048 c.neg (0 + a) fits3 (λ b m e. omega (arith, nb b m)) ∙ stamped_other one 1024 c.pos (0 + a) fits2 (λ b m e. omega (arith, pb b m))
      ∙ stamped_own none 0 c.head a fits1 ∙ ap (λ t. mem a c.head || eqb t 1) (get_or-replicate 3072 (0 + a) 0 0 (omega arith)) ∙ or_false (mem a c.head);
  pos = λ a l. stamped_other two 2048 c.neg (1024 + a) fits3 (λ b m e. omega (arith, nb b m)) ∙ stamped_own one 1024 c.pos a fits2
      ∙ ap (λ t. mem a c.pos || t) (stamped_other none 0 c.head (1024 + a) fits1 (λ b m e. omega (arith, hb b m)) ∙ ap (λ t. eqb t 1) (get_or-replicate 3072 (1024 + a) 0 0 (omega arith))) ∙ or_false (mem a c.pos);
  neg = λ a l. stamped_own two 2048 c.neg a fits3
      ∙ ap (λ t. mem a c.neg || t) (stamped_other one 1024 c.pos (2048 + a) fits2 (λ b m e. omega (arith, pb b m)) ∙ stamped_other none 0 c.head (2048 + a) fits1 (λ b m e. omega (arith, hb b m)) ∙ ap (λ t. eqb t 1) (get_or-replicate 3072 (2048 + a) 0 0 (omega arith))) ∙ or_false (mem a c.neg);
}
  where
    none : List ℕ
    none = replicate 3072 0

    one : List ℕ
    one = stamped none 0 c.head

    two : List ℕ
    two = stamped one 1024 c.pos

    fits1 : (a : ℕ) → a ∈ c.head → 0 + a < length none
    fits1 a m = omega (arith, hb a m, length-replicate {A = ℕ} 3072 0)

    fits2 : (a : ℕ) → a ∈ c.pos → 1024 + a < length one
    fits2 a m = omega (arith, pb a m, length-replicate {A = ℕ} 3072 0, length_stamped none 0 c.head)

    fits3 : (a : ℕ) → a ∈ c.neg → 2048 + a < length two
    fits3 a m = omega (arith, nb a m, length-replicate {A = ℕ} 3072 0, length_stamped none 0 c.head, length_stamped one 1024 c.pos)

-- ---- every atom of a list

pub all_listed : (f : ℕ → Bool) (l : List ℕ) → all f l ≡ list_all f l
all_listed f [] = refl
all_listed f (x ∷ l) = ap (λ b. f x && b) (all_listed f l)
