-- Clauses that a set fails: asked by one test, found by the first, and kept apart.
use Prim.Native.Nat.{ℕ, ◌-◌, ◌≤◌, ◌<◌}
use mathlib.Core.Path.{◌≡◌, refl, sym, ap, ap₂, subst, ◌∙◌}
use mathlib.Core.List.Memᴰ
use mathlib.Core.List.{List, [], ◌∷◌, ◌++◌}
use mathlib.Core.Bool.{Bool, true, false, not, cond, ◌&&◌, ◌||◌, So}
use Rattle.std.proofs.Common.{Option, None, Some, Bor}
use Rattle.std.specs.Option.{MatchOption, option_map}
use Rattle.std.specs.List.{find, list_all}
use native.Mathlib.Omega.{arith}
use native.Mathlib.Nat.{le_refl}
use lib.Bits.{bit_and, bit_or, and_le_l, and_le_r, and_self, or_add_and, or_zero_l}
use lib.Dec.{eqb}
use borrow.Author.Tests.{eqb-true, eq-eqb}
use Rattle.semantics.specs.Lists.{◌∈◌}
use Rattle.semantics.proofs.Tests.{and_iff, all_iff, so_ext, so_false, not_so}
use Rattle.models_masks.specs.declared.Rule.{Rule}
use Rattle.models_masks.specs.Masks.{inside, holds, modelled, minimal}
use Rattle.models_masks.specs.Failed.{Fails}
use Rattle.models_masks.proofs.Lists.{all_list}
use Rattle.models_masks.proofs.Bits.{and_again}
use Rattle.models_masks.proofs.Models.{modelled_behind}
use Rattle.models_masks.proofs.Subsets.{FailFrom, fail_start, fail_next, found, none_found}

-- ---- one test

-- two numbers are 0 exactly where all their bits together are
pub or_zero : (a b : ℕ) → eqb (bit_or a b) 0 ≡ (eqb a 0 && eqb b 0)
or_zero a b = so_ext _ _
    (λ h. let e = eqb-true (bit_or a b) 0 h in (and_iff _ _).1 (eq-eqb a 0 (omega (arith, or_add_and a b, and_le_r a b)), eq-eqb b 0 (omega (arith, or_add_and a b, and_le_l a b))))
    (λ h. let w = (and_iff (eqb a 0) (eqb b 0)).0 h in eq-eqb _ 0 (ap₂ bit_or (eqb-true a 0 w.0) (eqb-true b 0 w.1) ∙ or_zero_l 0))

-- nothing is missing of a mask exactly where it is inside
pub missing_zero : (p x : ℕ) → eqb (p - bit_and p x) 0 ≡ inside p x
missing_zero p x = so_ext _ _
    (λ h. let e = eqb-true (p - bit_and p x) 0 h in eq-eqb (bit_and p x) p (omega (arith, and_le_l p x)))
    (λ h. let e = eqb-true (bit_and p x) p h in eq-eqb (p - bit_and p x) 0 (omega arith))

not_both : (s t : Bool) → not (s && t) ≡ (not s || not t)
not_both true t = refl
not_both false t = refl

-- what is missing of the body, and what is there of the head, are both nothing exactly where the set fails the clause
pub holds_word : (body head x : ℕ) → not (eqb (bit_or (body - bit_and body x) (bit_and head x)) 0) ≡ holds body head x
unfolding holds
holds_word body head x = ap not (or_zero (body - bit_and body x) (bit_and head x)) ∙ rw (missing_zero body x) (not_both (inside body x) (eqb (bit_and head x) 0))

-- ---- the first clause that fails

find_says : {A : Type 0} (p : A → Bool) (l : List A) → MatchOption (find (λ y. not (p y)) l) (list_all p l ≡ true) (λ y. (y ∈ l) × (p y ≡ false))
find_says p [] = refl
find_says {A} p (x ∷ l) = go (p x) (find (λ y. not (p y)) l) refl (find_says p l)
  where
    go : (t : Bool) (o : Option A) → p x ≡ t → MatchOption o (list_all p l ≡ true) (λ y. (y ∈ l) × (p y ≡ false)) → MatchOption (cond (not t) (Some x) o) ((t && list_all p l) ≡ true) (λ y. (y ∈ x ∷ l) × (p y ≡ false))
    go true None e h = h
    go true (Some y) e h = (Memᴰ.tail h.0, h.1)
    go false o e h = (Memᴰ.head refl, e)

abbrev holds_at : ℕ → Rule → Bool
holds_at x q = holds q.body q.head x

pub first_one : (rules : List Rule) (x : ℕ) (r : Option (Bor Rule)) → option_map (λ (q : Bor Rule). q.now) r ≡ find (λ (q : Rule). not (holds q.body q.head x)) rules
    → MatchOption r (modelled rules x ≡ true) (λ q. Fails rules q.now x)
unfolding modelled
first_one rules x r e = go r e (subst (λ o. MatchOption o (list_all (holds_at x) rules ≡ true) (λ q. (q ∈ rules) × (holds_at x q ≡ false))) (sym e) (find_says (holds_at x) rules))
  where
    go : (r : Option (Bor Rule)) → option_map (λ (q : Bor Rule). q.now) r ≡ find (λ (q : Rule). not (holds q.body q.head x)) rules
        → MatchOption (option_map (λ (q : Bor Rule). q.now) r) (list_all (holds_at x) rules ≡ true) (λ q. (q ∈ rules) × (holds_at x q ≡ false))
        → MatchOption r (list_all (holds_at x) rules ≡ true) (λ q. Fails rules q.now x)
    go None e h = h
    go (Some q) e h = record { one = h.0; fails = h.1; first = sym e }

-- ---- clauses kept apart

-- a set that satisfies all clauses satisfies those kept apart
abbrev pub Among : List Rule → List Rule → Type 0
Among rules kept = (y : ℕ) → So (modelled rules y) → So (modelled kept y)

pub among_none : (rules : List Rule) → Among rules []
unfolding modelled
among_none rules y h = refl

module _ (rules kept : List Rule) (g : Among rules kept) where
  pub among_fails : (x : ℕ) (l : List Rule) (b : Bool) → l ≡ kept → b ≡ modelled l x → b ≡ false → modelled rules x ≡ false
  among_fails x l b e q d = so_false _ (λ h. not_so (ap (λ k. modelled k x) (sym e) ∙ sym q ∙ d) (g x h))

  pub among_more : (rule : Rule) → rule ∈ rules → Among rules (kept ++ rule ∷ [])
  unfolding modelled
  among_more rule m y h =
      let p : Rule → Bool = λ r. holds r.body r.head y in
      modelled_behind kept rule y ∙ (and_iff _ _).1 ((all_iff p rules).0 (sym (all_list _ _ (λ r. refl) rules) ∙ h) rule m, g y h)

pub failed_some : (rules : List Rule) (rule : Rule) (x : ℕ) → Fails rules rule x → modelled rules x ≡ false
unfolding modelled
failed_some rules rule x f = so_false _ (λ h. not_so f.fails ((all_iff (λ (r : Rule). holds r.body r.head x) rules).0 (sym (all_list _ _ (λ r. refl) rules) ∙ h) rule f.one))

-- ---- the search

-- no subset of m from x on satisfies the clauses, and those kept apart are among them
pub record Searched (rules kept : List Rule) (m x : ℕ) : Type 0 where
  pub subset : bit_and x m ≡ x
  pub most : x ≤ m
  pub fail : FailFrom (modelled rules) m x
  pub among : Among rules kept

pub searched_start : (rules : List Rule) (m : ℕ) → Searched rules [] m m
searched_start rules m = record { subset = and_self m; most = le_refl m; fail = fail_start (modelled rules) m 0; among = among_none rules }

module _ (rules kept : List Rule) (m x : ℕ) (s : Searched rules kept m x) where
  -- one of the clauses more is kept, or none
  pub searched_next : modelled rules (bit_and (x - 1) m) ≡ false → (kept' : List Rule) → Among rules kept' → Searched rules kept' m (bit_and (x - 1) m)
  searched_next e kept' a = record {
    subset = and_again (x - 1) m;
    most = omega (arith, and_le_l (x - 1) m, s.most);
    fail = fail_next (modelled rules) m x s.subset s.fail e;
    among = a;
  }

  pub searched_found : 0 < x → modelled rules (bit_and (x - 1) m) ≡ true → minimal rules m ≡ false
  unfolding minimal
  searched_found p e = found (modelled rules) m x p s.most e

  pub searched_end : x ≤ 0 → minimal rules m ≡ true
  unfolding minimal
  searched_end h = none_found (modelled rules) m x h s.fail
