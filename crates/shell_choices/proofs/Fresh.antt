-- Choices with their fresh atoms: which fresh atoms there are, what the disjunctions ask, and the set that goes with a set of old atoms.
use mathlib.Core.Path.{◌≡◌, refl, sym, ap, subst, ◌∙◌}
use mathlib.Core.Logic.{◌↔◌}
use mathlib.Core.Bool.{Bool, not, ◌&&◌, So}
use mathlib.Core.List.Memᴰ
use mathlib.Core.List.{List, [], ◌∷◌, map}
use Prim.Native.Nat.{ℕ, suc, ◌+◌, ◌≤◌, ◌<◌}
use native.Mathlib.Omega.{arith}
use lib.Dec.{eqb}
use lib.ListN.{length}
use borrow.Author.Tests.{eqb-true, eq-eqb}
use Rattle.semantics.specs.Lists.{◌∈◌, any, all}
use Rattle.semantics.specs.Programs.{Clause, Atoms, Subset}
use Rattle.semantics.proofs.Tests.{and_iff, not_iff, all_iff, any_iff, so_dec}
use Rattle.semantics.proofs.Models.{All, Any, Holds, Models}
use Rattle.semantics.proofs.Decide.{map_mem, map_of}
use Rattle.shell_choices.specs.Stable.{Choice}
use Rattle.shell_choices.specs.Translation.{Numbered, numbered, disjunction, translated, Over}
use Rattle.shell_choices.proofs.Members.{any_one, models_append}
use Rattle.shell_choices.proofs.Below.{split, split_high, split_within}

-- ---- the fresh atoms of a list of choices

pub numbered_low : (x : ℕ) (ks : List Choice) (i : Numbered) → i ∈ numbered x ks → x ≤ i.fresh
unfolding numbered
numbered_low x [] i x'' = elim x'' [ ]
numbered_low x (k ∷ ks) i (Memᴰ.head e) = omega (arith, ap (λ (j : Numbered). j.fresh) e)
numbered_low x (k ∷ ks) i (Memᴰ.tail m) = omega (arith, numbered_low _ ks i m)

pub numbered_high : (x : ℕ) (ks : List Choice) (i : Numbered) → i ∈ numbered x ks → i.fresh < x + length ks
unfolding numbered
numbered_high x [] i x'' = elim x'' [ ]
numbered_high x (k ∷ ks) i (Memᴰ.head e) = omega (arith, ap (λ (j : Numbered). j.fresh) e)
numbered_high x (k ∷ ks) i (Memᴰ.tail m) = omega (arith, numbered_high _ ks i m)

-- the choices without their fresh atoms
pub numbered_choices : (x : ℕ) (ks : List Choice) → map (λ (i : Numbered). i.choice) (numbered x ks) ≡ ks
unfolding numbered
numbered_choices x [] = refl
numbered_choices x (k ∷ ks) = ap (λ l. k ∷ l) (numbered_choices (suc x) ks)

-- no two have the same
pub numbered_one : (x : ℕ) (ks : List Choice) (i j : Numbered) → i ∈ numbered x ks → j ∈ numbered x ks → i.fresh ≡ j.fresh → i ≡ j
unfolding numbered
numbered_one x [] i j x4 _ q = elim x4 [ ]
numbered_one x (k ∷ ks) i j (Memᴰ.head e) (Memᴰ.head f) q = e ∙ sym f
numbered_one x (k ∷ ks) i j (Memᴰ.head e) (Memᴰ.tail f) q = absurd (omega (arith, ap (λ (j : Numbered). j.fresh) e, numbered_low _ ks j f))
numbered_one x (k ∷ ks) i j (Memᴰ.tail e) (Memᴰ.head f) q = absurd (omega (arith, ap (λ (j : Numbered). j.fresh) f, numbered_low _ ks i e))
numbered_one x (k ∷ ks) i j (Memᴰ.tail e) (Memᴰ.tail f) q = numbered_one _ ks i j e f q

-- ---- what the disjunctions ask

-- X satisfies the reduct by M of the disjunction
abbrev pub SatisfiesChoice : Atoms → Atoms → Numbered → Type 0
SatisfiesChoice M X i = ¬ Any M i.choice.neg → All X i.choice.pos → ¬ So (X i.choice.atom) → So (X i.fresh)

any_two : (X : Atoms) (a b : ℕ) → Any X (a ∷ b ∷ []) → ¬ So (X a) → So (X b)
any_two X a b (c, Memᴰ.head e, h) o = absurd (o (subst (λ x. So (X x)) e h))
any_two X a b (c, Memᴰ.tail m, h) o = any_one X b (c, m, h)

two_any : (X : Atoms) (a b : ℕ) → (¬ So (X a) → So (X b)) → Any X (a ∷ b ∷ [])
two_any X a b f = go (so_dec (X a))
  where
    go : Dec (So (X a)) → Any X (a ∷ b ∷ [])
    go (yes h) = (a, Memᴰ.head refl, h)
    go (no h) = (b, Memᴰ.tail (Memᴰ.head refl), f h)

pub disjunction_iff : (M X : Atoms) (i : Numbered) → Holds M X (disjunction i) ↔ SatisfiesChoice M X i
disjunction_iff M X i = (
  λ h g p. any_two X i.choice.atom i.fresh (h g p),
  λ h g p. two_any X i.choice.atom i.fresh (h g p),
)

pub translated_iff : (n : ℕ) (cs : List Clause) (ks : List Choice) (M X : Atoms) → Models M X (translated n cs ks) ↔ (Models M X cs × ((i : Numbered) → i ∈ numbered n ks → SatisfiesChoice M X i))
unfolding translated
translated_iff n cs ks M X = (
  λ h. let w = (models_append M X cs (map disjunction (numbered n ks))).0 h in (w.0, λ i m. (disjunction_iff M X i).0 (w.1 (disjunction i) (map_mem disjunction m))),
  λ h. (models_append M X cs (map disjunction (numbered n ks))).1
      (h.0, λ c m. let w = map_of disjunction (numbered n ks) m in subst (Holds M X) (sym w.2) ((disjunction_iff M X w.0).1 (h.1 w.0 w.1))),
)

-- ds, over `top` atoms, reads as the clauses cs and the choices of `is`, over n atoms and each with a fresh atom of its own from n on
pub record ReadsAs (n top : ℕ) (ds cs : List Clause) (is : List Numbered) : Type 0 where
  pub room : n ≤ top
  pub models : (M X : Atoms) → Models M X ds ↔ (Models M X cs × ((i : Numbered) → i ∈ is → SatisfiesChoice M X i))
  pub over : Over n cs (map (λ (i : Numbered). i.choice) is)
  pub low : (i : Numbered) → i ∈ is → n ≤ i.fresh
  pub high : (i : Numbered) → i ∈ is → i.fresh < top
  pub one : (i j : Numbered) → i ∈ is → j ∈ is → i.fresh ≡ j.fresh → i ≡ j

pub translated_reads : (n : ℕ) (cs : List Clause) (ks : List Choice) → Over n cs ks → ReadsAs n (n + length ks) (translated n cs ks) cs (numbered n ks)
translated_reads n cs ks o = record {
  room = omega arith;
  models = translated_iff n cs ks;
  over = rw (numbered_choices n ks) o;
  low = numbered_low n ks;
  high = numbered_high n ks;
  one = numbered_one n ks;
}

-- ---- the set that goes with a set of old atoms

-- the choice's body holds in M, and its atom is outside: "the fresh atom's presence tells only that the choice was not taken"
abbrev pub Refused : Atoms → Choice → Type 0
Refused M k = (¬ So (M k.atom)) × All M k.pos × (¬ Any M k.neg)

abbrev refused : Atoms → Choice → Bool
refused M k = not (M k.atom) && (all M k.pos && not (any M k.neg))

refused_iff : (M : Atoms) (k : Choice) → So (refused M k) ↔ Refused M k
refused_iff M k = (
  λ h. let w = (and_iff _ _).0 h in let v = (and_iff _ _).0 w.1 in
      ((not_iff _).0 w.0, (all_iff M k.pos).0 v.0, λ x. (not_iff _).0 v.1 ((any_iff M k.neg).1 x)),
  λ h. (and_iff _ _).1 ((not_iff _).1 h.0, (and_iff _ _).1 ((all_iff M k.pos).1 h.1, (not_iff _).1 (λ x. h.2 ((any_iff M k.neg).0 x)))),
)

-- the fresh atoms of the choices refused
unfoldable pub not_chosen : List Numbered → Atoms → Atoms
not_chosen is M a = any (λ i. eqb a i.fresh && refused M i.choice) is

pub not_chosen_iff : (is : List Numbered) (M : Atoms) (a : ℕ) → So (not_chosen is M a) ↔ ((i : Numbered) × (i ∈ is) × (a ≡ i.fresh) × Refused M i.choice)
unfolding not_chosen
not_chosen_iff is M a = (
  λ h. let w = (any_iff test is).0 h in let v = (and_iff _ _).0 w.2 in (w.0, w.1, eqb-true _ _ v.0, (refused_iff M w.0.choice).0 v.1),
  λ h. (any_iff test is).1 (h.0, h.1, (and_iff _ _).1 (eq-eqb a h.0.fresh h.2, (refused_iff M h.0.choice).1 h.3)),
)
  where
    test : Numbered → Bool
    test i = eqb a i.fresh && refused M i.choice

-- M below n, and for each choice refused its fresh atom
abbrev pub extended : ℕ → List Numbered → Atoms → Atoms
extended n is M = split n M (not_chosen is M)

module _ (n : ℕ) (is : List Numbered) (M : Atoms) where
  -- the fresh atom is in exactly where its choice is refused
  pub extended_fresh : ((i : Numbered) → i ∈ is → n ≤ i.fresh) → ((i j : Numbered) → i ∈ is → j ∈ is → i.fresh ≡ j.fresh → i ≡ j)
      → (i : Numbered) → i ∈ is → So (extended n is M i.fresh) ↔ Refused M i.choice
  extended_fresh low one i m = (
    λ h. let w = (not_chosen_iff is M i.fresh).0 (subst So e h) in
        subst (λ (j : Numbered). Refused M j.choice) (sym (one i w.0 m w.1 w.2)) w.3,
    λ h. subst So (sym e) ((not_chosen_iff is M i.fresh).1 (i, m, refl, h)),
  )
    where
      e : extended n is M i.fresh ≡ not_chosen is M i.fresh
      e = split_high n M (not_chosen is M) i.fresh (low i m)

  -- a set that holds it
  pub extended_within : (N : Atoms) → ((a : ℕ) → a < n → So (M a) → So (N a)) → ((i : Numbered) → i ∈ is → Refused M i.choice → So (N i.fresh)) → Subset (extended n is M) N
  extended_within N f g = split_within n M (not_chosen is M) N f
      (λ b l k. let w = (not_chosen_iff is M b).0 k in subst (λ x. So (N x)) (sym w.2) (g w.0 w.1 w.3))
