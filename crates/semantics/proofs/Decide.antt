-- The computed test says yes exactly for the stable sets: each subset of a list's set is the set of one of its sublists.
use mathlib.Core.Path.{◌≡◌, refl, ap, fun_ext}
use mathlib.Core.Logic.{◌↔◌, ⊎_elim}
use mathlib.Core.Bool.{Bool, true, false, not, cond, ◌||◌, So}
use mathlib.Core.List.Memᴰ
use mathlib.Core.List.{List, [], ◌∷◌, ◌++◌, map}
use Prim.Native.Nat.{ℕ}
use lib.Dec.{ltb}
use borrow.Author.Tests.{ltb-true, lt-ltb}
use Rattle.semantics.specs.Lists.{◌∈◌, all, keep, mem, within}
use Rattle.semantics.specs.Programs.{Program, Atoms, reduct, models, Subset, Stable}
use Rattle.semantics.specs.Decide.{sublists, stable_test}
use Rattle.semantics.specs.Programs.{among}
use Rattle.semantics.proofs.Tests.{and_iff, not_iff, or_iff, all_iff, mem_iff, within_iff, keep_iff, so_ext, not_so}
use Rattle.semantics.proofs.Models.{models_iff, stable_iff}

pub map_mem : {A B : Type 0} (f : A → B) {x : A} {l : List A} → x ∈ l → f x ∈ map f l
map_mem f (Memᴰ.head e) = Memᴰ.head (ap f e)
map_mem f (Memᴰ.tail m) = Memᴰ.tail (map_mem f m)

pub map_of : {A B : Type 0} (f : A → B) (l : List A) {y : B} → y ∈ map f l → (x : A) × (x ∈ l) × (y ≡ f x)
map_of {A = A} {B = B} f [] {y = y} x' = elim x' [ ]
map_of f (x ∷ l) (Memᴰ.head e) = (x, Memᴰ.head refl, e)
map_of f (x ∷ l) (Memᴰ.tail m) = let w = map_of f l m in (w.0, Memᴰ.tail w.1, w.2)

-- what a test keeps of a list is a sublist
pub keep_sublist : (X : Atoms) (l : List ℕ) → keep X l ∈ sublists l
unfolding sublists
keep_sublist X [] = Memᴰ.head refl
keep_sublist X (x ∷ l) = go (X x) (keep_sublist X l)
  where
    go : (t : Bool) → keep X l ∈ sublists l → cond t (x ∷ keep X l) (keep X l) ∈ sublists l ++ map (λ k. x ∷ k) (sublists l)
    go true m = Memᴰ.append_right (sublists l) (map_mem (λ k. x ∷ k) m)
    go false m = Memᴰ.append_left (map (λ k. x ∷ k) (sublists l)) m

pub sublist_sub : (l k : List ℕ) → k ∈ sublists l → (a : ℕ) → a ∈ k → a ∈ l
unfolding sublists
sublist_sub [] k m a h = rw (Memᴰ.eq_of_singleton m) at h
sublist_sub (x ∷ l) k m a h = ⊎_elim (λ u. Memᴰ.tail (sublist_sub l k u a h)) (λ u. go (map_of (λ k. x ∷ k) (sublists l) u) (sublist_sub l)) (Memᴰ.append_cases (sublists l) m)
  where
    go : (w : List ℕ) × (w ∈ sublists l) × (k ≡ x ∷ w) → ((w : List ℕ) → w ∈ sublists l → (b : ℕ) → b ∈ w → b ∈ l) → a ∈ x ∷ l
    go (w, u, e) f = pick (rw e at h)
      where
        pick : a ∈ x ∷ w → a ∈ x ∷ l
        pick (Memᴰ.head q) = Memᴰ.head q
        pick (Memᴰ.tail q) = Memᴰ.tail (f w u a q)

-- a subset of a list's set is the set of what it keeps of the list
pub keep_is : (X : Atoms) (l : List ℕ) → Subset X (among l) → among (keep X l) ≡ X
keep_is X l sub = fun_ext (λ a. so_ext (mem a (keep X l)) (X a)
    (λ h. ((keep_iff X l a).0 ((mem_iff _ _).0 h)).1)
    (λ h. (mem_iff _ _).1 ((keep_iff X l a).1 ((mem_iff _ _).0 (sub a h), h))))

-- The test says yes exactly when the list's set is a stable model.
pub test_iff : (P : Program) (l : List ℕ) → So (stable_test P l) ↔ Stable P (among l)
unfolding stable_test
test_iff P l = (
  λ h. let w = simp and_iff at h in record {
    below = λ a m. ltb-true _ _ ((all_iff _ _).0 w.0 a ((mem_iff a l).0 m));
    model = w.1.0;
    minimal = λ X p m. (not_iff (good (keep X l))).0
        ((or_iff _ _).0 ((all_iff _ _).0 w.1.1 (keep X l) (keep_sublist X l))
        (λ h. not_so p.outside ((keep_iff X l p.atom).0 ((within_iff _ _).0 h p.atom ((mem_iff p.atom l).0 p.inside))).1))
        (rw (keep_is X l p.subset) m);
  },
  λ s. (and_iff _ _).1 (
    (all_iff (λ a. ltb a P.atoms) l).1 (λ a m. lt-ltb a P.atoms (s.below a ((mem_iff _ _).1 m))),
    (and_iff (good l) (all part (sublists l))).1 (
      s.model,
      (all_iff _ _).1 (λ k m. (or_iff _ _).1 (λ x. (not_iff _).1 (λ g.
          x ((within_iff _ _).1 (λ a q. (mem_iff a k).0 (((stable_iff _ _).0 s).2 (among k) (λ b h. (mem_iff _ _).1 (sublist_sub l k m b ((mem_iff _ _).0 h)))
          ((models_iff (among l) (among k) P.clauses).0 g) a ((mem_iff a l).1 q))))))),
    ),
  ),
)
  where
    good : List ℕ → Bool
    good k = models (among k) (reduct (among l) P.clauses)

    part : List ℕ → Bool
    part k = within l k || not (good k)
