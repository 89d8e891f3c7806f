-- Stable models with choices and a context: at work, and in the working form of membership.
use mathlib.Core.Path.{refl, sym, subst}
use mathlib.Core.Logic.Iff
use mathlib.Core.Logic.{◌↔◌, ⊎_elim}
use mathlib.Core.Bool.{Bool, So, false≢true}
use mathlib.Core.List.Memᴰ
use mathlib.Core.List.{List, [], ◌∷◌, ◌++◌}
use Prim.Native.Nat.{ℕ, ◌<◌}
use Rattle.semantics.specs.Lists.{◌∈◌, keep}
use Rattle.semantics.specs.Programs.{Clause, program, Atoms, satisfies, reduct, models, Subset, Stable}
use Rattle.semantics.specs.Decide.{sublists, stable_test}
use Rattle.semantics.specs.Programs.{among}
use Rattle.semantics.proofs.Tests.{keep_iff, so_by, so_false, not_so}
use Rattle.semantics.proofs.Models.{All, Any, Holds, Models, models_iff, stable_iff}
use Rattle.semantics.proofs.Decide.{map_mem, map_of, test_iff}
use Rattle.shell_choices.specs.Stable.{Choice, rule, taken, Context, free, StableWith, StableChoice, StableIn}

-- ---- at work

abbrev pub may : ℕ → List ℕ → List ℕ → Choice
may a p q = record { atom = a; pos = p; neg = q }

abbrev pub when : List ℕ → List ℕ → List ℕ → Clause
when h p q = record { head = h; pos = p; neg = q }

-- stable models with choices are those of clauses that depend on the set
pub choice_iff : (n : ℕ) (cs : List Clause) (ks : List Choice) (M : Atoms) → StableChoice n cs ks M ↔ Stable (program n (taken M ks ++ cs)) M
choice_iff n cs ks M = (
  λ s. record { below = s.below; model = s.model; minimal = λ X p h. s.minimal X p h tt },
  λ s. record { below = s.below; model = s.model; context = tt; minimal = λ X p h t. s.minimal X p h },
)

-- so the definition is a test
by_test : (n : ℕ) (cs : List Clause) (ks : List Choice) (l : List ℕ) → So (stable_test (program n (taken (among l) ks ++ cs)) l) ↔ StableChoice n cs ks (among l)
by_test n cs ks l = Iff.trans (test_iff (program n (taken (among l) ks ++ cs)) l) (Iff.symm (choice_iff n cs ks (among l)))

-- {0}. has the stable models 0 and none
one_in : StableChoice 1 [] (may 0 [] [] ∷ []) (among (0 ∷ []))
unfolding satisfies reduct models sublists stable_test
one_in = (by_test 1 [] (may 0 [] [] ∷ []) (0 ∷ [])).0 refl

one_out : StableChoice 1 [] (may 0 [] [] ∷ []) (among [])
unfolding satisfies reduct models sublists stable_test
one_out = (by_test 1 [] (may 0 [] [] ∷ []) []).0 refl

-- {0} <- 1. 1 <- 0. has only the empty set: a choice is no support for its own body
circle : ¬ StableChoice 2 (when (1 ∷ []) (0 ∷ []) [] ∷ []) (may 0 (1 ∷ []) [] ∷ []) (among (0 ∷ 1 ∷ []))
unfolding satisfies reduct models sublists stable_test
circle s = false≢true ((by_test 2 (when (1 ∷ []) (0 ∷ []) [] ∷ []) (may 0 (1 ∷ []) [] ∷ []) (0 ∷ 1 ∷ [])).1 s)

-- ---- the working form

-- X satisfies what M has the choices ask
abbrev pub Chooses : Atoms → Atoms → List Choice → Type 0
Chooses M X ks = (k : Choice) → k ∈ ks → So (M k.atom) → ¬ Any M k.neg → All X k.pos → So (X k.atom)

pub any_one : (X : Atoms) (a : ℕ) → Any X (a ∷ []) → So (X a)
any_one X a (b, m, h) = subst (λ x. So (X x)) (Memᴰ.eq_of_singleton m) h

pub models_append : (M X : Atoms) (cs ds : List Clause) → Models M X (cs ++ ds) ↔ (Models M X cs × Models M X ds)
models_append M X cs ds = (
  λ h. (λ c m. h c (Memᴰ.append_left ds m), λ c m. h c (Memᴰ.append_right cs m)),
  λ h c m. ⊎_elim (h.0 c) (h.1 c) (Memᴰ.append_cases cs m),
)

taken_iff : (M X : Atoms) (ks : List Choice) → Models M X (taken M ks) ↔ Chooses M X ks
taken_iff M X ks = (
  λ h k m s g p. any_one X k.atom (h (rule k) (map_mem rule ((keep_iff test ks k).1 (m, s))) g p),
  λ h c m. let w = map_of rule (keep test ks) m in let v = (keep_iff test ks w.0).0 w.1 in
      subst (Holds M X) (sym w.2) (λ g p. (w.0.atom, Memᴰ.head refl, h w.0 v.0 v.1 g p)),
)
  where
    test : Choice → Bool
    test k = M k.atom

-- every subset of M that models the clauses and the context and takes the choices that M takes is M
abbrev pub Working : ℕ → List Clause → List Choice → Context → Atoms → Type 0
Working n cs ks sat M =
    ((a : ℕ) → So (M a) → a < n) × Models M M cs × sat M M × ((X : Atoms) → Subset X M → Models M X cs → Chooses M X ks → sat M X → Subset M X)

pub with_iff : (n : ℕ) (cs : List Clause) (ks : List Choice) (sat : Context) (M : Atoms) → StableWith n cs ks sat M ↔ Working n cs ks sat M
with_iff n cs ks sat M = (
  λ s. (
    s.below,
    ((both M).0 s.model).1,
    s.context,
    λ X sub h k t a m. so_by _ (λ x.
        s.minimal X (record { subset = sub; atom = a; inside = m; outside = so_false (X a) x }) ((both X).1 (k, h)) t),
  ),
  λ s. record {
    below = s.0;
    model = (both M).1 (λ k m y g p. y, s.1);
    context = s.2;
    minimal = λ X p h t. let w = (both X).0 h in not_so p.outside (s.3 X p.subset w.1 w.0 t p.atom p.inside);
  },
)
  where
    both : (X : Atoms) → So (models X (reduct M (taken M ks ++ cs))) ↔ (Chooses M X ks × Models M X cs)
    both X = (
      λ h. let w = (models_append M X (taken M ks) cs).0 ((models_iff M X (taken M ks ++ cs)).0 h) in ((taken_iff M X ks).0 w.0, w.1),
      λ h. (models_iff M X (taken M ks ++ cs)).1 ((models_append M X (taken M ks) cs).1 ((taken_iff M X ks).1 h.0, h.1)),
    )

-- within a context alone
abbrev pub WorkingIn : ℕ → List Clause → Context → Atoms → Type 0
WorkingIn n cs sat M = ((a : ℕ) → So (M a) → a < n) × Models M M cs × sat M M × ((X : Atoms) → Subset X M → Models M X cs → sat M X → Subset M X)

pub in_iff : (n : ℕ) (cs : List Clause) (sat : Context) (M : Atoms) → StableIn n cs sat M ↔ WorkingIn n cs sat M
in_iff n cs sat M = (
  λ s. let w = (with_iff n cs [] sat M).0 s in (w.0, w.1, w.2, λ X sub h. w.3 X sub h (λ k m. absurd (Memᴰ.not-nil m))),
  λ s. (with_iff n cs [] sat M).1 (s.0, s.1, s.2, λ X sub h k. s.3 X sub h),
)

-- Without choices, in the context that asks nothing, these are the stable models.
pub free_iff : (n : ℕ) (cs : List Clause) (M : Atoms) → StableIn n cs free M ↔ Stable (program n cs) M
free_iff n cs M = (
  λ s. let w = (in_iff n cs free M).0 s in (stable_iff (program n cs) M).1 (w.0, w.1, λ X sub h. w.3 X sub h tt),
  λ s. let w = (stable_iff (program n cs) M).0 s in (in_iff n cs free M).1 (w.0, w.1, tt, λ X sub h t. w.2 X sub h),
)
