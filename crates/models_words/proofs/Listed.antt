-- Every stable model is listed as its word, each once, and the words ascend.
use mathlib.Core.Path.{◌≡◌, sym, subst}
use mathlib.Core.Logic.{◌↔◌}
use mathlib.Core.Bool.{So}
use mathlib.Core.List.{List}
use Prim.Native.Nat.{ℕ, ◌^◌, ◌<◌}
use Rattle.semantics.specs.Lists.{◌∈◌, ascending}
use Rattle.semantics.specs.Programs.{Program, Atoms, Stable}
use Rattle.semantics.specs.Decide.{stable_test}
use Rattle.semantics.proofs.Tests.{keep_iff}
use Rattle.semantics.proofs.Decide.{test_iff}
use Rattle.table.specs.Encoding.{Ordered}
use Rattle.sorting.specs.Sorting.{below}
use Rattle.models_words.specs.Words.{word, set_of_word, entries_of, stable_word, models_of}
use Rattle.semantics.proofs.Ascending.{ascending_same}
use Rattle.sorting.proofs.Ascending.{keep_ascends, below_in, below_lt, below_ascends}
use Rattle.models_words.proofs.Sets.{entries_word, among_entries, set_inj, word_of_set}

module _ (P : Program) where
  -- The test of a word says whether its set is a stable model.
  pub stable_word_lem : (x : ℕ) → x < 2 ^ P.atoms → So (stable_word P x) ↔ Stable P (set_of_word x)
  unfolding stable_word
  stable_word_lem x h = subst (λ M. So (stable_test P (entries_of P.atoms x)) ↔ Stable P M) (among_entries P.atoms x h) (test_iff P (entries_of P.atoms x))

  -- The words listed are those whose sets are stable models.
  pub listed_iff : (x : ℕ) → (x ∈ models_of P) ↔ ((x < 2 ^ P.atoms) × Stable P (set_of_word x))
  unfolding models_of
  listed_iff x = (
    λ m. let w = (keep_iff (stable_word P) (below (2 ^ P.atoms)) x).0 m in
        let h = below_lt (2 ^ P.atoms) x w.0 in (h, (stable_word_lem x h).0 w.1),
    λ w. (keep_iff (stable_word P) (below (2 ^ P.atoms)) x).1 (below_in (2 ^ P.atoms) x w.0, (stable_word_lem x w.0).1 w.1),
  )

  -- "Words ascend"
  pub listed_ascends : So (ascending (models_of P))
  unfolding models_of
  listed_ascends = keep_ascends (stable_word P) (below (2 ^ P.atoms)) (below_ascends (2 ^ P.atoms))

  -- "every stable model"
  pub listed_every : (M : Atoms) → Stable P M → (x : ℕ) × (x ∈ models_of P) × (set_of_word x ≡ M)
  listed_every M s =
      let (x, small, e) = word_of_set P.atoms M s.below in
      (x, (listed_iff x).1 (small, subst (Stable P) (sym e) s), e)

  -- "each model stands once"
  pub listed_once : (x y : ℕ) → x ∈ models_of P → y ∈ models_of P → set_of_word x ≡ set_of_word y → x ≡ y
  listed_once x y p q = set_inj P.atoms x y ((listed_iff x).0 p).0 ((listed_iff y).0 q).0

  -- "A set is listed exactly when the test of demand 2 would say yes."
  pub listed_test : (l : List ℕ) → Ordered P.atoms l → (word l ∈ models_of P) ↔ So (stable_test P l)
  unfolding models_of stable_word
  listed_test l o =
      let (e, small) = entries_word P.atoms l o in (
        λ m. subst (λ k. So (stable_test P k)) e ((keep_iff (stable_word P) (below (2 ^ P.atoms)) (word l)).0 m).1,
        λ t. (keep_iff (stable_word P) (below (2 ^ P.atoms)) (word l)).1 (below_in (2 ^ P.atoms) (word l) small, subst (λ k. So (stable_test P k)) (sym e) t),
      )

-- Programs over as many atoms that have the same stable models have the same list.
pub listed_same : (P Q : Program) → P.atoms ≡ Q.atoms → ((M : Atoms) → Stable P M ↔ Stable Q M) → models_of P ≡ models_of Q
listed_same P Q e h = ascending_same (models_of P) (models_of Q) (listed_ascends P) (listed_ascends Q) (λ x. (
  λ m. let w = (listed_iff P x).0 m in (listed_iff Q x).1 (rw (← e) w.0, (h (set_of_word x)).0 w.1),
  λ m. let w = (listed_iff Q x).0 m in (listed_iff P x).1 (rw e w.0, (h (set_of_word x)).1 w.1),
))
