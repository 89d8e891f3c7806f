-- Worked examples.
use mathlib.Core.Path.{◌≡◌, refl}
use mathlib.Core.List.{List, [], ◌∷◌}
use Prim.Native.Nat.{ℕ}
use Rattle.semantics.specs.Programs.{Clause, program, satisfies, reduct, models}
use Rattle.semantics.specs.Decide.{sublists, stable_test}
use Rattle.sorting.specs.Sorting.{below}
use Rattle.models_words.specs.Words.{entries_of, stable_word, models_of}

-- head, positive body, negative body
abbrev rule : List ℕ → List ℕ → List ℕ → Clause
rule h p q = record { head = h; pos = p; neg = q }

-- 0 <- ~1. 1 <- ~0.: the sets 0 and 1
pub even_loop_models : models_of (program 2 (rule (0 ∷ []) [] (1 ∷ []) ∷ rule (1 ∷ []) [] (0 ∷ []) ∷ [])) ≡ 1 ∷ 2 ∷ []
unfolding models_of stable_word entries_of below stable_test sublists models reduct satisfies
even_loop_models = refl

-- 0 <- ~0.: none
pub odd_loop_models : models_of (program 1 (rule (0 ∷ []) [] (0 ∷ []) ∷ [])) ≡ []
unfolding models_of stable_word entries_of below stable_test sublists models reduct satisfies
odd_loop_models = refl

-- 0 <- 1. 1 <- 0.: the empty set alone
pub positive_loop_models : models_of (program 2 (rule (0 ∷ []) (1 ∷ []) [] ∷ rule (1 ∷ []) (0 ∷ []) [] ∷ [])) ≡ 0 ∷ []
unfolding models_of stable_word entries_of below stable_test sublists models reduct satisfies
positive_loop_models = refl

-- 0|1. 0 <- 1. 1 <- 0.: the set 0, 1, since neither atom alone satisfies the clauses
pub head_cycle_models : models_of (program 2 (rule (0 ∷ 1 ∷ []) [] [] ∷ rule (0 ∷ []) (1 ∷ []) [] ∷ rule (1 ∷ []) (0 ∷ []) [] ∷ [])) ≡ 3 ∷ []
unfolding models_of stable_word entries_of below stable_test sublists models reduct satisfies
head_cycle_models = refl

-- 0|1. over three atoms: the sets 0 and 1, and atom 2 is in none
pub disjunctive_models : models_of (program 3 (rule (0 ∷ 1 ∷ []) [] [] ∷ [])) ≡ 1 ∷ 2 ∷ []
unfolding models_of stable_word entries_of below stable_test sublists models reduct satisfies
disjunctive_models = refl

-- 0|1. 2 <- ~3. 3 <- ~2.: two choices, four models
pub two_choices_models : models_of (program 4 (rule (0 ∷ 1 ∷ []) [] [] ∷ rule (2 ∷ []) [] (3 ∷ []) ∷ rule (3 ∷ []) [] (2 ∷ []) ∷ [])) ≡ 5 ∷ 6 ∷ 9 ∷ 10 ∷ []
unfolding models_of stable_word entries_of below stable_test sublists models reduct satisfies
two_choices_models = refl

-- no clauses over three atoms: the empty set alone
pub no_clause_models : models_of (program 3 []) ≡ 0 ∷ []
unfolding models_of stable_word entries_of below stable_test sublists models reduct satisfies
no_clause_models = refl

-- the clause without atoms: none
pub empty_clause_models : models_of (program 1 (rule [] [] [] ∷ [])) ≡ []
unfolding models_of stable_word entries_of below stable_test sublists models reduct satisfies
empty_clause_models = refl
