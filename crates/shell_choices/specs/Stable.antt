-- Stable models of clauses with choice rules, within a context.
use Rattle.std.proofs.Math.Bool.{So}
use Rattle.std.specs.Prelude.{List, [], ◌∷◌, ◌++◌, map, ℕ, ◌<◌}
use Rattle.semantics.specs.Lists.{keep}
use Rattle.semantics.specs.Programs.{Clause, Atoms, reduct, models, Proper}

-- "{0} <- 1, ~2": the atom may be in the set where the body holds.
pub record Choice : Type 0 where
  pub atom : ℕ
  pub pos : List ℕ
  pub neg : List ℕ

-- "atom <- body"
abbrev pub rule : Choice → Clause
rule k = record { head = k.atom ∷ []; pos = k.pos; neg = k.neg }

-- By the set M a choice is "a clause that asks nothing where a is not in M, and is `a <- B` where it is".
abbrev pub taken : Atoms → List Choice → List Clause
taken M ks = map rule (keep (λ k. M k.atom) ks)

-- What else is asked of a set, by whatever stands beside the clauses: `sat M X` says that X satisfies its reduct by M.
abbrev pub Context : Type 1
Context = Atoms → Atoms → Type 0

-- it asks nothing
abbrev pub free : Context
free M X = Unit {0}

-- "Given a set M of atoms below n": "M is stable when it satisfies every clause left and no proper subset of M does", where the choices' clauses are
-- among those of the reduct, and the context is satisfied too.
pub record StableWith (n : ℕ) (cs : List Clause) (ks : List Choice) (sat : Context) (M : Atoms) : Type 0 where
  pub below : (a : ℕ) → So (M a) → a < n
  pub model : So (models M (reduct M (taken M ks ++ cs)))
  pub context : sat M M
  pub minimal : (X : Atoms) → Proper X M → So (models X (reduct M (taken M ks ++ cs))) → ¬ sat M X

-- with choices alone
abbrev pub StableChoice : ℕ → List Clause → List Choice → Atoms → Type 0
StableChoice n cs ks = StableWith n cs ks free

-- within a context alone
abbrev pub StableIn : ℕ → List Clause → Context → Atoms → Type 0
StableIn n cs sat = StableWith n cs [] sat
