-- Ground disjunctive programs and their stable models, after document 01, "Stable models".
use Rattle.std.specs.Prelude.{◌≡◌, Bool, false, not, cond, ◌||◌, List, [], ◌∷◌, ℕ, ◌<◌}
use Rattle.std.proofs.Math.Bool.{So}
use Rattle.semantics.specs.Lists.{any, all, mem}

-- "0|1 <- 2, ~3" has head 0 and 1, positive body 2, negative body 3.
pub record Clause : Type 0 where
  pub head : List ℕ
  pub pos : List ℕ
  pub neg : List ℕ

-- A program over the atoms below `atoms`.
pub record Program : Type 0 where
  pub atoms : ℕ
  pub clauses : List Clause

abbrev pub program : ℕ → List Clause → Program
program n cs = record { atoms = n; clauses = cs }

-- A set of atoms, of any size.
abbrev pub Atoms : Type 0
Atoms = ℕ → Bool

-- the set of a list's atoms
abbrev pub among : List ℕ → Atoms
among l a = mem a l

-- "A set satisfies a clause when some positive atom is outside the set or some head atom is inside."
unfoldable pub satisfies : Atoms → Clause → Bool
satisfies X c = any (λ a. not (X a)) c.pos || any X c.head

abbrev pub strip : Clause → Clause
strip c = record { head = c.head; pos = c.pos; neg = [] }

-- "remove each clause that has a negative atom in M, and strip the negative atoms from the others"
unfoldable pub reduct : Atoms → List Clause → List Clause
reduct M [] = []
reduct M (c ∷ cs) = cond (any M c.neg) (reduct M cs) (strip c ∷ reduct M cs)

-- the set satisfies every clause
unfoldable pub models : Atoms → List Clause → Bool
unfolding satisfies
models X cs = all (satisfies X) cs

abbrev pub Subset : Atoms → Atoms → Type 0
Subset X M = (a : ℕ) → So (X a) → So (M a)

-- X is a subset of M that lacks an atom of M.
pub record Proper (X M : Atoms) : Type 0 where
  pub subset : Subset X M
  pub atom : ℕ
  pub inside : So (M atom)
  pub outside : X atom ≡ false

-- "Given a set M of atoms below n": "M is stable when it satisfies every clause left and no proper subset of M does."
pub record Stable (P : Program) (M : Atoms) : Type 0 where
  pub below : (a : ℕ) → So (M a) → a < P.atoms
  pub model : So (models M (reduct M P.clauses))
  pub minimal : (X : Atoms) → Proper X M → ¬ So (models X (reduct M P.clauses))
