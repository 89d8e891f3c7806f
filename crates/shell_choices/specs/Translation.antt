-- Choices as disjunctions with fresh atoms, and what it is for that to be exact.
use Rattle.std.specs.Prelude.{◌≡◌, ◌&&◌, List, [], ◌∷◌, ◌++◌, map, ℕ, suc, ◌+◌, ◌<◌, ltb, length}
use Rattle.semantics.specs.Lists.{◌∈◌}
use Rattle.semantics.specs.Programs.{Clause, Program, program, Atoms}
use Rattle.shell_choices.specs.Stable.{Choice, Context}

-- ---- the translation

-- a choice with a fresh atom
pub record Numbered : Type 0 where
  pub fresh : ℕ
  pub choice : Choice

-- the choices with the fresh atoms x, x + 1, ..
unfoldable pub numbered : ℕ → List Choice → List Numbered
numbered x [] = []
numbered x (k ∷ ks) = record { fresh = x; choice = k } ∷ numbered (suc x) ks

-- "an either-or clause of it and a fresh atom, with the same body": "atom | fresh <- body"
abbrev pub disjunction : Numbered → Clause
disjunction i = record { head = i.choice.atom ∷ i.fresh ∷ []; pos = i.choice.pos; neg = i.choice.neg }

-- the clauses, and for each choice its disjunction
unfoldable pub translated : ℕ → List Clause → List Choice → List Clause
unfolding numbered
translated n cs ks = cs ++ map disjunction (numbered n ks)

abbrev pub translation : ℕ → List Clause → List Choice → Program
translation n cs ks = program (n + length ks) (translated n cs ks)

-- ---- what it is of

-- all atoms are below n
pub record OverClause (n : ℕ) (c : Clause) : Type 0 where
  pub head : (a : ℕ) → a ∈ c.head → a < n
  pub pos : (a : ℕ) → a ∈ c.pos → a < n
  pub neg : (a : ℕ) → a ∈ c.neg → a < n

pub record OverChoice (n : ℕ) (k : Choice) : Type 0 where
  pub atom : k.atom < n
  pub pos : (a : ℕ) → a ∈ k.pos → a < n
  pub neg : (a : ℕ) → a ∈ k.neg → a < n

pub record Over (n : ℕ) (cs : List Clause) (ks : List Choice) : Type 0 where
  pub clauses : (c : Clause) → c ∈ cs → OverClause n c
  pub choices : (k : Choice) → k ∈ ks → OverChoice n k

-- ---- what it keeps

-- the atoms of M below n
unfoldable pub restrict : ℕ → Atoms → Atoms
restrict n M a = ltb a n && M a

-- the context over more atoms than n: it sees those below n
abbrev pub lifted : ℕ → Context → Context
lifted n sat M X = sat (restrict n M) (restrict n X)

-- "restricted to the old atoms, are exactly those .. each once": restricting to the atoms below n is one to one from the sets A onto the sets B
pub record Exact (n : ℕ) (A B : Atoms → Type 0) : Type 0 where
  -- each of A restricted is one of B
  pub into : (M : Atoms) → A M → B (restrict n M)
  -- each of B is one of A restricted
  pub onto : (M : Atoms) → B M → (N : Atoms) × A N × (restrict n N ≡ M)
  -- two of A that are the same below n are the same
  pub once : (M N : Atoms) → A M → A N → restrict n M ≡ restrict n N → M ≡ N
