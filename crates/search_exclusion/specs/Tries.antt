-- How the search goes: the clauses that can be targets as bytes, those that fit an atom's consequences, and the better of two pairs.
use Rattle.std.specs.Prelude.{◌≡◌, ◌⊎◌, Bool, ◌&&◌, Option, Some, None, List, ℕ, ◌≤◌, ◌<◌, length}
use Rattle.std.proofs.Math.Bool.{So}
use Rattle.semantics.specs.Lists.{all}
use Rattle.semantics.specs.Programs.{Atoms}
use Rattle.rewriting.specs.Marked.{Entry, Marked, entry}
use Rattle.rewriting.specs.Exclusion.{plain_constraint}
use Rattle.table.specs.View.{view}
use Rattle.step_reach.specs.Bytes.{in_bytes, ReachedWith}
use Rattle.search_exclusion.specs.declared.Exclusion.{Exclusion}
use Rattle.search_exclusion.specs.Smallest.{Excluding}

-- A target and an atom; the target is the number of clauses where there is none.
pub record Best : Type 0 where
  pub target : ℕ
  pub atom : ℕ

-- what is found, among m clauses
abbrev pub best_of : ℕ → Option Exclusion → Best
best_of m None = record { target = m; atom = 0 }
best_of m (Some pair) = record { target = pair.target; atom = pair.atom }

-- "a kept constraint with at least one positive and no negative atom"
abbrev pub plain_kept : Entry → Bool
plain_kept e = e.kept && plain_constraint e.clause

-- The bytes at 1 are of such clauses, and every clause that excludes an atom has one.
pub record Targets (n : ℕ) (P : Marked) (s : List ℕ) : Type 0 where
  pub plain : (t : ℕ) → t < length P → So (in_bytes s t) → So (plain_kept (entry P t))
  pub each : (t a : ℕ) → Excluding n P t a → So (in_bytes s t)

-- No byte before r is 1.
pub record Unset (s : List ℕ) (r : ℕ) : Type 0 where
  pub before : (u : ℕ) → u < r → ¬ So (in_bytes s u)

-- The byte of clause t is 1, and its positive atoms are all in the set.
abbrev pub Fits : Marked → List ℕ → Atoms → ℕ → Type 0
Fits P s D t = So (in_bytes s t) × So (all D (entry P t).clause.pos)

-- The better of a pair and the first clause that fits with an atom: a smaller target is better, and else the pair stays.
pub record Improves (P : Marked) (s : List ℕ) (D : Atoms) (atom : ℕ) (old new : Best) : Type 0 where
  pub within : new.target ≤ old.target
  pub hit : new.target < old.target → Fits P s D new.target × (new.atom ≡ atom)
  pub stays : new.target ≡ old.target → new.atom ≡ old.atom
  pub before : (u : ℕ) → u < new.target → ¬ Fits P s D u

-- The atom is tried: the pair is the better one by its consequences, and no atoms but these are struck from those to be tried.
pub record Trial (ws ms can : List ℕ) (atom : ℕ) (old : Best) (todo todo' : List ℕ) (new : Best) : Type 0 where
  pub follows : List ℕ
  pub reached : ReachedWith ws ms atom follows
  pub better : Improves (view ws ms) can (in_bytes follows) atom old new
  pub less : (b : ℕ) → So (in_bytes todo' b) → So (in_bytes todo b)
  pub struck : (b : ℕ) → So (in_bytes todo b) → ¬ So (in_bytes todo' b) → So (in_bytes follows b)

-- The pair is the smallest step, or its target is the number of clauses and there is none.
pub record BestOf (n : ℕ) (P : Marked) (best : Best) : Type 0 where
  pub within : best.target ≤ length P
  pub step : best.target < length P → Excluding n P best.target best.atom
  pub before : (u b : ℕ) → Excluding n P u b → (best.target ≤ u) × (best.target ≡ u → best.atom ≤ b)

-- A byte at 1 was so before, or is one of the other set before the end.
pub record Remembered (can : List ℕ) (end : ℕ) (s s' : List ℕ) : Type 0 where
  pub is : (t : ℕ) → So (in_bytes s' t) → So (in_bytes s t) ⊎ ((t < end) × So (in_bytes can t))
