-- The smallest step of kind 9, and the constraints that are known to exclude no atom.
use Rattle.std.specs.Prelude.{◌≡◌, Option, Some, None, List, ℕ, ◌≤◌, ◌<◌}
use Rattle.std.proofs.Math.Bool.{So}
use Rattle.semantics.specs.Lists.{null}
use Rattle.rewriting.specs.Marked.{Marked, entry, left}
use Rattle.rewriting.specs.Exclusion.{excludes}
use Rattle.step_reach.specs.Bytes.{in_bytes}
use Rattle.search_exclusion.specs.declared.Exclusion.{Exclusion}

-- Slip 8: "The target is a kept constraint with at least one positive and no negative atom; the partner is unused; the atom a occurs in a kept clause. .. The step applies
-- when the target's positive atoms are all in D."
pub record Excluding (n : ℕ) (P : Marked) (t a : ℕ) : Type 0 where
  pub kept : So (entry P t).kept
  pub below : a < n
  pub applies : So (excludes (left P) (entry P t).clause a)

-- "smallest by kind, then target, partner, atom"
pub record Least (n : ℕ) (P : Marked) (t a : ℕ) : Type 0 where
  pub step : Excluding n P t a
  pub before : (u b : ℕ) → Excluding n P u b → (t ≤ u) × (t ≡ u → a ≤ b)

-- What the search finds: the smallest step, or nothing where there is none.
pub record Smallest (n : ℕ) (P : Marked) (r : Option Exclusion) : Type 0 where
  pub some : (pair : Exclusion) → r ≡ Some pair → Least n P pair.target pair.atom
  pub none : r ≡ None → (t a : ℕ) → ¬ Excluding n P t a

-- A kept clause whose byte is 1 has no head atom, has no negative atom, and excludes no atom.
pub record Idle (n : ℕ) (P : Marked) (s : List ℕ) : Type 0 where
  pub headless : (t : ℕ) → So (in_bytes s t) → So (entry P t).kept → So (null (entry P t).clause.head)
  pub positive : (t : ℕ) → So (in_bytes s t) → So (entry P t).kept → So (null (entry P t).clause.neg)
  pub none : (t a : ℕ) → So (in_bytes s t) → ¬ Excluding n P t a
