-- Sets of atoms as bytes, one for each atom, and the bytes of the reach.
use Rattle.std.specs.Prelude.{◌≡◌, List, ℕ, eqb, length, get_or}
use Rattle.std.proofs.Math.Bool.{So}
use Rattle.semantics.specs.Programs.{Atoms, Subset}
use Rattle.rewriting.specs.Marked.{Marked, left}
use Rattle.rewriting.specs.Reach.{closed}
use Rattle.rewriting.specs.Reaches.{reach}
use Rattle.table.specs.View.{view}

-- the atoms whose byte is 1
abbrev pub in_bytes : List ℕ → Atoms
in_bytes s a = eqb (get_or s a 0) 1

-- What was added lies in every closed set that holds the start, so in the reach where the start does.
pub record Grown (P : Marked) (s s' : List ℕ) : Type 0 where
  pub within : (T : Atoms) → So (closed T (left P)) → Subset (in_bytes s) T → Subset (in_bytes s') T
  pub same : length s' ≡ length s

-- "The reach is the smallest set that holds all head atoms of every kept clause whose positive atoms it holds."
pub record Reached (ws ms s : List ℕ) : Type 0 where
  pub is : (a : ℕ) → in_bytes s a ≡ reach (left (view ws ms)) a

-- The smallest such set that holds the atom a too.
pub record ReachedWith (ws ms : List ℕ) (a : ℕ) (s : List ℕ) : Type 0 where
  pub joins : So (in_bytes s a)
  pub holds : So (closed (in_bytes s) (left (view ws ms)))
  pub least : (T : Atoms) → So (T a) → So (closed T (left (view ws ms))) → Subset (in_bytes s) T
