-- The sets of kind 9 as bytes and marks: the clauses that consequences go by, the consequences of an atom, and the atoms that occur.
use Rattle.std.specs.Prelude.{◌≡◌, ◌&&◌, List, map, ℕ}
use Rattle.semantics.specs.Lists.{any}
use Rattle.rewriting.specs.Marked.{Entry, left}
use Rattle.rewriting.specs.Consequences.{definite, consequences}
use Rattle.rewriting.specs.Exclusion.{occurs}
use Rattle.table.specs.Places.{start_of}
use Rattle.table.specs.View.{view}
use Rattle.table.specs.Clearing.{clear_part}
use Rattle.step_parts.specs.declared.Part.{Part}
use Rattle.step_parts.proofs.Laws.{From, Size}
use Rattle.step_reach.specs.Bytes.{in_bytes}

-- kept where the clause has "one head atom, no negative atoms"
abbrev pub narrowed : Entry → Entry
narrowed e = record { kept = e.kept && definite e.clause; clause = e.clause }

-- the marks without the atom in a part of clause t
abbrev pub part_without : List ℕ → ℕ → ℕ → Part → List ℕ → List ℕ
part_without ws a t x ms = clear_part ws a (From ws (start_of ws t) x) (Size ws (start_of ws t) x) ms

-- The marks ks leave those of the kept clauses.
pub record Narrowed (ws ms ks : List ℕ) : Type 0 where
  pub is : view ws ks ≡ map narrowed (view ws ms)

-- "Let D be the smallest set that holds a and the head of each kept clause with one head atom, no negative atoms and all positive atoms in D."
pub record ConsequencesIn (ws ms : List ℕ) (a : ℕ) (s : List ℕ) : Type 0 where
  pub is : (b : ℕ) → in_bytes s b ≡ consequences (left (view ws ms)) a b

-- "the atom a occurs in a kept clause"
pub record Occurring (ws ms s : List ℕ) : Type 0 where
  pub is : (b : ℕ) → in_bytes s b ≡ any (occurs b) (left (view ws ms))
