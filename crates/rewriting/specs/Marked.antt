-- Marked programs: "Clauses keep their numbers", so a deleted clause keeps its place.
use Rattle.std.specs.Prelude.{Bool, true, false, cond, List, [], ◌∷◌, map, ℕ, get_or}
use Rattle.semantics.specs.Programs.{Clause}

-- A clause as left, and whether it is kept.
pub record Entry : Type 0 where
  pub kept : Bool
  pub clause : Clause

abbrev pub Marked : Type 0
Marked = List Entry

-- a clause that is deleted
abbrev pub deleted : Clause → Entry
deleted c = record { kept = false; clause = c }

-- what stands past the last clause: one that is not kept
abbrev pub gone : Entry
gone = record { kept = false; clause = record { head = []; pos = []; neg = [] } }

-- the clause of that number
abbrev pub entry : Marked → ℕ → Entry
entry P i = get_or P i gone

-- "The program as marks leave it has the same n and the kept clauses"
unfoldable pub left : Marked → List Clause
left [] = []
left (e ∷ P) = cond e.kept (e.clause ∷ left P) (left P)

-- clauses that are all kept
abbrev pub whole : List Clause → Marked
whole cs = map (λ c. record { kept = true; clause = c }) cs
