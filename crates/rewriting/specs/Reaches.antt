-- The reach of clauses, computed.
use Rattle.std.specs.Prelude.{Bool, not, cond, ◌&&◌, List, [], ◌∷◌, ◌++◌, ℕ, zero, suc, length}
use Rattle.semantics.specs.Lists.{mem, within}
use Rattle.semantics.specs.Programs.{Clause, Atoms}

-- the clause's positive atoms are all in S, and its head is not
abbrev pub ready : List ℕ → Clause → Bool
ready S c = within c.pos S && not (within c.head S)

-- the head of the first clause that is ready, or nothing
unfoldable pub fire : List ℕ → List Clause → List ℕ
fire S [] = []
fire S (c ∷ cs) = cond (ready S c) c.head (fire S cs)

-- S after k such additions
unfoldable pub reach_from : List Clause → ℕ → List ℕ → List ℕ
unfolding fire
reach_from cs zero S = S
reach_from cs (suc k) S = reach_from cs k (fire S cs ++ S)

-- the reach, computed: each clause adds its head at most once
unfoldable pub reach : List Clause → Atoms
unfolding reach_from
reach cs a = mem a (reach_from cs (length cs) [])
