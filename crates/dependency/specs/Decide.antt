-- Chains over the positive bodies, computed: whether an atom leads to another, and whether some atom leads back to itself.
use Rattle.std.specs.Prelude.{Bool, cond, List, [], ◌∷◌, ◌++◌, map, ℕ, eqb}
use Rattle.semantics.specs.Lists.{any}
use Rattle.semantics.specs.Programs.{Clause}
use Rattle.rewriting.specs.Reaches.{reach}

-- a clause turned round at its head atom h: whoever leads to h leads to the positive body; a itself leads to h by nothing
abbrev pub turn : ℕ → Clause → ℕ → Clause
turn a c h = record { head = c.pos; pos = cond (eqb a h) [] (h ∷ []); neg = [] }

-- all clauses, turned round at all their head atoms
unfoldable pub turned : ℕ → List Clause → List Clause
turned a [] = []
turned a (c ∷ cs) = map (turn a c) c.head ++ turned a cs

-- a leads to b: the reach of the turned clauses is what a leads to
unfoldable pub leads : List Clause → ℕ → ℕ → Bool
unfolding turned reach
leads cs a b = reach (turned a cs) b

-- some atom leads back to itself: it is in a head
unfoldable pub cyclic : List Clause → Bool
unfolding leads
cyclic cs = any (λ c. any (λ a. leads cs a a) c.head) cs
