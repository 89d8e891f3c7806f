-- The consequences of an atom, the set D of slip 8 of document 02: what they have to be, and how they are computed.
use Rattle.std.specs.Prelude.{Bool, true, ◌&&◌, List, [], ◌∷◌, ℕ}
use Rattle.std.proofs.Math.Bool.{So}
use Rattle.semantics.specs.Lists.{null, single, keep}
use Rattle.semantics.specs.Programs.{Clause, Atoms, Subset}
use Rattle.rewriting.specs.Reach.{closed}
use Rattle.rewriting.specs.Reaches.{reach}

-- "one head atom, no negative atoms"
abbrev pub definite : Clause → Bool
definite c = single (λ _. true) c.head && null c.neg

-- "Let D be the smallest set that holds a and the head of each kept clause with one head atom, no negative atoms and all positive atoms in D."
pub record AreConsequences (cs : List Clause) (a : ℕ) (D : Atoms) : Type 0 where
  pub start : So (D a)
  pub holds : So (closed D (keep definite cs))
  pub least : (S : Atoms) → So (S a) → So (closed S (keep definite cs)) → Subset D S

abbrev pub fact_of : ℕ → Clause
fact_of a = record { head = a ∷ []; pos = []; neg = [] }

-- the consequences, computed: the reach of those clauses with a as a fact
unfoldable pub consequences : List Clause → ℕ → Atoms
unfolding reach
consequences cs a = reach (fact_of a ∷ keep definite cs)
