-- The reach of clauses: what it has to be.
use Rattle.std.specs.Prelude.{Bool, not, ◌||◌, List}
use Rattle.std.proofs.Math.Bool.{So}
use Rattle.semantics.specs.Lists.{all}
use Rattle.semantics.specs.Programs.{Clause, Atoms, Subset}

-- The set holds all head atoms of every clause whose positive atoms it holds. "Negative atoms don't count."
unfoldable pub closed : Atoms → List Clause → Bool
closed R cs = all (λ c. not (all R c.pos) || all R c.head) cs

-- "The reach is the smallest set that holds all head atoms of every kept clause whose positive atoms it holds."
pub record IsReach (cs : List Clause) (R : Atoms) : Type 0 where
  pub holds : So (closed R cs)
  pub least : (S : Atoms) → So (closed S cs) → Subset R S
