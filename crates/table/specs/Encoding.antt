-- The words of a program, and what document 01 calls a program within the limits.
use Rattle.std.specs.Prelude.{ℕ, ◌≤◌, ◌<◌, List, [], ◌∷◌, ◌++◌, length}
use Rattle.std.proofs.Math.Bool.{So}
use Rattle.semantics.specs.Lists.{◌∈◌, ascending}
use Rattle.semantics.specs.Programs.{Clause, Program}

-- "three counts h, p, q, followed by h head atoms, p positive body atoms and q negative body atoms"
abbrev pub clause_words : Clause → List ℕ
clause_words c = length c.head ∷ length c.pos ∷ length c.neg ∷ c.head ++ (c.pos ++ c.neg)

unfoldable pub clauses_words : List Clause → List ℕ
clauses_words [] = []
clauses_words (c ∷ cs) = clause_words c ++ clauses_words cs

-- "Word 0 is the number of atoms n", "Word 1 is the number of clauses m", then the clauses
unfoldable pub encode : Program → List ℕ
encode P = P.atoms ∷ length P.clauses ∷ clauses_words P.clauses

-- "Each part is strictly ascending; atoms are 0 to n-1"
pub record Ordered (n : ℕ) (part : List ℕ) : Type 0 where
  pub below : (a : ℕ) → a ∈ part → a < n
  pub ascends : So (ascending part)

pub record OrderedClause (n : ℕ) (c : Clause) : Type 0 where
  pub head : Ordered n c.head
  pub pos : Ordered n c.pos
  pub neg : Ordered n c.neg

-- A program whose table stays within the limits of document 01, "The program table".
pub record Within (P : Program) : Type 0 where
  pub few_atoms : P.atoms ≤ 1024
  pub few_clauses : length P.clauses ≤ 2048
  pub few_words : length (encode P) ≤ 8192
  pub ordered : (c : Clause) → c ∈ P.clauses → OrderedClause P.atoms c
