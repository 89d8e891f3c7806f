-- The program of a table's words.
use Rattle.std.specs.Prelude.{ℕ, zero, suc, ◌+◌, List, [], ◌∷◌, get_or}
use Rattle.semantics.specs.Programs.{Clause, Program, program}
use Rattle.table.specs.Places.{head_at, pos_at, neg_at, next_at, cut}

abbrev pub clause_of : List ℕ → ℕ → Clause
clause_of ws at = record {
  head = cut ws (head_at at) (get_or ws at 0);
  pos = cut ws (pos_at ws at) (get_or ws (at + 1) 0);
  neg = cut ws (neg_at ws at) (get_or ws (at + 2) 0);
}

unfoldable pub clauses_of : List ℕ → ℕ → ℕ → List Clause
clauses_of ws zero at = []
clauses_of ws (suc m) at = clause_of ws at ∷ clauses_of ws m (next_at ws at)

-- the program of a table
unfoldable pub program_of : List ℕ → Program
unfolding clauses_of
program_of ws = program (get_or ws 0 0) (clauses_of ws (get_or ws 1 0) 2)
