-- Where the clauses and their parts stand in a table's words.
use Rattle.std.specs.Prelude.{ℕ, zero, suc, ◌+◌, List, get_or, take, drop}

-- A clause is given by the place of its first word. Its head starts three words on, then its positive and its negative body;
-- then the next clause.
abbrev pub head_at : ℕ → ℕ
head_at at = at + 3

abbrev pub pos_at : List ℕ → ℕ → ℕ
pos_at ws at = at + 3 + get_or ws at 0

abbrev pub neg_at : List ℕ → ℕ → ℕ
neg_at ws at = at + 3 + get_or ws at 0 + get_or ws (at + 1) 0

abbrev pub next_at : List ℕ → ℕ → ℕ
next_at ws at = at + 3 + get_or ws at 0 + get_or ws (at + 1) 0 + get_or ws (at + 2) 0

-- the first word of the clause that is t after the one at `at`
unfoldable pub start_from : List ℕ → ℕ → ℕ → ℕ
start_from ws at zero = at
start_from ws at (suc t) = start_from ws (next_at ws at) t

-- "clauses are numbered from 0": the first word of clause t
abbrev pub start_of : List ℕ → ℕ → ℕ
start_of ws t = start_from ws 2 t

-- k words from `at`
abbrev pub cut : List ℕ → ℕ → ℕ → List ℕ
cut ws at k = take k (drop at ws)
