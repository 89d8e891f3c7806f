-- The marks that a step of kind 9 clears, clause by clause: slip 8 of document 02, "It deletes kept clauses with a in the positive body and drops a from the heads and negative
-- bodies of the other kept ones."
use Rattle.std.specs.Prelude.{cond, List, ℕ, zero, suc, ◌+◌, eqb, get_or, set}
use Rattle.semantics.specs.Lists.{mem}
use Rattle.table.specs.Places.{head_at, pos_at, neg_at, next_at}
use Rattle.table.specs.View.{part}

-- the marks of those of the k words from `at` that are a
unfoldable pub clear_part : List ℕ → ℕ → ℕ → ℕ → List ℕ → List ℕ
clear_part ws a at zero ms = ms
clear_part ws a at (suc k) ms = clear_part ws a (suc at) k (cond (eqb a (get_or ws at 0)) (set ms at 0) ms)

-- of the clause at `at`, where it is kept: its first word's, or those of a in its head and negative body
unfoldable pub clear_clause : List ℕ → ℕ → ℕ → List ℕ → List ℕ
unfolding clear_part part
clear_clause ws a at ms =
    cond (eqb (get_or ms at 0) 1)
    (cond (mem a (part ws ms (pos_at ws at) (get_or ws (at + 1) 0)))
    (set ms at 0)
    (clear_part ws a (neg_at ws at) (get_or ws (at + 2) 0) (clear_part ws a (head_at at) (get_or ws at 0) ms)))
    ms

-- of the m clauses from `at`
unfoldable pub clear_from : List ℕ → ℕ → ℕ → ℕ → List ℕ → List ℕ
unfolding clear_clause
clear_from ws a zero at ms = ms
clear_from ws a (suc m) at ms = clear_from ws a m (next_at ws at) (clear_clause ws a at ms)

-- the marks after a step of kind 9 with the atom a
unfoldable pub marks_without : List ℕ → List ℕ → ℕ → List ℕ
unfolding clear_from
marks_without ws ms a = clear_from ws a (get_or ws 1 0) 2 ms
