-- A table's words and marks as a marked program.
use Rattle.std.specs.Prelude.{cond, List, [], ◌∷◌, ◌++◌, ℕ, zero, suc, ◌+◌, eqb, length, get_or, take, drop, replicate}
use Rattle.semantics.specs.Lists.{count}
use Rattle.rewriting.specs.Marked.{Entry, Marked}
use Rattle.table.specs.Places.{head_at, pos_at, neg_at, next_at}

-- "A mark is a byte for each word of the table, 1 for kept and 0 for gone."
-- the atoms of the k words from `at` whose mark is 1
unfoldable pub part : List ℕ → List ℕ → ℕ → ℕ → List ℕ
part ws ms at zero = []
part ws ms at (suc k) = cond (eqb (get_or ms at 0) 1) (get_or ws at 0 ∷ part ws ms (suc at) k) (part ws ms (suc at) k)

-- "the kept clauses, each with those of its atoms whose mark is 1"; a clause is kept while the mark of its first word is 1
unfoldable pub entry_at : List ℕ → List ℕ → ℕ → Entry
unfolding part
entry_at ws ms at = record {
  kept = eqb (get_or ms at 0) 1;
  clause = record {
    head = part ws ms (head_at at) (get_or ws at 0);
    pos = part ws ms (pos_at ws at) (get_or ws (at + 1) 0);
    neg = part ws ms (neg_at ws at) (get_or ws (at + 2) 0);
  };
}

unfoldable pub entries_from : List ℕ → List ℕ → ℕ → ℕ → Marked
unfolding entry_at
entries_from ws ms zero at = []
entries_from ws ms (suc m) at = entry_at ws ms at ∷ entries_from ws ms m (next_at ws at)

-- the marked program of a table's words and marks
unfoldable pub view : List ℕ → List ℕ → Marked
unfolding entries_from
view ws ms = entries_from ws ms (get_or ws 1 0) 2

-- "Every list starts with all marks 1": those of the table's words; marks past the table stay
abbrev pub all_kept : List ℕ → List ℕ → List ℕ
all_kept ws ms = replicate (length ws) 1 ++ drop (length ws) ms

-- the marks at 0 among the table's words
unfoldable pub zeros : List ℕ → List ℕ → ℕ
zeros ws ms = count (λ x. eqb x 0) (take (length ws) ms)
