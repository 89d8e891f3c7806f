-- Spans of marks, and what the functions on a table's words and marks ask of their callers.
use Rattle.std.specs.Prelude.{Bool, ◌&&◌, List, ℕ, ◌≤◌, leb, length, get_or}
use Rattle.table.specs.Questions.{Passed}
use Rattle.table.specs.Places.{next_at}

-- the mark is at least `least` and at most 1
abbrev pub between : List ℕ → ℕ → ℕ → Bool
between ms least i = leb least (get_or ms i 0) && leb (get_or ms i 0) 1

-- the clause at `at` stands within the words of a table, all of which have marks
pub record ClauseFits (ws ms : List ℕ) (at : ℕ) : Type 0 where
  pub fits : next_at ws at ≤ length ws
  pub marked : length ws ≤ length ms
  pub short : length ws ≤ 8192

-- a table that passed questions 1 to 9
pub record MarksReady (ws ms : List ℕ) : Type 0 where
  pub passed : Passed ws
  pub marked : length ws ≤ length ms
