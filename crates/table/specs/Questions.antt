-- Questions 1 to 8 of document 01, asked of a table's words in its order: the first no, or the table's numbers.
use Rattle.std.specs.Prelude.{Result, ℕ, zero, suc, ◌+◌, ◌-◌, ◌≡◌, List, ◌&&◌, length, get_or, ltb, leb, Ok, Err}
use Rattle.answers.specs.declared.CallQuestion.TheVariants.{TableLength}
use Rattle.answers.specs.declared.WordQuestion.TheVariants.{AtomLimit, ClauseLimit, CountsLeft, LiteralsLeft, AtomBelow, Ascending, AllUsed}
use Rattle.answers.specs.declared.Refusal.{Refusal}
use Rattle.answers.specs.declared.Refusal.TheVariants.{Call, Word}
use Rattle.table.specs.declared.Table.{Table}
use Rattle.answers.specs.Answers.{ask}

-- what a walk over words comes to: the place past them, or a refusal
abbrev pub Walk : Type 0
Walk = Result ℕ Refusal

-- what the questions of a table come to: its numbers, or a refusal
abbrev pub Checked : Type 0
Checked = Result Table Refusal

module _ {A : Type 0} where
  -- from where a walk came to it goes on; a refusal is what `stop` makes of it
  unfoldable pub on_walk : (Refusal → A) → Walk → (ℕ → A) → A
  on_walk stop (Ok e) go = go e
  on_walk stop (Err r) go = stop r

-- "Is the atom below n?", then "Is it above the one before it": asked of `left` words from `at`, one by one. `below` and `above` are the
-- refusals, given the place; `low` is one above the atom before, 0 at the first word
unfoldable pub atoms_from : (ℕ → Refusal) → (ℕ → Refusal) → List ℕ → ℕ → ℕ → ℕ → ℕ → Walk
atoms_from below above ws n low at zero = Ok at
atoms_from below above ws n low at (suc left) =
    ask Err (ltb (get_or ws at 0) n) (below at)
    (ask Err (leb low (get_or ws at 0)) (above at)
    (atoms_from below above ws n (get_or ws at 0 + 1) (at + 1) left))

-- "word by word: 6 Is the atom below n? 7 Is it above the one before it in its part (place of the word)?"
abbrev pub part_from : List ℕ → ℕ → ℕ → ℕ → ℕ → Walk
part_from ws n low at left = atoms_from (Word AtomBelow) (Word Ascending) ws n low at left

-- the head from a to b, the positive body from b to c, the negative body from c to d
unfoldable pub parts_from : List ℕ → ℕ → ℕ → ℕ → ℕ → ℕ → Walk
parts_from ws n a b c d =
    on_walk Err (part_from ws n 0 a (b - a)) (λ _. on_walk Err (part_from ws n 0 b (c - b)) (λ _. part_from ws n 0 c (d - c)))

-- "4 Are three count words left? 5 Are h+p+q more words left (4 and 5: place of the clause's first word)?"
unfoldable pub clause_from : List ℕ → ℕ → ℕ → Walk
clause_from ws n at =
    ask Err (leb 3 (length ws - at)) (Word CountsLeft at)
    (ask Err (leb (get_or ws at 0 + get_or ws (at + 1) 0 + get_or ws (at + 2) 0) (length ws - at - 3)) (Word LiteralsLeft at)
    (parts_from ws n (at + 3) (at + 3 + get_or ws at 0) (at + 3 + get_or ws at 0 + get_or ws (at + 1) 0) (at + 3 + get_or ws at 0 + get_or ws (at + 1) 0 + get_or ws (at + 2) 0)))

-- "Then clause by clause": `left` clauses from `at`
unfoldable pub clauses_from : List ℕ → ℕ → ℕ → ℕ → Walk
clauses_from ws n zero at = Ok at
clauses_from ws n (suc left) at = on_walk Err (clause_from ws n at) (λ e. clauses_from ws n left e)

-- a table's numbers
abbrev pub table_numbers : List ℕ → Table
table_numbers ws = record { atoms = get_or ws 0 0; clauses = get_or ws 1 0; words = length ws }

-- "At the end: 8 Is no word left over (place of the first)?"
unfoldable pub all_used : List ℕ → Walk → Checked
all_used ws w = on_walk Err w (λ e. ask Err (leb (length ws) e) (Word AllUsed e) (Ok (table_numbers ws)))

-- "1 Has it 2 to 8,192 words? 2 Is n at most 1,024? 3 Is m at most 2,048 (place 1)?"
unfoldable pub table_of : List ℕ → Checked
table_of ws =
    ask Err (leb 2 (length ws) && leb (length ws) 8192) (Call TableLength)
    (ask Err (leb (get_or ws 0 0) 1024) (Word AtomLimit 0)
    (ask Err (leb (get_or ws 1 0) 2048) (Word ClauseLimit 1)
    (all_used ws (clauses_from ws (get_or ws 0 0) (get_or ws 1 0) 2))))

-- A table that passes questions 1 to 8.
pub record Passed (ws : List ℕ) : Type 0 where
  pub valid : table_of ws ≡ Ok (table_numbers ws)

module _ {A : Type 0} where
  -- "Every call on a table asks 1 to 8 first, then its own"
  unfoldable pub on_table : (Refusal → A) → Checked → A → A
  on_table stop (Ok t) go = go
  on_table stop (Err r) go = stop r
