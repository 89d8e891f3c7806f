-- The test's answer: questions 1 to 8, 19 to 21, then whether the set is a stable model.
use Rattle.std.specs.Prelude.{List, ℕ, leb, length, get_or, Ok, Err}
use Rattle.semantics.specs.Decide.{stable_test}
use Rattle.answers.specs.declared.CallQuestion.TheVariants.{SetLength}
use Rattle.answers.specs.declared.EntryQuestion.TheVariants.{EntryBelow, EntryAscending}
use Rattle.answers.specs.declared.Refusal.TheVariants.{Call, Entry}
use Rattle.table.specs.Questions.{Walk}
use Rattle.answers.specs.Answers.{ask}
use Rattle.semantics.specs.Lists.{bit}
use Rattle.table.specs.Questions.{on_walk, atoms_from, table_of, on_table}
use Rattle.table.specs.Programs.{program_of}
use Rattle.answers.specs.Answers.{Answer}

-- "Then entry by entry, place the entry: 20 Is it below n? 21 Is it above the one before?"
abbrev pub set_from : List ℕ → ℕ → ℕ → ℕ → ℕ → Walk
set_from set n low at left = atoms_from (Entry EntryBelow) (Entry EntryAscending) set n low at left

-- "Testing a set, given as ascending words: 19 Are there at most 16?"
unfoldable pub set_of : List ℕ → ℕ → Walk
unfolding atoms_from ask
set_of set n = ask Err (leb (length set) 16) (Call SetLength) (set_from set n 0 0 (length set))

-- "Every call on a table asks 1 to 8 first, then its own"; the answer is 1 for yes and 0 for no
unfoldable pub test_of : List ℕ → List ℕ → Answer
unfolding table_of set_of on_walk on_table stable_test program_of
test_of ws set = on_table Err (table_of ws) (on_walk Err (set_of set (get_or ws 0 0)) (λ _. Ok (bit (stable_test (program_of ws) set))))
