-- The call for the reduced table: questions 9, 10 and 18, what it answers, and what it leaves in the slice lent for it.
use Rattle.std.specs.Prelude.{List, ℕ, leb, length, Ok, Err}
use Rattle.answers.specs.declared.CallQuestion.TheVariants.{MarksLength, TableRoom}
use Rattle.answers.specs.declared.Refusal.TheVariants.{Call}
use Rattle.answers.specs.Answers.{Answer}
use Rattle.answers.specs.Answers.{ask, written_if}
use Rattle.table.specs.Questions.{on_walk, table_of, on_table}
use Rattle.reduced_marks.specs.Allowed.{allowed, marks_from}
use Rattle.reduced_sizes.specs.Leaves.{reduced}

-- "Reduced table: 9, then 10", then "18 Does the result fit?" Accepted, the call "gives the number of words .. written".
unfoldable pub marked_answer : List ℕ → List ℕ → List ℕ → Answer
unfolding ask on_walk
marked_answer ws ms out =
    ask Err (leb (length ws) (length ms)) (Call MarksLength)
    (on_walk Err (marks_from (allowed ws ms) 0 (length ws)) (λ _.
    ask Err (leb (length (reduced ws ms)) (length out)) (Call TableRoom)
    (Ok (length (reduced ws ms)))))

-- "Every call on a table asks 1 to 8 first, then its own"
unfoldable pub reduced_answer : List ℕ → List ℕ → List ℕ → Answer
unfolding on_table marked_answer
reduced_answer ws ms out = on_table Err (table_of ws) (marked_answer ws ms out)

-- the slice after the call
unfoldable pub reduced_out : List ℕ → List ℕ → List ℕ → List ℕ
unfolding written_if
reduced_out ws ms out = written_if (reduced_answer ws ms out) (reduced ws ms) out
