-- The calls, and what each says in the documents' numbers: the value of a call that is taken, or the number and place of the first question that gets a no.
use mathlib.Core.Path.{◌≡◌}
use mathlib.Core.List.{List, [], ◌∷◌}
use mathlib.Core.Option.{Option, none, some}
use Prim.Native.Nat.{ℕ, ◌/◌}
use lib.ListN.{length, get_or, take, replicate}
use Rattle.answers.specs.declared.StepQuestion.{StepQuestion}
use Rattle.answers.specs.Answers.{Answer}
use Rattle.std.specs.Prelude.{Ok, Err}
use Rattle.answers.specs.Refusals.{refusal_number, refusal_place}
use Rattle.answers.specs.Answers.{written}
use Rattle.table.specs.Questions.{table_of, on_table}
use Rattle.table.specs.StepWords.{kind_at, step_at}
use Rattle.table.specs.View.{view}
use Rattle.step_questions.specs.Questions.{step_questions}
use Rattle.step_lists.specs.Lists.{check_list}
use Rattle.reducer_results.specs.Reductions.{Reduction, reduction}
use Rattle.reduced_table.specs.Reduced.{reduced_answer}
use Rattle.models_test.specs.Answer.{test_of}
use Rattle.models_list.specs.Answer.{models_answer, models_out}
use Rattle.cycle.specs.Answer.{cycle_of}
use Rattle.text_form.specs.Reader.{read_answer, table_after}
use Rattle.text_form.specs.Digits.{digits}
use Rattle.text_form.specs.Writer.{write_answer, out_after}

pub data Said : Type 0 where
  value : ℕ → Said
  refusal : ℕ → ℕ → Said

-- "The first no gives its number. The place is 0 unless named."
abbrev pub said_by : Answer → Said
said_by (Ok k) = value k
said_by (Err r) = refusal (refusal_number r) (refusal_place r)

-- a call with what is lent to it: words, then marks, a list of steps or a slice; listing all stable models, reading and writing text, the length of the slice
pub data Call : Type 0 where
  table_call : List ℕ → Call
  check_call : List ℕ → List ℕ → List ℕ → Call
  reduce_call : List ℕ → List ℕ → List ℕ → Call
  reduced_call : List ℕ → List ℕ → List ℕ → Call
  test_call : List ℕ → List ℕ → Call
  models_call : List ℕ → ℕ → Call
  cycle_call : List ℕ → Call
  read_call : List ℕ → ℕ → Call
  write_call : List ℕ → ℕ → Call

-- by the definitions that the exports' contracts cite
abbrev pub answered : Call → Answer
answered (table_call ws) = on_table Err (table_of ws) (Ok 0)
answered (check_call ws ms ls) = (check_list ws ms ls).answer
answered (reduce_call ws ms ls) = (reduction ws ms ls).answer
answered (reduced_call ws ms out) = reduced_answer ws ms out
answered (test_call ws set) = test_of ws set
answered (models_call ws room) = models_answer ws room
answered (cycle_call ws) = cycle_of ws
answered (read_call ts room) = read_answer ts room
answered (write_call ws room) = write_answer ws room

abbrev pub says : Call → Said
says c = said_by (answered c)

abbrev pub IsTaken : Call → Type 0
IsTaken c = (k : ℕ) × (answered c ≡ Ok k)

-- ---- steps of a list

-- the first of questions 12 to 15, 29, 32 and 16 that step k of a list gets a no to, on the marks ms
abbrev pub first_no : List ℕ → List ℕ → List ℕ → ℕ → Option StepQuestion
first_no ws ms ls k = step_questions some (get_or ws 0 0) (view ws ms) (kind_at ls k) (step_at ls k) none

-- ---- rows of tables that are computed

-- a call says this; or the reducer writes this list for a table; or these are the words of its stable models; or these are the bytes of its text; or of a number; or a
-- text is read as this table; or checking a list says this and leaves these marks
pub data Example : Type 0 where
  row : Call → Said → Example
  writes : List ℕ → List ℕ → Example
  lists : List ℕ → List ℕ → Example
  texts : List ℕ → List ℕ → Example
  digits_are : ℕ → List ℕ → Example
  reads_as : List ℕ → List ℕ → Example
  checked : List ℕ → List ℕ → Said → List ℕ → Example

-- the reducer's call, lent a mark for each word and 64 words for the list, at first all 0
abbrev pub reduced64 : List ℕ → Reduction
reduced64 ws = reduction ws (replicate (length ws) 0) (replicate 64 0)

abbrev pub Says : Example → Type 0
Says (row c s) = says c ≡ s
Says (writes ws l) = ((reduced64 ws).answer ≡ Ok (length l / 4)) × ((reduced64 ws).list ≡ written l (replicate 64 0))
-- into a slice of six words, at first all 9
Says (lists ws l) = (models_answer ws 6 ≡ Ok (length l)) × (models_out ws (replicate 6 9) ≡ written l (replicate 6 9))
-- into a slice of 64 bytes, at first all dots
Says (texts ws bs) = (write_answer ws 64 ≡ Ok (length bs)) × (out_after ws (replicate 64 46) ≡ written bs (replicate 64 46))
Says (digits_are v bs) = digits v ≡ bs
-- from marks that are all 7
Says (checked ws ls s ms) = (said_by (check_list ws (replicate (length ws) 7) ls).answer ≡ s) × ((check_list ws (replicate (length ws) 7) ls).marks ≡ ms)
-- into a slice of 8,192 words, at first all 7
Says (reads_as ts ws) = (read_answer ts 8192 ≡ Ok (length ws)) × (take (length ws) (table_after ts (replicate 8192 7)) ≡ ws)

abbrev pub AllSay : List Example → Type 0
AllSay [] = Unit {0}
AllSay (e ∷ es) = Says e × AllSay es
