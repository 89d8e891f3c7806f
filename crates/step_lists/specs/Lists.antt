-- Checking a list: questions 9 and 11, then its steps one by one, and the marks that it leaves; for refused input too.
use Rattle.std.specs.Prelude.{Bool, ◌&&◌, List, ℕ, zero, suc, ◌+◌, ◌/◌, ◌%◌, eqb, leb, length, get_or, Ok, Err}
use Rattle.answers.specs.declared.CallQuestion.TheVariants.{MarksLength, ListLength}
use Rattle.answers.specs.declared.Refusal.{Refusal}
use Rattle.answers.specs.declared.Refusal.TheVariants.{Call, Step}
use Rattle.answers.specs.Answers.{Answer}
use Rattle.answers.specs.Answers.{ask}
use Rattle.table.specs.Questions.{table_of, on_table}
use Rattle.table.specs.StepWords.{kind_at, step_at}
use Rattle.table.specs.View.{view, all_kept}
use Rattle.table.specs.Effects.{marks_after}
use Rattle.step_questions.specs.Questions.{step_questions}

-- What a call leaves: its answer and the marks.
pub record Outcome : Type 0 where
  pub answer : Answer
  pub marks : List ℕ

-- a refusal, and the marks that it leaves
abbrev pub leaving : List ℕ → Refusal → Outcome
leaving ms r = record { answer = Err r; marks = ms }

-- "Then step by step, place the step's number from 0": `left` steps from step k on, each "asked and made on the marks that the step before it left".
-- "A list refused at step k leaves the marks of steps 0 to k-1"
unfoldable pub steps_from : List ℕ → List ℕ → List ℕ → ℕ → ℕ → Outcome
unfolding step_questions marks_after
steps_from ws ms ls k zero = record { answer = Ok k; marks = ms }
steps_from ws ms ls k (suc left) =
    step_questions (λ q. leaving ms (Step q k)) (get_or ws 0 0) (view ws ms) (kind_at ls k) (step_at ls k)
    (steps_from ws (marks_after ws ms (step_at ls k)) ls (k + 1) left)

-- "11 Is the length a multiple of 4, at most 32,760?"
abbrev pub list_fits : List ℕ → Bool
list_fits ls = eqb (length ls % 4) 0 && leb (length ls) 32760

-- "9 Are there at least as many marks as words?", then 11, then the steps. "Every list starts with all marks 1." "Every other refusal changes nothing."
unfoldable pub check_list : List ℕ → List ℕ → List ℕ → Outcome
unfolding table_of on_table ask steps_from
check_list ws ms ls =
    on_table (leaving ms) (table_of ws)
    (ask (leaving ms) (leb (length ws) (length ms)) (Call MarksLength)
    (ask (leaving ms) (list_fits ls) (Call ListLength)
    (steps_from ws (all_kept ws ms) ls 0 (length ls / 4))))
