-- What reducing a table comes to: its answer, and what the marks and the list hold afterwards.
use Rattle.std.specs.Prelude.{List, [], ◌∷◌, ℕ, ◌+◌, ◌*◌, leb, length, get_or, Ok, Err}
use Rattle.semantics.specs.Programs.{Clause}
use Rattle.rewriting.specs.Marked.{whole}
use Rattle.rewriting.specs.Steps.{Step}
use Rattle.rewriting.specs.Search.{reduce}
use Rattle.answers.specs.declared.CallQuestion.TheVariants.{MarksLength, ListRoom}
use Rattle.answers.specs.declared.Refusal.{Refusal}
use Rattle.answers.specs.declared.Refusal.TheVariants.{Call}
use Rattle.answers.specs.Answers.{Answer}
use Rattle.answers.specs.Answers.{ask, written}
use Rattle.table.specs.Questions.{table_of, on_table}
use Rattle.table.specs.Programs.{program_of}
use Rattle.table.specs.StepWords.{words_of}
use Rattle.table.specs.View.{all_kept}
use Rattle.table.specs.Effects.{marks_after_all}

unfoldable pub literals : List Clause → ℕ
literals [] = 0
literals (c ∷ cs) = length c.head + length c.pos + length c.neg + literals cs

-- "m plus all body literals"; slip 8: "17 counts all literals"
unfoldable pub room : List ℕ → ℕ
room ws = get_or ws 1 0 + literals (program_of ws).clauses

-- the reducer's list for a table: from all marks 1, at most as many steps as there are clauses and literals
unfoldable pub steps_of : List ℕ → List Step
steps_of ws = reduce (get_or ws 0 0) (room ws) (whole (program_of ws).clauses)

-- What a call leaves.
pub record Reduction : Type 0 where
  pub answer : Answer
  pub marks : List ℕ
  pub list : List ℕ

-- "Every other refusal changes nothing."
abbrev pub leaving_both : List ℕ → List ℕ → Refusal → Reduction
leaving_both ms ls r = record { answer = Err r; marks = ms; list = ls }

-- "Its result carries the number s of steps made; the list's first 4s words are written, later words don't change, and the table's
-- marks are those after the s steps."
abbrev pub reduced_by_lem : List ℕ → List ℕ → List ℕ → List Step → Reduction
reduced_by_lem ws ms ls l = record { answer = Ok (length l); marks = marks_after_all ws (all_kept ws ms) l; list = written (words_of l) ls }

-- "Reducing: 9, then 17 Has the list at least 4 times (m plus all body literals) words?", which by slip 8 "counts all literals"
unfoldable pub reduction : List ℕ → List ℕ → List ℕ → Reduction
reduction ws ms ls =
    on_table (leaving_both ms ls) (table_of ws)
    (ask (leaving_both ms ls) (leb (length ws) (length ms)) (Call MarksLength)
    (ask (leaving_both ms ls) (leb (4 * room ws) (length ls)) (Call ListRoom)
    (reduced_by_lem ws ms ls (steps_of ws))))
