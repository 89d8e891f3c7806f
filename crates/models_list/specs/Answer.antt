-- The answer of the call that lists all stable models, and what it leaves in the slice, after document 02, slip 3.
use Rattle.std.specs.Prelude.{List, ℕ, leb, length, get_or, Ok, Err}
use Rattle.answers.specs.declared.CallQuestion.TheVariants.{FewAtoms, ModelsRoom}
use Rattle.answers.specs.declared.Refusal.TheVariants.{Call}
use Rattle.answers.specs.Answers.{Answer}
use Rattle.answers.specs.Answers.{ask, written_if}
use Rattle.table.specs.Questions.{table_of, on_table}
use Rattle.table.specs.Programs.{program_of}
use Rattle.models_words.specs.Words.{models_of}

-- the words to write
abbrev pub model_words : List ℕ → List ℕ
model_words ws = models_of (program_of ws)

-- "Refusal 30, after 8, is for more than 16 atoms; 31, after 30, is for a slice shorter than the count"; "the count is in the result"
unfoldable pub models_answer : List ℕ → ℕ → Answer
unfolding table_of on_table ask models_of program_of
models_answer ws room =
    on_table Err (table_of ws)
    (ask Err (leb (get_or ws 0 0) 16) (Call FewAtoms)
    (ask Err (leb (length (model_words ws)) room) (Call ModelsRoom)
    (Ok (length (model_words ws)))))

-- "Words of the slice past the count don't change."; a slice that is refused "stays unwritten"
unfoldable pub models_out : List ℕ → List ℕ → List ℕ
unfolding models_answer written_if
models_out ws out = written_if (models_answer ws (length out)) (model_words ws) out
