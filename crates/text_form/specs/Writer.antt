-- Writing a text: the bytes that a table's words give, the answer, and what the slice holds afterwards.
use Rattle.std.specs.Prelude.{ℕ, List, length, leb, Ok, Err}
use Rattle.answers.specs.declared.CallQuestion.TheVariants.{TextRoom}
use Rattle.answers.specs.declared.Refusal.TheVariants.{Call}
use Rattle.answers.specs.Answers.{Answer}
use Rattle.answers.specs.Answers.{ask, written_if}
use Rattle.table.specs.Questions.{table_of, on_table}
use Rattle.table.specs.Programs.{program_of}
use Rattle.text_form.specs.Render.{render}

-- the text of a table's program
unfoldable pub text_of : List ℕ → List ℕ
unfolding render program_of
text_of ws = render (program_of ws)

-- "Every call on a table asks 1 to 8 first, then its own": "28 Does it fit?", asked of a slice of `room` bytes
unfoldable pub write_answer : List ℕ → ℕ → Answer
unfolding table_of on_table ask text_of
write_answer ws room = on_table Err (table_of ws) (ask Err (leb (length (text_of ws)) room) (Call TextRoom) (Ok (length (text_of ws))))

-- the bytes of the slice afterwards
unfoldable pub out_after : List ℕ → List ℕ → List ℕ
unfolding write_answer text_of written_if
out_after ws out = written_if (write_answer ws (length out)) (text_of ws) out
