-- The cycle answer: questions 1 to 8, then whether some atom leads back to itself along positive bodies.
use Rattle.std.specs.Prelude.{List, ℕ, Ok, Err}
use Rattle.semantics.specs.Lists.{bit}
use Rattle.table.specs.Questions.{table_of, on_table}
use Rattle.table.specs.Programs.{program_of}
use Rattle.answers.specs.Answers.{Answer}
use Rattle.dependency.specs.Decide.{cyclic}

-- "Every call on a table asks 1 to 8 first, then its own"; the answer is 1 for yes and 0 for no: "Yes when some atom leads back to itself."
unfoldable pub cycle_of : List ℕ → Answer
unfolding table_of on_table cyclic program_of
cycle_of ws = on_table Err (table_of ws) (Ok (bit (cyclic (program_of ws).clauses)))
