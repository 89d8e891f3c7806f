-- What the program prints for what it reads, after document 01, "The text and its program": by the definitions of the calls that read a text, reduce a table, give the reduced
-- table and write a text.
use Rattle.std.specs.Prelude.{ℕ, zero, suc, ◌+◌, ◌≤◌, ◌≡◌, Bool, true, false, List, [], ◌∷◌, ◌++◌, length, take, replicate, Ok, Err}
use Rattle.answers.specs.declared.Refusal.{Refusal}
use Rattle.answers.specs.Refusals.{refusal_number, refusal_place}
use Rattle.table.specs.Places.{cut}
use Rattle.reduced_sizes.specs.Leaves.{reduced}
use Rattle.answers.specs.Answers.{Answer}
use Rattle.reducer_results.specs.Reductions.{Reduction, reduction}
use Rattle.text_form.specs.Digits.{digits, commas}
use Rattle.text_form.specs.Render.{line_text}
use Rattle.answers.specs.Answers.{written}
use Rattle.text_form.specs.Reader.{read_answer, table_after}
use Rattle.text_form.specs.Writer.{text_of}
use Rattle.reduce_filter.specs.declared.Printed.{Printed}

-- "steps="
abbrev pub steps_key : List ℕ
steps_key = 115 ∷ 116 ∷ 101 ∷ 112 ∷ 115 ∷ 61 ∷ []

-- "step="
abbrev pub step_key : List ℕ
step_key = 115 ∷ 116 ∷ 101 ∷ 112 ∷ 61 ∷ []

-- "refused="
abbrev pub refused_key : List ℕ
refused_key = 114 ∷ 101 ∷ 102 ∷ 117 ∷ 115 ∷ 101 ∷ 100 ∷ 61 ∷ []

-- "one line a step: step= with kind, target, partner and atom, joined by commas": `left` steps of a list from the word at `at`
unfoldable pub step_lines : List ℕ → ℕ → ℕ → List ℕ
step_lines ls at zero = []
step_lines ls at (suc left) = line_text step_key (commas (cut ls at 4)) ++ step_lines ls (at + 4) left

-- "steps= with the count, then one line a step"
unfoldable pub list_lines : List ℕ → ℕ → List ℕ
list_lines ls s = line_text steps_key (digits s) ++ step_lines ls 0 s

-- "A refusal prints only refused= with number and place, joined by a comma"
unfoldable pub refused_text : ℕ → ℕ → List ℕ
refused_text number place = line_text refused_key (commas (number ∷ place ∷ []))

abbrev pub refusal_text : Refusal → List ℕ
refusal_text r = refused_text (refusal_number r) (refusal_place r)

-- the reducer's call on a table's words, lent as many marks as a table can have words, and a list that is long enough for every table
abbrev pub reduction_of : List ℕ → Reduction
reduction_of ws = reduction ws (replicate 8192 0) (replicate 32768 0)

-- "prints the reduced program, then steps= with the count, then one line a step", for a table's words and what the reducer's call answers and leaves
abbrev pub reduced_lines : List ℕ → Answer → List ℕ → List ℕ → List ℕ
reduced_lines ws (Ok s) ms ls = text_of (reduced ws ms) ++ list_lines ls s
reduced_lines ws (Err r) ms ls = refusal_text r

unfoldable pub reduced_text : List ℕ → List ℕ
reduced_text ws = reduced_lines ws (reduction_of ws).answer (reduction_of ws).marks (reduction_of ws).list

-- for what reading the text answers, and the table slice afterwards
abbrev pub printed : Answer → List ℕ → List ℕ
printed (Ok k) table = reduced_text (take k table)
printed (Err r) table = refusal_text r

-- the whole output for an input
unfoldable pub output_of : List ℕ → List ℕ
unfolding read_answer table_after
output_of ts = printed (read_answer ts 8192) (table_after ts (replicate 8192 0))

-- whether the input is refused
abbrev pub is_refused : Answer → Bool
is_refused (Ok k) = false
is_refused (Err r) = true

-- bytes that are enough for every output
abbrev pub output_bytes : ℕ
output_bytes = 262144

-- The output stands at the start of the slice, its bytes are counted, what lies past them is as it was; and whether the input is refused.
pub record Prints (ts old new : List ℕ) (r : Printed) : Type 0 where
  pub count : r.bytes ≡ length (output_of ts)
  pub bytes : new ≡ written (output_of ts) old
  pub fits : r.bytes ≤ output_bytes
  pub refused : r.refused ≡ is_refused (read_answer ts 8192)
