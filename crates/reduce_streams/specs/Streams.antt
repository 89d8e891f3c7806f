-- What the program takes from its input, and the status that it ends with.
use Rattle.std.specs.Prelude.{ℕ, List, take, cond}
use Rattle.text_form.specs.Reader.{read_answer}
use Rattle.reduce_filter.specs.Input.{input_bytes}
use Rattle.reduce_filter.specs.Output.{is_refused}

-- of an input, the bytes that are enough to tell a text that is too long
abbrev pub text_read : List ℕ → List ℕ
text_read xs = take input_bytes xs

-- 1 for a text that is refused, and else 0
abbrev pub status_of : List ℕ → ℕ
status_of ts = cond (is_refused (read_answer ts 8192)) 1 0
