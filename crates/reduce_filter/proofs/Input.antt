-- The program's input buffer: a text that is longer than it prints what its first bytes print.
use mathlib.Core.Path.{◌≡◌, sym, ap, ◌∙◌}
use mathlib.Core.Logic.{by_cases}
use mathlib.Core.List.{List, append-nil, ◌++◌}
use Prim.Native.Nat.{ℕ, ◌≤◌, ◌<◌}
use native.Mathlib.Omega.{arith}
use native.Mathlib.Decide.{dec_lt}
use lib.ListN.{length, take, replicate, drop_of_length-le, take-append-drop}
use lib.Seq.{length-take-le}
use borrow.Author.Tests.{lt-leb}
use Rattle.answers.specs.declared.CallQuestion.TheVariants.{TextLength}
use Rattle.answers.specs.declared.Refusal.TheVariants.{Call}
use Rattle.answers.specs.Answers.{Answer}
use Rattle.std.specs.Prelude.{Err}
use Rattle.text_form.specs.Reader.{read_text, read_answer, table_after}
use Rattle.answers.specs.Answers.{ask}
use Rattle.reduce_filter.specs.Output.{refusal_text, printed, output_of}
use Rattle.reduce_filter.specs.Input.{input_bytes}

-- "22 Are there at most 65,536 bytes?"
too_long : (ts : List ℕ) → 65536 < length ts → read_answer ts 8192 ≡ Err (Call TextLength)
unfolding read_answer read_text ask
too_long ts h = rw (lt-leb (length ts) 65536 h)

long_output : (ts : List ℕ) → 65536 < length ts → output_of ts ≡ refusal_text (Call TextLength)
unfolding output_of
long_output ts h = ap (λ (a : Answer). printed a (table_after ts (replicate 8192 0))) (too_long ts h)

take_all : (n : ℕ) (ts : List ℕ) → length ts ≤ n → take n ts ≡ ts
take_all n ts h = sym (append-nil (take n ts)) ∙ ap (λ r. take n ts ++ r) (sym (drop_of_length-le ts h)) ∙ take-append-drop n ts

-- Bytes past the buffer change nothing.
pub input_enough : (ts : List ℕ) → output_of (take input_bytes ts) ≡ output_of ts
input_enough ts = by_cases (dec_lt 65536 (length ts))
    (λ l. long_output (take 65537 ts) (omega (arith, length-take-le 65537 ts (omega arith))) ∙ sym (long_output ts l))
    (λ l. ap output_of (take_all 65537 ts (omega arith)))
