-- How reading and writing text go.
use mathlib.Core.Path.{◌≡◌, refl}
use mathlib.Core.Bool.{Bool, true, false}
use mathlib.Core.List.{List}
use Prim.Native.Nat.{ℕ, ◌≤◌, ◌<◌}
use lib.Dec.{leb}
use lib.ListN.{length}
use borrow.Author.Tests.{leb-true, leb-false}
use Rattle.semantics.specs.Programs.{Program}
use Rattle.answers.specs.declared.CallQuestion.TheVariants.{TextRoom}
use Rattle.answers.specs.declared.Refusal.{Refusal}
use Rattle.answers.specs.declared.Refusal.TheVariants.{Call}
use Rattle.answers.specs.Answers.{Answer}
use Rattle.std.specs.Prelude.{Ok, Err}
use Rattle.answers.specs.Answers.{ask}
use Rattle.answers.proofs.Asked.{refused_taken}
use Rattle.table.specs.Questions.{Checked}
use Rattle.table.specs.Questions.{Passed, table_of, on_table}
use Rattle.table.proofs.Encoding.{valid_passed}
use Rattle.text_form.specs.Lists.{InForm}
use Rattle.text_form.specs.Reader.{Read, done, stop, read_text, answer_of, read_answer}
use Rattle.text_form.specs.Writer.{text_of, write_answer}
use Rattle.text_form.proofs.Lines.{ask_inv}
use Rattle.text_form.proofs.Texts.{read_inv}

-- ---- reading text

read_roomy : (ts : List ℕ) (room : ℕ) (P : Program) (e : ℕ) → read_text ts room ≡ done P e → 8192 ≤ room
unfolding read_text
read_roomy ts room P e h = leb-true _ _ (ask_inv _ _ _ P e (ask_inv _ _ _ P e h).1).0

pub read_accepted : (ts : List ℕ) (room k : ℕ) → read_answer ts room ≡ Ok k → (8192 ≤ room) × ((P : Program) × InForm ts P)
unfolding read_answer
read_accepted ts room k = go (read_text ts room) refl
  where
    go : (x : Read Program) → read_text ts room ≡ x → answer_of x ≡ Ok k → (8192 ≤ room) × ((P : Program) × InForm ts P)
    go (done P e) q h = let r = read_inv ts room P e q in (read_roomy ts room P e q, (r.lists, r.form))
    go (stop r) q h = absurd (refused_taken r k h)

-- ---- writing text

-- by the first question that gets a no, or with every question answered yes
pub data WritingGoes (ws : List ℕ) (room : ℕ) : Answer → Type 0 where
  table : (r : Refusal) → table_of ws ≡ Err r → WritingGoes ws room (Err r)
  short : Passed ws → room < length (text_of ws) → WritingGoes ws room (Err (Call TextRoom))
  made : Passed ws → length (text_of ws) ≤ room → WritingGoes ws room (Ok (length (text_of ws)))

pub writing_goes : (ws : List ℕ) (room : ℕ) → WritingGoes ws room (write_answer ws room)
unfolding write_answer on_table ask
writing_goes ws room = by_table (table_of ws) refl
  where
    by_room : Passed ws → (b : Bool) → leb (length (text_of ws)) room ≡ b → WritingGoes ws room (ask Err b (Call TextRoom) (Ok (length (text_of ws))))
    by_room p true e = made p (leb-true _ _ e)
    by_room p false e = short p (leb-false _ _ e)

    by_table : (c : Checked) → table_of ws ≡ c → WritingGoes ws room (on_table Err c (ask Err (leb (length (text_of ws)) room) (Call TextRoom) (Ok (length (text_of ws)))))
    by_table (Ok t) e = by_room (valid_passed ws t e).0 (leb (length (text_of ws)) room) refl
    by_table (Err r) e = table r e
