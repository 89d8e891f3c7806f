-- What reading and writing a text answer, and what they leave in the slice lent, by what the text or the table is.
use Prim.Native.Nat.{ℕ, ◌≤◌}
use mathlib.Core.Path.{◌≡◌, refl, sym, ap, ◌∙◌}
use mathlib.Core.List.{List}
use native.Mathlib.Omega.{arith}
use lib.ListN.{length, take, replicate, length-replicate}
use lib.Dec.{leb}
use borrow.Author.Tests.{le-leb}
use Rattle.semantics.specs.Programs.{Program}
use Rattle.answers.specs.declared.Refusal.{Refusal}
use Rattle.answers.specs.declared.CallQuestion.TheVariants.{TextRoom}
use Rattle.answers.specs.declared.Refusal.TheVariants.{Call}
use Rattle.table.specs.Questions.{table_of, on_table, Passed}
use Rattle.table.specs.Encoding.{encode, Within}
use Rattle.table.specs.Programs.{program_of}
use Rattle.table.proofs.Encoding.{encode_passes, passed_encode, passed_within, program_encode, valid_passed}
use Rattle.std.specs.Prelude.{Ok, Err}
use Rattle.answers.proofs.Asked.{ask_taken}
use Rattle.table.proofs.Laws.{on_taken}
use Rattle.answers.proofs.Slices.{take_written}
use Rattle.text_form.specs.Render.{render}
use Rattle.text_form.specs.Lists.{sorted_program, InForm, Canonical}
use Rattle.answers.specs.Answers.{ask, written, written_if}
use Rattle.text_form.specs.Reader.{Read, done, stop, read_text, answer_of, read_answer, slice_of, table_after}
use Rattle.text_form.specs.Writer.{text_of, write_answer, out_after}
use Rattle.text_form.proofs.Texts.{read_form, read_inv, render_short, render_form, render_canonical, program_same, within_ascends}

-- ---- reading

-- a text that is read has the form, and the table slice then has the words of its lists, sorted
pub record Reads (ts table : List ℕ) (k : ℕ) : Type 0 where
  pub lists : Program
  pub form : InForm ts lists
  pub count : k ≡ length (encode (sorted_program lists))
  pub after : table_after ts table ≡ written (encode (sorted_program lists)) table

pub accepted_reads : (ts table : List ℕ) (k : ℕ) → read_answer ts (length table) ≡ Ok k → Reads ts table k
unfolding read_answer table_after
accepted_reads ts table k h = go (read_text ts (length table)) refl h
  where
    go : (x : Read Program) → read_text ts (length table) ≡ x → answer_of x ≡ Ok k → Reads ts table k
    go (done P e) q h = let r = read_inv ts (length table) P e q in record { lists = r.lists; form = r.form; count = rw r.kept (cc); after = rw (q, r.kept) }
    go (stop r) q h = let z : ◌≡◌ {A = ℕ} 0 1 = cc in absurd (omega arith)

-- the words that it leaves are those of its lists, sorted,
pub table_read : (ts table : List ℕ) (k : ℕ) (a : Reads ts table k) → take k (table_after ts table) ≡ encode (sorted_program a.lists)
table_read ts table k a = ap (take k) a.after ∙ take_written (encode (sorted_program a.lists)) table k a.count

-- and pass questions 1 to 8
pub read_passes : (ts table : List ℕ) (k : ℕ) → read_answer ts (length table) ≡ Ok k → Passed (take k (table_after ts table))
read_passes ts table k h = let a = accepted_reads ts table k h in rw (table_read ts table k a) (encode_passes (sorted_program a.lists) a.form.within)

-- a text of the form is read
pub form_reads : (ts table : List ℕ) (P : Program) → InForm ts P → 8192 ≤ length table
    → (read_answer ts (length table) ≡ Ok (length (encode (sorted_program P)))) × (table_after ts table ≡ written (encode (sorted_program P)) table)
unfolding read_answer table_after
form_reads ts table P f big = let (e, q) = read_form ts P (length table) f big in (ap answer_of q, ap (λ x. slice_of x table) q)

-- the text of a program within the limits is read as that program
pub render_reads : (P : Program) (table : List ℕ) → Within P → 8192 ≤ length table
    → (read_answer (render P) (length table) ≡ Ok (length (encode P))) × (table_after (render P) table ≡ written (encode P) table)
render_reads P table g big = rw (program_same P (within_ascends P g)) at (form_reads (render P) table P (render_form P g) big)

pub read_refused : (ts table : List ℕ) (r : Refusal) → read_answer ts (length table) ≡ Err r → table_after ts table ≡ table
unfolding read_answer table_after
read_refused ts table r h = go (read_text ts (length table)) h
  where
    go : (x : Read Program) → answer_of x ≡ Err r → slice_of x table ≡ table
    go (done P e) h = let z : ◌≡◌ {A = ℕ} 0 1 = cc in absurd (omega arith)
    go (stop s) h = refl

-- ---- writing

-- the text of a table that passes
pub text_encode : (P : Program) → text_of (encode P) ≡ render P
unfolding text_of
text_encode P = ap render (program_encode P)

pub text_short : (ws : List ℕ) → Passed ws → length (text_of ws) ≤ 43022
unfolding text_of
text_short ws p = render_short _ (passed_within ws p)

-- a table whose text is written has passed, and the slice then begins with its text
pub record Writes (ws out : List ℕ) (n : ℕ) : Type 0 where
  pub passed : Passed ws
  pub count : n ≡ length (text_of ws)
  pub after : out_after ws out ≡ written (text_of ws) out

pub accepted_writes : (ws out : List ℕ) (n : ℕ) → write_answer ws (length out) ≡ Ok n → Writes ws out n
unfolding write_answer out_after written_if on_table ask
accepted_writes ws out n h =
    let (t, q, a) = on_taken (table_of ws) _ n h in
    let (l, b) = ask_taken (leb (length (text_of ws)) (length out)) (Call TextRoom) _ n a in
    record { passed = (valid_passed ws t q).0; count = cc; after = rw (q, l) }

-- a table that passes is written where its text fits
pub passed_writes : (ws out : List ℕ) → Passed ws → length (text_of ws) ≤ length out
    → (write_answer ws (length out) ≡ Ok (length (text_of ws))) × (out_after ws out ≡ written (text_of ws) out)
unfolding write_answer out_after written_if on_table ask
passed_writes ws out p l = rw (p.valid, le-leb (length (text_of ws)) (length out) l) (refl, refl)

pub write_refused : (ws out : List ℕ) (r : Refusal) → write_answer ws (length out) ≡ Err r → out_after ws out ≡ out
unfolding out_after written_if
write_refused ws out r h = rw h

-- the text of a table that passes is read as that table
pub text_reads : (ws table : List ℕ) → Passed ws → 8192 ≤ length table
    → (read_answer (text_of ws) (length table) ≡ Ok (length ws)) × (table_after (text_of ws) table ≡ written ws table)
unfolding text_of
text_reads ws table p big = rw (passed_encode ws p) at (render_reads (program_of ws) table (passed_within ws p) big)

-- "The writer gives the canonical text."
pub text_canonical : (ws : List ℕ) → Passed ws → Canonical (text_of ws)
unfolding text_of
text_canonical ws p = render_canonical (program_of ws) (passed_within ws p)

-- a canonical text is the text of the table that is read from it
pub canonical_text : (ts : List ℕ) (c : Canonical ts) → text_of (encode (sorted_program c.lists)) ≡ ts
canonical_text ts c = text_encode (sorted_program c.lists) ∙ ap render (program_same c.lists c.ascends) ∙ c.form.text

-- tables that pass and have one text are the same
pub text_same : (vs ws : List ℕ) → Passed vs → Passed ws → text_of vs ≡ text_of ws → vs ≡ ws
text_same vs ws p q e =
    let table = replicate {A = ℕ} 8192 0 in
    let big : 8192 ≤ length table = omega (arith, length-replicate {A = ℕ} 8192 0) in
    let (a, b) = text_reads vs table p big in
    let (c, d) = rw (← e) at (text_reads ws table q big) in
    let l : length vs ≡ length ws = cc in
    sym (take_written vs table (length vs) refl) ∙ ap (take (length vs)) (sym b ∙ d) ∙ take_written ws table (length vs) l
