-- What is printed for a text that is read: the text of the reduced table, which reads back as that table, then the steps.
use mathlib.Core.Path.{◌≡◌, refl, sym, ap, ap₂, subst, ◌∙◌}
use mathlib.Core.List.{List, ◌++◌}
use Prim.Native.Nat.{ℕ, ◌≤◌}
use native.Mathlib.Omega.{arith}
use lib.ListN.{length, take, replicate, length-replicate}
use Rattle.semantics.specs.Programs.{Program}
use Rattle.table.specs.Encoding.{encode}
use Rattle.table.proofs.Encoding.{encode_passes}
use Rattle.reduced_sizes.specs.Leaves.{reduced}
use Rattle.reduced_sizes.proofs.Limits.{reduced_passes}
use Rattle.std.specs.Prelude.{Ok}
use Rattle.reducer_results.specs.Reductions.{steps_of}
use Rattle.answers.specs.Answers.{Answer}
use Rattle.text_form.specs.Render.{render}
use Rattle.text_form.specs.Lists.{sorted_program, InForm}
use Rattle.answers.specs.Answers.{written}
use Rattle.text_form.specs.Reader.{read_answer, table_after}
use Rattle.text_form.specs.Writer.{text_of}
use Rattle.answers.proofs.Slices.{take_written}
use Rattle.text_form.proofs.Calls.{form_reads, render_reads, text_reads}
use Rattle.reduce_filter.specs.Output.{list_lines, reduction_of, reduced_text, printed, output_of}
use Rattle.reduce_filter.proofs.Output.{always_reduced, reduced_text_lem}

-- the reduced table of a program, by the reducer's marks
abbrev pub reduced_table : Program → List ℕ
reduced_table P = reduced (encode P) (reduction_of (encode P)).marks

pub record ReadsBack (ts : List ℕ) (P : Program) (table : List ℕ) : Type 0 where
  pub s : ℕ
  pub taken : (reduction_of (encode P)).answer ≡ Ok s
  -- "prints the reduced program, then steps= with the count, then one line a step"
  pub output : output_of ts ≡ text_of (reduced_table P) ++ list_lines (reduction_of (encode P)).list s
  -- the printed program is read as the reduced table
  pub reads : read_answer (text_of (reduced_table P)) (length table) ≡ Ok (length (reduced_table P))
  pub after : table_after (text_of (reduced_table P)) table ≡ written (reduced_table P) table

-- For every text of the form, its lists sorted, and every slice of 8,192 words to read what is printed into again.
pub printed_reads : (ts : List ℕ) (P : Program) → InForm ts P → (table : List ℕ) → 8192 ≤ length table → ReadsBack ts (sorted_program P) table
unfolding output_of
printed_reads ts P f table big =
    let ws = encode (sorted_program P) in
    let p = encode_passes (sorted_program P) f.within in
    let blank : List ℕ = replicate 8192 0 in
    let long : length blank ≡ 8192 = length-replicate {A = ℕ} 8192 0 in
    let (a, b) = form_reads ts blank P f (omega arith) in
    let said : read_answer ts 8192 ≡ Ok (length ws) = subst (λ n. read_answer ts n ≡ Ok (length ws)) long a in
    let h = always_reduced ws p in
    let back = text_reads (reduced_table (sorted_program P)) table (reduced_passes ws (reduction_of ws).marks p) big in
    record {
      s = length (steps_of ws);
      taken = h;
      output = ap (λ (x : Answer). printed x (table_after ts blank)) said
          ∙ ap (λ t. reduced_text (take (length ws) t)) b
          ∙ ap reduced_text (take_written ws blank (length ws) refl)
          ∙ reduced_text_lem ws (length (steps_of ws)) h;
      reads = back.0;
      after = back.1;
    }

-- "Every caller of the list reading follows": what is printed is what is printed for the canonical text of the same program.
pub printed_sorted : (ts : List ℕ) (P : Program) → InForm ts P → output_of ts ≡ output_of (render (sorted_program P))
unfolding output_of
printed_sorted ts P f =
    let blank : List ℕ = replicate 8192 0 in
    let long : length blank ≡ 8192 = length-replicate {A = ℕ} 8192 0 in
    let (a, b) = form_reads ts blank P f (omega arith) in
    let (c, d) = render_reads (sorted_program P) blank f.within (omega arith) in
    ap₂ printed (subst (λ n. read_answer ts n ≡ read_answer (render (sorted_program P)) n) long (a ∙ sym c)) (b ∙ sym d)
