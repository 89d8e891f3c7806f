-- From what the reader's call leaves to the whole output.
use mathlib.Core.Path.{◌≡◌, sym, ap, subst, subst₂, ◌∙◌}
use mathlib.Core.List.{List}
use Prim.Native.Nat.{ℕ, ◌≤◌}
use native.Mathlib.Omega.{arith}
use lib.ListN.{length, length-append, take, drop, replicate, length-replicate}
use Rattle.semantics.specs.Programs.{Program}
use Rattle.answers.specs.declared.Refusal.{Refusal}
use Rattle.table.specs.Questions.{Passed}
use Rattle.table.specs.Encoding.{encode}
use Rattle.answers.specs.Answers.{Answer}
use Rattle.std.specs.Prelude.{Ok, Err}
use Rattle.answers.specs.Refusals.{refusal_number, refusal_place}
use Rattle.answers.specs.Answers.{written, Small}
use Rattle.answers.proofs.Numbers.{number_range}
use Rattle.text_form.specs.Lists.{sorted_program}
use Rattle.text_form.specs.Reader.{read_answer, table_after}
use Rattle.text_form.specs.Stored.{Puts}
use Rattle.answers.proofs.Slices.{sets_written}
use Rattle.text_form.proofs.Calls.{accepted_reads, read_passes}
use Rattle.text_form.proofs.Near.{read_small}
use Rattle.reduce_filter.specs.declared.Printed.{Printed}
use Rattle.reduce_filter.specs.Output.{reduced_text, refusal_text, printed, output_of, is_refused, output_bytes, Prints}

-- the reader's local words
abbrev blank : List ℕ
blank = replicate 8192 0

blank_long : length blank ≡ 8192
blank_long = length-replicate {A = ℕ} 8192 0

-- what the reader's call said, of a slice of 8,192 words
said_of : (ts : List ℕ) (a : Answer) → read_answer ts (length blank) ≡ a → read_answer ts 8192 ≡ a
said_of ts a h = subst (λ n. read_answer ts n ≡ a) blank_long h

-- ---- a text that is read

-- its words pass questions 1 to 8
pub read_passed : (ts : List ℕ) (k : ℕ) → read_answer ts 8192 ≡ Ok k → Passed (take k (table_after ts blank))
read_passed ts k h = read_passes ts blank k (subst (λ n. read_answer ts n ≡ Ok k) (sym blank_long) h)

module _ (ts new : List ℕ) (k : ℕ) (h : read_answer ts (length blank) ≡ Ok k) (e : new ≡ table_after ts blank) where
  abbrev the_program : Program
  the_program = sorted_program (accepted_reads ts blank k h).lists

  words_are : new ≡ written (encode the_program) blank
  words_are = e ∙ (accepted_reads ts blank k h).after

  pub words_inside : k ≤ length new
  words_inside =
      let a = accepted_reads ts blank k h in
      rw words_are (omega (arith, length-append (encode the_program) (drop (length (encode the_program)) blank), a.count))

  pub words_passed : Passed (take k new)
  words_passed = rw e (read_passed ts k (said_of ts (Ok k) h))

  pub words_output : reduced_text (take k new) ≡ output_of ts
  unfolding output_of
  words_output = ap (λ t. reduced_text (take k t)) e ∙ sym (ap (λ a. printed a (table_after ts blank)) (said_of ts (Ok k) h))

-- ---- a text that is refused

-- its number and place are numbers that can be written
pub refused_small : (ts : List ℕ) (room : ℕ) (r : Refusal) → read_answer ts room ≡ Err r → (refusal_number r ≤ 65536) × (refusal_place r ≤ 65536)
refused_small ts room r h = (omega (arith, (number_range r).1), subst Small h (read_small ts room))

pub refused_output : (ts : List ℕ) (r : Refusal) → read_answer ts (length blank) ≡ Err r → refusal_text r ≡ output_of ts
unfolding output_of
refused_output ts r h = sym (ap (λ a. printed a (table_after ts blank)) (said_of ts (Err r) h))

-- ---- the output in the slice

pub puts_prints : (ts old w new bs : List ℕ) (at : ℕ) (lent : List ℕ) (r : Printed) (a : Answer) → read_answer ts (length blank) ≡ a → r.refused ≡ is_refused a
    → output_bytes ≤ length old → length bs ≤ 223170 → bs ≡ output_of ts → lent ≡ old → at ≡ 0 → Puts lent w at r.bytes bs → new ≡ w → Prints ts old new r
puts_prints ts old w new bs at lent r a h q l b e s z p n =
    let first : Puts old w 0 r.bytes bs = subst₂ (λ x i. Puts x w i r.bytes bs) s z p in
    record {
      count = omega (arith, first.next, ap length e);
      bytes = n ∙ first.holds ∙ sets_written bs old (omega arith) ∙ ap (λ t. written t old) e;
      fits = omega (arith, first.next);
      refused = q ∙ ap is_refused (sym (said_of ts a h));
    }
