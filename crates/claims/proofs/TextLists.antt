-- Slip 5 of document 02, "Lists as they come from the grounder": of every text and every table, whatever the slices lent.
use Prim.Native.Nat.{ℕ, ◌≤◌}
use mathlib.Core.Path.{◌≡◌, sym, ap, subst, ◌∙◌}
use mathlib.Core.Logic.{◌↔◌, ◌≢◌, ◌⊎◌, inl, inr}
use mathlib.Core.Bool.{So}
use mathlib.Core.List.{List}
use lib.ListN.{length, take}
use Rattle.semantics.specs.Lists.{◌∈◌, ascending}
use Rattle.semantics.specs.Programs.{Program}
use Rattle.sorting.specs.Sorting.{sorted}
use Rattle.sorting.proofs.Sorted.{sorted_ascends, sorted_iff, sorted_is}
use Rattle.std.specs.Prelude.{Ok, Err}
use Rattle.answers.specs.declared.Refusal.{Refusal}
use Rattle.answers.specs.Refusals.{refusal_number}
use Rattle.answers.specs.Answers.{written}
use Rattle.answers.proofs.Slices.{take_written}
use Rattle.table.specs.Questions.{Passed}
use Rattle.table.specs.Encoding.{encode}
use Rattle.table.specs.Programs.{program_of}
use Rattle.table.proofs.Encoding.{encode_passes, program_encode}
use Rattle.text_form.specs.Lists.{sorted_program, InForm, Canonical}
use Rattle.text_form.specs.Reader.{stop, read_text, answer_of, slice_of, read_answer, table_after}
use Rattle.text_form.specs.Writer.{text_of, write_answer, out_after}
use Rattle.text_form.proofs.Calls.{accepted_reads, form_reads, accepted_writes, text_same}
use Rattle.text_form.proofs.Calls as calls
use Rattle.text_form.proofs.Earlier.{read_before, Changes, AsBefore, same, changed, read_before_lem}
use Rattle.text_form.proofs.Near as near
use Rattle.text_form.proofs.Unique as unique

-- "sorts it and keeps each atom once": what is kept of a list ascends, each number above the one before, and has the numbers of the list;
pub kept_of_list : (xs : List ℕ) → So (ascending (sorted xs)) × ((a : ℕ) → (a ∈ sorted xs) ↔ (a ∈ xs))
kept_of_list xs = (sorted_ascends xs, λ a. sorted_iff a xs)

-- no other list does.
pub no_other_kept : (xs l : List ℕ) → So (ascending l) → ((a : ℕ) → (a ∈ l) ↔ (a ∈ xs)) → l ≡ sorted xs
no_other_kept = sorted_is

-- "Reading a list sorts it and keeps each atom once": the answer and the slice are those of the sorted lists; what lies past their words stays as it was.
pub read_sorted : (ts table : List ℕ) (P : Program) → InForm ts P → 8192 ≤ length table
    → (read_answer ts (length table) ≡ Ok (length (encode (sorted_program P)))) × (table_after ts table ≡ written (encode (sorted_program P)) table)
read_sorted = form_reads

-- The bytes of a text give its lists.
pub lists_given : (ts : List ℕ) (P Q : Program) → InForm ts P → InForm ts Q → P ≡ Q
lists_given = unique.lists_unique

-- "question 7 is never met from text"
pub never_seven : (ts : List ℕ) (room : ℕ) (r : Refusal) → read_answer ts room ≡ Err r → refusal_number r ≢ 7
never_seven = near.never_seven

-- ---- canonical texts

-- "The writer gives the canonical text", of every table,
pub written_canonical : (ws : List ℕ) → Passed ws → Canonical (text_of ws)
written_canonical = calls.text_canonical

-- and every canonical text: those are exactly the texts that the writer gives.
pub canonical_exactly : (ts : List ℕ) → Canonical ts ↔ ((ws : List ℕ) × Passed ws × (text_of ws ≡ ts))
canonical_exactly ts = (
  λ c. (encode (sorted_program c.lists), encode_passes (sorted_program c.lists) c.form.within, calls.canonical_text ts c),
  λ (ws, p, e). subst Canonical e (written_canonical ws p),
)

-- The text of what was read is the text that was read exactly where that is canonical.
pub same_bytes_exactly : (ts table : List ℕ) (k : ℕ) → read_answer ts (length table) ≡ Ok k → (text_of (take k (table_after ts table)) ≡ ts) ↔ Canonical ts
same_bytes_exactly ts table k h = (
  λ e. subst Canonical e (written_canonical (take k (table_after ts table)) (calls.read_passes ts table k h)),
  λ c.
      let a = accepted_reads ts table k h in
      let e = lists_given ts a.lists c.lists a.form c.form in
      ap text_of (calls.table_read ts table k a ∙ ap (λ P. encode (sorted_program P)) e) ∙ calls.canonical_text ts c,
)

-- ---- "Two accepted texts give the same table exactly when the writer gives one text for both."

-- the bytes that writing a table leaves are its text
bytes_written : (ws out : List ℕ) (n : ℕ) → write_answer ws (length out) ≡ Ok n → take n (out_after ws out) ≡ text_of ws
bytes_written ws out n h = let a = accepted_writes ws out n h in ap (take n) a.after ∙ take_written (text_of ws) out n a.count

pub one_text_exactly : (ts us table table' out out' : List ℕ) (k l m n : ℕ) → read_answer ts (length table) ≡ Ok k → read_answer us (length table') ≡ Ok l
    → write_answer (take k (table_after ts table)) (length out) ≡ Ok m → write_answer (take l (table_after us table')) (length out') ≡ Ok n
    → (take k (table_after ts table) ≡ take l (table_after us table')) ↔ (take m (out_after (take k (table_after ts table)) out) ≡ take n (out_after (take l (table_after us table')) out'))
one_text_exactly ts us table table' out out' k l m n g h v w =
    let s = bytes_written (take k (table_after ts table)) out m v in
    let t = bytes_written (take l (table_after us table')) out' n w in
    (λ e. s ∙ ap text_of e ∙ sym t, λ e. text_same _ _ (calls.read_passes ts table k g) (calls.read_passes us table' l h) (sym s ∙ e ∙ t))

-- They give the same table exactly when their lists are the same once sorted.
pub one_table_exactly : (ts us table table' : List ℕ) (k l : ℕ) (P Q : Program) → InForm ts P → InForm us Q → read_answer ts (length table) ≡ Ok k → read_answer us (length table') ≡ Ok l
    → (take k (table_after ts table) ≡ take l (table_after us table')) ↔ (sorted_program P ≡ sorted_program Q)
one_table_exactly ts us table table' k l P Q f g h i =
    let a = accepted_reads ts table k h in
    let b = accepted_reads us table' l i in
    let s = calls.table_read ts table k a ∙ ap (λ P. encode (sorted_program P)) (lists_given ts a.lists P a.form f) in
    let t = calls.table_read us table' l b ∙ ap (λ P. encode (sorted_program P)) (lists_given us b.lists Q b.form g) in
    (λ e. sym (program_encode (sorted_program P)) ∙ ap program_of (sym s ∙ e ∙ t) ∙ program_encode (sorted_program Q), λ e. s ∙ ap encode e ∙ sym t)

-- ---- what changed

-- Reading a text answers as before, and leaves the same words, save where it was refused by 7 or by 26.
pub read_as_before : (ts table : List ℕ)
    → ((r : Refusal) × (read_before ts (length table) ≡ stop r) × Changes r) ⊎ ((answer_of (read_before ts (length table)) ≡ read_answer ts (length table)) × (slice_of (read_before ts (length table)) table ≡ table_after ts table))
unfolding read_answer table_after
read_as_before ts table = go (read_before_lem ts (length table))
  where
    go : AsBefore (read_before ts (length table)) (read_text ts (length table))
        → ((r : Refusal) × (read_before ts (length table) ≡ stop r) × Changes r) ⊎ ((answer_of (read_before ts (length table)) ≡ answer_of (read_text ts (length table))) × (slice_of (read_before ts (length table)) table ≡ slice_of (read_text ts (length table)) table))
    go (same e) = inr (ap answer_of e, ap (λ x. slice_of x table) e)
    go (changed r e c) = inl (r, e, c)
