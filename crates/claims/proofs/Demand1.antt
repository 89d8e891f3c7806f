-- Demand 1: whoever calls, with any words, bytes, marks or list of steps, is taken, or refused by the number and place of the first question that gets a no.
-- Which calls are taken, each exactly; that "does not fit" is said exactly where the slice is too short; and that a refused call changes nothing.
-- The numbers and places of the other refusals are in the tables `Refusals` and `Examples`.
use mathlib.Core.Path.{◌≡◌, refl, sym, ap, subst, ◌∙◌}
use mathlib.Core.Logic.{◌↔◌, inl}
use mathlib.Core.Bool.{So}
use mathlib.Core.List.{List}
use mathlib.Core.Option.{none}
use Prim.Native.Nat.{ℕ, ◌+◌, ◌*◌, ◌/◌, ◌≤◌, ◌<◌}
use native.Mathlib.Omega.{arith}
use lib.ListN.{length, get_or, take}
use Rattle.semantics.specs.Lists.{bit}
use Rattle.semantics.specs.Programs.{Program}
use Rattle.semantics.specs.Decide.{stable_test}
use Rattle.semantics.proofs.Tests.{not_so}
use Rattle.answers.specs.declared.Refusal.{Refusal}
use Rattle.std.specs.Prelude.{Ok, Err}
use Rattle.table.specs.Questions.{Passed, table_of, on_table}
use Rattle.table.specs.Encoding.{Within, encode}
use Rattle.table.specs.Programs.{program_of}
use Rattle.table.specs.View.{all_kept}
use Rattle.table.proofs.Encoding.{passed_iff, valid_passed}
use Rattle.table.proofs.Refused.{table_refused}
use Rattle.step_lists.specs.Lists.{steps_from, list_fits, check_list}
use Rattle.step_lists.proofs.Walks.{verdict_on, check_made}
use Rattle.answers.proofs.Asked.{refused_taken}
use Rattle.table.proofs.Laws.{on_taken}
use Rattle.reducer_results.specs.Reductions as reductions
use Rattle.reducer_results.specs.Reductions.{Reduction, reduction}
use Rattle.answers.specs.Answers.{Answer}
use Rattle.reduced_table.specs.Reduced.{reduced_answer}
use Rattle.reduced_sizes.specs.Leaves.{reduced}
use Rattle.models_test.proofs.Answered as stability
use Rattle.models_list.specs.Answer.{model_words, models_answer}
use Rattle.dependency.specs.Decide.{cyclic}
use Rattle.cycle.proofs.Answered as cycles
use Rattle.text_form.specs.Lists.{sorted_program, InForm}
use Rattle.text_form.specs.Reader.{answer_of, read_answer, table_after}
use Rattle.text_form.specs.Writer.{text_of, write_answer, out_after}
use Rattle.text_form.proofs.Texts.{read_form}
use Rattle.text_form.proofs.Calls.{read_refused, write_refused}
use Rattle.claims.proofs.Said.{value, refusal, said_by, table_call, check_call, reduce_call, reduced_call, test_call, models_call, cycle_call, read_call, write_call, says, IsTaken, first_no}
use Rattle.claims.proofs.Calls as calls
use Rattle.claims.proofs.Models as listing
use Rattle.claims.proofs.Lists.{checked_asked, accepted_marks}
use Rattle.claims.proofs.Steps.{Fine_at, front_made, each_fine, all_fine, none_fine}
use Rattle.claims.proofs.Reductions as reducing
use Rattle.claims.proofs.Reduced as compacting
use Rattle.claims.proofs.Reduced.{Passed10, not_both}
use Rattle.claims.proofs.Demand2.{Asked, asked_iff}
pub use Rattle.claims.proofs.Lists.{refused_marks}
pub use Rattle.claims.proofs.Reductions.{reducer_refused}
pub use Rattle.claims.proofs.Reduced.{reduced_refused}
pub use Rattle.claims.proofs.Models.{models_refused}

-- ---- a call that passes its questions is taken, and no other is

-- 1 to 8: the words of a program within the limits
pub table_taken : (ws : List ℕ) → IsTaken (table_call ws) ↔ ((P : Program) × Within P × (encode P ≡ ws))
unfolding on_table
table_taken ws = (
  λ h. let (t, e, a) = on_taken (table_of ws) _ h.0 h.1 in (passed_iff ws).0 (valid_passed ws t e).0,
  λ h. (0, ap (λ c. on_table Err c (Ok 0)) ((passed_iff ws).1 h).valid),
)

-- step k gets a yes to 12 to 16, 29 and 32 on the marks that the steps before it leave
abbrev pub Yes : List ℕ → List ℕ → List ℕ → ℕ → Type 0
Yes ws ms ls k = first_no ws (check_list ws ms (take (4 * k) ls)).marks ls k ≡ none

-- 9, 11, then 12 to 15, 29, 32 and 16 of each step
pub check_taken : (ws ms ls : List ℕ) → IsTaken (check_call ws ms ls) ↔ (Passed ws × (length ws ≤ length ms) × So (list_fits ls) × ((k : ℕ) → k < length ls / 4 → Yes ws ms ls k))
check_taken ws ms ls = (
  λ h.
      let e = h.1 in
      let (p, l, f) = checked_asked ws ms ls (inl (h.0, e)) in
      let m = (accepted_marks ws ms ls h.0 e).0 in
      (p, l, f, λ k b. yes k p l f b (each_fine ws ls (length ls / 4) 0 (all_kept ws ms) h.0 (ap (λ o. o.answer) (sym m) ∙ e) k b)),
  λ (p, l, f, y). (
    0 + length ls / 4,
    ap (λ o. o.answer) (check_made ws ms ls _ p.valid l f) ∙ all_fine ws ls (length ls / 4) 0 (all_kept ws ms) (λ k b. fine k p l f b (y k b)),
  ),
)
  where
    front : (k : ℕ) → Passed ws → length ws ≤ length ms → So (list_fits ls) → k < length ls / 4 → check_list ws ms (take (4 * k) ls) ≡ steps_from ws (all_kept ws ms) ls 0 k
    front k p l f b = front_made ws ms ls k p l f (omega arith)

    yes : (k : ℕ) → Passed ws → length ws ≤ length ms → So (list_fits ls) → k < length ls / 4 → Fine_at ws ls (all_kept ws ms) 0 k → Yes ws ms ls k
    yes k p l f b h = let z : 0 + k ≡ k = omega arith in rw (front k p l f b) ((none_fine ws (steps_from ws (all_kept ws ms) ls 0 k).marks ls k).1 (subst (λ i. verdict_on ws (steps_from ws (all_kept ws ms) ls 0 k).marks ls i ≡ Ok tt) z h))

    fine : (k : ℕ) → Passed ws → length ws ≤ length ms → So (list_fits ls) → k < length ls / 4 → Yes ws ms ls k → Fine_at ws ls (all_kept ws ms) 0 k
    fine k p l f b h = let z : 0 + k ≡ k = omega arith in subst (λ i. verdict_on ws (steps_from ws (all_kept ws ms) ls 0 k).marks ls i ≡ Ok tt) (sym z) ((none_fine ws (steps_from ws (all_kept ws ms) ls 0 k).marks ls k).0 (rw (front k p l f b) at h))

-- 9 and 17
pub reduce_taken : (ws ms ls : List ℕ) → IsTaken (reduce_call ws ms ls) ↔ (Passed ws × (length ws ≤ length ms) × (4 * reductions.room ws ≤ length ls))
reduce_taken ws ms ls = go (reduction ws ms ls) (reducing.reducer_goes ws ms ls)
  where
    go : (o : Reduction) → reducing.ReducerGoes ws ms ls o → ((k : ℕ) × (o.answer ≡ Ok k)) ↔ (Passed ws × (length ws ≤ length ms) × (4 * reductions.room ws ≤ length ls))
    go o (reducing.table r e) = (λ h. absurd (refused_taken _ _ h.1), λ h. absurd (not_both h.0 e))
    go o (reducing.marks p s) = (λ h. absurd (refused_taken _ _ h.1), λ h. absurd (omega (arith, h.1)))
    go o (reducing.room p l s) = (λ h. absurd (refused_taken _ _ h.1), λ h. absurd (omega (arith, h.2)))
    go o (reducing.made p l s) = (λ h. (p, l, s), λ h. (_, refl))

-- 9, 10 and 18
pub reduced_taken : (ws ms out : List ℕ) → IsTaken (reduced_call ws ms out) ↔ (Passed10 ws ms × (length (reduced ws ms) ≤ length out))
reduced_taken ws ms out = go (reduced_answer ws ms out) (compacting.reduced_goes ws ms out)
  where
    go : (a : Answer) → compacting.ReducedGoes ws ms out a → ((k : ℕ) × (a ≡ Ok k)) ↔ (Passed10 ws ms × (length (reduced ws ms) ≤ length out))
    go a (compacting.table r e) = (λ h. absurd (refused_taken _ _ h.1), λ h. absurd (not_both h.0.passed e))
    go a (compacting.few p s) = (λ h. absurd (refused_taken _ _ h.1), λ h. absurd (omega (arith, h.0.marked)))
    go a (compacting.mark p l i f) = (λ h. absurd (refused_taken _ _ h.1), λ h. absurd (not_so f.fails (h.0.marks i (omega (arith, f.within)))))
    go a (compacting.room y s) = (λ h. absurd (refused_taken _ _ h.1), λ h. absurd (omega (arith, h.1)))
    go a (compacting.made y s) = (λ h. (y, s), λ h. (_, refl))

-- 19 to 21
pub test_taken : (ws set : List ℕ) → IsTaken (test_call ws set) ↔ Asked ws set
test_taken ws set = (
  λ h. (asked_iff ws set).1 (stability.taken_testable ws set h.0 h.1),
  λ h. (bit (stable_test (program_of ws) set), (stability.accepted_iff ws set _).1 ((asked_iff ws set).0 h, refl)),
)

-- 30 and 31
pub models_taken : (ws : List ℕ) (room : ℕ) → IsTaken (models_call ws room) ↔ (Passed ws × (get_or ws 0 0 ≤ 16) × (length (model_words ws) ≤ room))
models_taken ws room = go (models_answer ws room) (listing.listing_goes ws room)
  where
    go : (a : Answer) → listing.ListingGoes ws room a → ((k : ℕ) × (a ≡ Ok k)) ↔ (Passed ws × (get_or ws 0 0 ≤ 16) × (length (model_words ws) ≤ room))
    go a (listing.table r e) = (λ h. absurd (refused_taken _ _ h.1), λ h. absurd (not_both h.0 e))
    go a (listing.many p s) = (λ h. absurd (refused_taken _ _ h.1), λ h. absurd (omega (arith, h.1)))
    go a (listing.short p f s) = (λ h. absurd (refused_taken _ _ h.1), λ h. absurd (omega (arith, h.2)))
    go a (listing.made p f s) = (λ h. (p, f, s), λ h. (_, refl))

-- no question of its own
pub cycle_taken : (ws : List ℕ) → IsTaken (cycle_call ws) ↔ Passed ws
cycle_taken ws = (
  λ h. cycles.taken_passed ws h.0 h.1,
  λ p. (bit (cyclic (program_of ws).clauses), (cycles.accepted_iff ws _).1 (p, refl)),
)

-- 22 to 27, with 2, 3 and 6: a slice of 8,192 words, and a text of the form
pub read_taken : (ts : List ℕ) (room : ℕ) → IsTaken (read_call ts room) ↔ ((8192 ≤ room) × ((P : Program) × InForm ts P))
unfolding read_answer
read_taken ts room = (
  λ h. calls.read_accepted ts room h.0 h.1,
  λ (b, (P, f)). (length (encode (sorted_program P)), ap answer_of (read_form ts P room f b).1),
)

-- 28
pub write_taken : (ws : List ℕ) (room : ℕ) → IsTaken (write_call ws room) ↔ (Passed ws × (length (text_of ws) ≤ room))
write_taken ws room = go (write_answer ws room) (calls.writing_goes ws room)
  where
    go : (a : Answer) → calls.WritingGoes ws room a → ((k : ℕ) × (a ≡ Ok k)) ↔ (Passed ws × (length (text_of ws) ≤ room))
    go a (calls.table r e) = (λ h. absurd (refused_taken _ _ h.1), λ h. absurd (not_both h.0 e))
    go a (calls.short p s) = (λ h. absurd (refused_taken _ _ h.1), λ h. absurd (omega (arith, h.1)))
    go a (calls.made p s) = (λ h. (p, s), λ h. (_, refl))

-- ---- "does not fit" is said exactly where all before it is answered yes and the slice is too short

never : {k a b : ℕ} → value k ≡ refusal a b → ⊥
never e = let z : ◌≡◌ {A = ℕ} 0 1 = cc in omega arith

number_is : {a b c d : ℕ} → refusal a b ≡ refusal c d → a ≡ c
number_is e = cc

early : (ws : List ℕ) (r : Refusal) (n place : ℕ) → 8 < n → table_of ws ≡ Err r → said_by (Err r) ≡ refusal n place → ⊥
early ws r n place l e h = omega (arith, (table_refused ws r e).0, number_is h)

-- 17 "Has the list at least 4 times (m plus all body literals) words?"
pub reducer_room : (ws ms ls : List ℕ) → (says (reduce_call ws ms ls) ≡ refusal 17 0) ↔ (Passed ws × (length ws ≤ length ms) × (length ls < 4 * reductions.room ws))
reducer_room ws ms ls = go (reduction ws ms ls) (reducing.reducer_goes ws ms ls)
  where
    go : (o : Reduction) → reducing.ReducerGoes ws ms ls o → (said_by o.answer ≡ refusal 17 0) ↔ (Passed ws × (length ws ≤ length ms) × (length ls < 4 * reductions.room ws))
    go o (reducing.table r e) = (λ h. absurd (early ws r 17 0 (omega arith) e h), λ h. absurd (not_both h.0 e))
    go o (reducing.marks p s) = (λ h. absurd (omega (arith, number_is h)), λ h. absurd (omega (arith, h.1)))
    go o (reducing.room p l s) = (λ h. (p, l, s), λ h. refl)
    go o (reducing.made p l s) = (λ h. absurd (never h), λ h. absurd (omega (arith, h.2)))

-- 18 "Does the result fit?"
pub reduced_room : (ws ms out : List ℕ) → (says (reduced_call ws ms out) ≡ refusal 18 0) ↔ (Passed10 ws ms × (length out < length (reduced ws ms)))
reduced_room ws ms out = go (reduced_answer ws ms out) (compacting.reduced_goes ws ms out)
  where
    go : (a : Answer) → compacting.ReducedGoes ws ms out a → (said_by a ≡ refusal 18 0) ↔ (Passed10 ws ms × (length out < length (reduced ws ms)))
    go a (compacting.table r e) = (λ h. absurd (early ws r 18 0 (omega arith) e h), λ h. absurd (not_both h.0.passed e))
    go a (compacting.few p s) = (λ h. absurd (omega (arith, number_is h)), λ h. absurd (omega (arith, h.0.marked)))
    go a (compacting.mark p l i f) = (λ h. absurd (omega (arith, number_is h)), λ h. absurd (not_so f.fails (h.0.marks i (omega (arith, f.within)))))
    go a (compacting.room y s) = (λ h. (y, s), λ h. refl)
    go a (compacting.made y s) = (λ h. absurd (never h), λ h. absurd (omega (arith, h.1)))

-- 28 "Does it fit?"
pub text_room : (ws : List ℕ) (room : ℕ) → (says (write_call ws room) ≡ refusal 28 0) ↔ (Passed ws × (room < length (text_of ws)))
text_room ws room = go (write_answer ws room) (calls.writing_goes ws room)
  where
    go : (a : Answer) → calls.WritingGoes ws room a → (said_by a ≡ refusal 28 0) ↔ (Passed ws × (room < length (text_of ws)))
    go a (calls.table r e) = (λ h. absurd (early ws r 28 0 (omega arith) e h), λ h. absurd (not_both h.0 e))
    go a (calls.short p s) = (λ h. (p, s), λ h. refl)
    go a (calls.made p s) = (λ h. absurd (never h), λ h. absurd (omega (arith, h.1)))

-- 31 "a slice shorter than the count"
pub models_room : (ws : List ℕ) (room : ℕ) → (says (models_call ws room) ≡ refusal 31 0) ↔ (Passed ws × (get_or ws 0 0 ≤ 16) × (room < length (model_words ws)))
models_room ws room = go (models_answer ws room) (listing.listing_goes ws room)
  where
    go : (a : Answer) → listing.ListingGoes ws room a → (said_by a ≡ refusal 31 0) ↔ (Passed ws × (get_or ws 0 0 ≤ 16) × (room < length (model_words ws)))
    go a (listing.table r e) = (λ h. absurd (early ws r 31 0 (omega arith) e h), λ h. absurd (not_both h.0 e))
    go a (listing.many p s) = (λ h. absurd (omega (arith, number_is h)), λ h. absurd (omega (arith, h.1)))
    go a (listing.short p f s) = (λ h. (p, f, s), λ h. refl)
    go a (listing.made p f s) = (λ h. absurd (never h), λ h. absurd (omega (arith, h.2)))

-- ---- "more than 16 atoms", 30, is said exactly where 1 to 8 are answered yes and there are more

pub models_many : (ws : List ℕ) (room : ℕ) → (says (models_call ws room) ≡ refusal 30 0) ↔ (Passed ws × (16 < get_or ws 0 0))
models_many ws room = go (models_answer ws room) (listing.listing_goes ws room)
  where
    go : (a : Answer) → listing.ListingGoes ws room a → (said_by a ≡ refusal 30 0) ↔ (Passed ws × (16 < get_or ws 0 0))
    go a (listing.table r e) = (λ h. absurd (early ws r 30 0 (omega arith) e h), λ h. absurd (not_both h.0 e))
    go a (listing.many p s) = (λ h. (p, s), λ h. refl)
    go a (listing.short p f s) = (λ h. absurd (omega (arith, number_is h)), λ h. absurd (omega (arith, h.1)))
    go a (listing.made p f s) = (λ h. absurd (never h), λ h. absurd (omega (arith, h.1)))

-- ---- a refused call changes no lent memory: `reducer_refused`, `reduced_refused`, `refused_marks` (a list refused at a step leaves the marks of the steps before it), `models_refused`, and

-- "Every other refusal changes nothing.", of reading and writing text
pub read_refused_unchanged : (ts table : List ℕ) (r : Refusal) → read_answer ts (length table) ≡ Err r → table_after ts table ≡ table
read_refused_unchanged ts table r h = read_refused ts table r h

pub write_refused_unchanged : (ws out : List ℕ) (r : Refusal) → write_answer ws (length out) ≡ Err r → out_after ws out ≡ out
write_refused_unchanged ws out r h = write_refused ws out r h
