-- The value of a call that is taken, and the place of one that is refused, are at most 65,536, so that number and place fit in one number.
use Prim.Native.Nat.{ℕ, zero, suc, ◌≤◌, ◌+◌, ◌/◌, ◌%◌, ◌*◌}
use mathlib.Core.Path.{◌≡◌, sym, ap, subst, ◌∙◌}
use mathlib.Core.List.{List}
use mathlib.Core.Bool.{Bool}
use borrow.Author.Tests.{leb-true}
use native.Mathlib.Omega.{arith}
use lib.Dec.{leb, eqb}
use lib.ListN.{length, get_or}
use Rattle.semantics.specs.Decide.{stable_test}
use Rattle.semantics.proofs.Tests.{and_iff, bit_bound}
use Rattle.answers.specs.declared.CallQuestion.TheVariants.{MarksLength, ListLength, ListRoom, TableRoom, TextRoom, FewAtoms, ModelsRoom}
use Rattle.answers.specs.declared.EntryQuestion.TheVariants.{EntryBelow, EntryAscending}
use Rattle.answers.specs.declared.Refusal.TheVariants.{Call, Entry, Step}
use Rattle.std.specs.Prelude.{Ok, Err}
use Rattle.answers.specs.Refusals.{refusal_place}
use Rattle.answers.specs.Answers.{ask, Small}
use Rattle.answers.proofs.Asked.{ask_part, small_ask}
use Rattle.table.specs.Questions.{table_of, on_table}
use Rattle.table.specs.Programs.{program_of}
use Rattle.table.specs.StepWords.{kind_at, step_at}
use Rattle.table.specs.View.{view, all_kept}
use Rattle.table.specs.Effects.{marks_after}
use Rattle.table.proofs.Laws.{table_part}
use Rattle.table.proofs.Encoding.{passed_limits}
use Rattle.table.proofs.Refused.{NearBy, near_ask, atoms_near, small_walk, small_table}
use Rattle.models_test.specs.Answer.{set_of, test_of}
use Rattle.models_words.proofs.Antichains.{few_models}
use Rattle.models_list.specs.Answer.{model_words, models_answer}
use Rattle.dependency.specs.Decide.{cyclic}
use Rattle.cycle.specs.Answer.{cycle_of}
use Rattle.reduced_marks.specs.Allowed.{allowed, marks_from}
use Rattle.reduced_sizes.specs.Leaves.{reduced}
use Rattle.reduced_sizes.proofs.Limits.{left_within}
use Rattle.reduced_table.specs.Reduced.{marked_answer, reduced_answer}
use Rattle.step_questions.proofs.Laws.{questions_all}
use Rattle.step_lists.specs.Lists.{Outcome, leaving, steps_from, list_fits, check_list}
use Rattle.reducer_results.specs.Reductions.{room, steps_of, reduction}
use Rattle.reducer_results.proofs.Room.{room_few}
use Rattle.reducer_results.proofs.Taken.{reduction_answer, steps_room}
use Rattle.text_form.specs.Writer.{text_of, write_answer}
use Rattle.text_form.proofs.Calls.{text_short}

-- ---- a set, all stable models, and the cycle answer

set_near : (set : List ℕ) (n : ℕ) → NearBy 16 (set_of set n)
unfolding set_of
set_near set n = near_ask (λ r. refusal_place r ≤ 16) 16 _ _ _ (omega arith) (λ t. let h = leb-true (length set) 16 t in
    atoms_near (λ r. refusal_place r ≤ 16) 16 (Entry EntryBelow) (Entry EntryAscending) (λ i l. l) (λ i l. l) set n 0 0 (length set) (omega arith))

pub test_small : (ws set : List ℕ) → Small (test_of ws set)
unfolding test_of
test_small ws set = small_table ws _ (λ p. small_walk 16 (omega arith) (set_of set (get_or ws 0 0)) _ (set_near set (get_or ws 0 0)) (λ e. omega (arith, bit_bound (stable_test (program_of ws) set))))

pub models_small : (ws : List ℕ) (room : ℕ) → Small (models_answer ws room)
unfolding models_answer program_of
models_small ws room = small_table ws _ (λ p.
    small_ask (leb (get_or ws 0 0) 16) (Call FewAtoms) _ (omega arith) (λ t.
    small_ask (leb (length (model_words ws)) room) (Call ModelsRoom) (Ok (length (model_words ws))) (omega arith) (λ _. omega (arith, few_models (program_of ws) (leb-true (get_or ws 0 0) 16 t)))))

pub cycle_small : (ws : List ℕ) → Small (cycle_of ws)
unfolding cycle_of
cycle_small ws = small_table ws _ (λ p. omega (arith, bit_bound (cyclic (program_of ws).clauses)))

-- ---- the reduced table

marks_near : (f : ℕ → Bool) (at k b : ℕ) → at + k ≤ b → NearBy b (marks_from f at k)
unfolding marks_from
marks_near f at zero b h = omega arith
marks_near f at (suc k) b h = near_ask (λ r. refusal_place r ≤ b) b _ _ _ (omega arith) (λ _. marks_near f (at + 1) k b (omega arith))

pub reduced_small : (ws ms out : List ℕ) → Small (reduced_answer ws ms out)
unfolding reduced_answer marked_answer
reduced_small ws ms out = small_table ws _ (λ p.
    let l : length ws ≤ 8192 = (passed_limits ws p).short in
    let k : length (reduced ws ms) ≤ 8192 = (left_within ws ms p).few_words in
    small_ask (leb (length ws) (length ms)) (Call MarksLength) _ (omega arith) (λ _.
    small_walk 8192 (omega arith) (marks_from (allowed ws ms) 0 (length ws)) _ (marks_near (allowed ws ms) 0 (length ws) 8192 (omega arith)) (λ e.
    small_ask (leb (length (reduced ws ms)) (length out)) (Call TableRoom) (Ok (length (reduced ws ms))) (omega arith) (λ _. omega arith))))

-- ---- lists of steps

steps_small : (ws ls ms : List ℕ) (k left : ℕ) → k + left ≤ 65536 → Small (steps_from ws ms ls k left).answer
unfolding steps_from
steps_small ws ls ms k zero h = omega arith
steps_small ws ls ms k (suc left) h =
    questions_all (λ (o : Outcome). Small o.answer) (λ q. leaving ms (Step q k)) (get_or ws 0 0) (view ws ms) (kind_at ls k) (step_at ls k) _ (λ q. omega arith)
    (steps_small ws ls (marks_after ws ms (step_at ls k)) (k + 1) left (omega arith))

check_answer : (ws ms ls : List ℕ) → (check_list ws ms ls).answer
    ≡ on_table Err (table_of ws) (ask Err (leb (length ws) (length ms)) (Call MarksLength) (ask Err (list_fits ls) (Call ListLength) (steps_from ws (all_kept ws ms) ls 0 (length ls / 4)).answer))
unfolding check_list
check_answer ws ms ls =
    table_part (λ x. x.answer) (leaving ms) (table_of ws) _
    ∙ ap (on_table Err (table_of ws)) (ask_part (λ x. x.answer) (leaving ms) (leb (length ws) (length ms)) (Call MarksLength) _
    ∙ ap (ask Err (leb (length ws) (length ms)) (Call MarksLength)) (ask_part (λ x. x.answer) (leaving ms) (list_fits ls) (Call ListLength) _))

pub check_small : (ws ms ls : List ℕ) → Small (check_list ws ms ls).answer
check_small ws ms ls = subst Small (sym (check_answer ws ms ls)) (small_table ws _ (λ p.
    small_ask (leb (length ws) (length ms)) (Call MarksLength) _ (omega arith) (λ _.
    small_ask (list_fits ls) (Call ListLength) _ (omega arith) (λ f.
    let l : length ls ≤ 32760 = leb-true _ _ ((and_iff (eqb (length ls % 4) 0) (leb (length ls) 32760)).0 f).1 in
    steps_small ws ls (all_kept ws ms) 0 (length ls / 4) (omega arith)))))

pub reduce_small : (ws ms ls : List ℕ) → Small (reduction ws ms ls).answer
reduce_small ws ms ls = subst Small (sym (reduction_answer ws ms ls)) (small_table ws _ (λ p.
    small_ask (leb (length ws) (length ms)) (Call MarksLength) _ (omega arith) (λ _.
    small_ask (leb (4 * room ws) (length ls)) (Call ListRoom) (Ok (length (steps_of ws))) (omega arith) (λ _. omega (arith, room_few ws p, steps_room ws p)))))

-- ---- writing a text

pub write_small : (ws : List ℕ) (room : ℕ) → Small (write_answer ws room)
unfolding write_answer
write_small ws room = small_table ws _ (λ p. small_ask (leb (length (text_of ws)) room) (Call TextRoom) (Ok (length (text_of ws))) (omega arith) (λ _. omega (arith, text_short ws p)))
