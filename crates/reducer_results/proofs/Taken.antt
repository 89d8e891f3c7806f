-- What a call of the reducer that is taken found and left: its list is the smallest step each time, its marks leave what the list
-- leaves, and are no fewer than its steps.
use mathlib.Core.Path.{◌≡◌, refl, sym, ap, subst, ◌∙◌}
use mathlib.Core.Bool.{So}
use mathlib.Core.List.{List, [], ◌∷◌}
use Prim.Native.Nat.{ℕ, zero, suc, ◌*◌, ◌≤◌}
use native.Mathlib.Omega.{arith}
use lib.Dec.{leb, eqb}
use lib.ListN.{length, get_or, replicate, length-replicate}
use lib.Seq.{length-sets, take_at}
use borrow.Author.Tests.{leb-true, le-leb}
use Rattle.semantics.specs.Lists.{count}
use Rattle.rewriting.specs.Marked.{whole, entry}
use Rattle.rewriting.specs.Steps.{Step}
use Rattle.rewriting.specs.Runs.{accepted, leaves, without_nine}
use Rattle.rewriting.specs.Reducer.{eligible, Greedy}
use Rattle.rewriting.proofs.Measure.{Tidy}
use Rattle.rewriting.proofs.Greedy.{reduce_greedy, greedy_accepted, accepted_less}
use Rattle.answers.specs.declared.CallQuestion.TheVariants.{MarksLength, ListRoom}
use Rattle.answers.specs.declared.Refusal.TheVariants.{Call}
use Rattle.table.specs.Questions.{table_of, on_table, Passed}
use Rattle.table.specs.StepWords.{words_of}
use Rattle.table.specs.Programs.{program_of}
use Rattle.table.specs.View.{view, all_kept, zeros}
use Rattle.table.specs.Effects.{marks_after, marks_after_all}
use Rattle.table.proofs.Encoding.{valid_passed, passed_within}
use Rattle.table.proofs.Measures.{measure_within}
use Rattle.table.proofs.View.{view_after_all, length_after}
use Rattle.table.proofs.Parts.{view_all_kept, view_tidy, length_all_kept}
use Rattle.std.specs.Prelude.{Ok, Err}
use Rattle.answers.specs.Answers.{ask, written}
use Rattle.answers.proofs.Asked.{ask_part, ask_taken}
use Rattle.answers.proofs.Slices.{sets_written}
use Rattle.table.proofs.Laws.{on_taken, table_part}
use Rattle.reducer_results.specs.Reductions.{room, steps_of, leaving_both, reduction}
use Rattle.reducer_results.proofs.Room.{room_measure}

-- ---- a call that is taken

-- what a call that is taken found and left
pub record ReducerTaken (ws ms ls : List ℕ) (s : ℕ) : Type 0 where
  pub passed : Passed ws
  pub marked : length ws ≤ length ms
  pub roomy : 4 * room ws ≤ length ls
  pub count : s ≡ length (steps_of ws)
  pub marks : (reduction ws ms ls).marks ≡ marks_after_all ws (all_kept ws ms) (steps_of ws)
  pub list : (reduction ws ms ls).list ≡ written (words_of (steps_of ws)) ls

-- the answer by its questions
pub reduction_answer : (ws ms ls : List ℕ) → (reduction ws ms ls).answer
    ≡ on_table Err (table_of ws) (ask Err (leb (length ws) (length ms)) (Call MarksLength) (ask Err (leb (4 * room ws) (length ls)) (Call ListRoom) (Ok (length (steps_of ws)))))
unfolding reduction
reduction_answer ws ms ls =
    table_part (λ x. x.answer) (leaving_both ms ls) (table_of ws) _
    ∙ ap (on_table Err (table_of ws)) (ask_part (λ x. x.answer) (leaving_both ms ls) (leb (length ws) (length ms)) (Call MarksLength) _
    ∙ ap (ask Err (leb (length ws) (length ms)) (Call MarksLength)) (ask_part (λ x. x.answer) (leaving_both ms ls) (leb (4 * room ws) (length ls)) (Call ListRoom) _))

pub reducer_taken : (ws ms ls : List ℕ) (s : ℕ) → (reduction ws ms ls).answer ≡ Ok s → ReducerTaken ws ms ls s
unfolding reduction on_table ask
reducer_taken ws ms ls s h =
    let (t, e, a) = on_taken (table_of ws) _ s (sym (reduction_answer ws ms ls) ∙ h) in
    let (f, b) = ask_taken (leb (length ws) (length ms)) (Call MarksLength) _ s a in
    let (g, c) = ask_taken (leb (4 * room ws) (length ls)) (Call ListRoom) _ s b in
    record {
      passed = (valid_passed ws t e).0;
      marked = leb-true _ _ f;
      roomy = leb-true _ _ g;
      count = cc;
      marks = rw (e, f, g);
      list = rw (e, f, g);
    }

-- A call that passes its questions is taken, with the number of steps of its list.
pub always_taken : (ws ms ls : List ℕ) → Passed ws → length ws ≤ length ms → 4 * room ws ≤ length ls → (reduction ws ms ls).answer ≡ Ok (length (steps_of ws))
unfolding reduction on_table ask
always_taken ws ms ls p a b = rw (p.valid, le-leb (length ws) (length ms) a, le-leb (4 * room ws) (length ls) b)

-- ---- the reducer's list

pub whole_tidy : (ws : List ℕ) → Passed ws → (i : ℕ) → Tidy (entry (whole (program_of ws).clauses) i)
whole_tidy ws p = subst (λ P. (i : ℕ) → Tidy (entry P i)) (view_all_kept ws [] p) (view_tidy ws (all_kept ws []) p)

-- "The reducer always takes the applicable step that is smallest by kind, then target, partner, atom, until none applies", but for those that slip 7 passes over.
pub steps_greedy : (ws : List ℕ) → Passed ws → Greedy (eligible (get_or ws 0 0)) (whole (program_of ws).clauses) (steps_of ws)
unfolding steps_of
steps_greedy ws p = reduce_greedy (get_or ws 0 0) (room ws) (whole (program_of ws).clauses) (whole_tidy ws p) (omega (arith, room_measure ws))

pub steps_accepted : (ws : List ℕ) → Passed ws → So (accepted (get_or ws 0 0) (whole (program_of ws).clauses) (steps_of ws))
steps_accepted ws p = greedy_accepted (get_or ws 0 0) (steps_greedy ws p)

-- The list is never longer than the room that question 17 asks for.
pub steps_room : (ws : List ℕ) → Passed ws → length (steps_of ws) ≤ room ws
steps_room ws p = omega (arith, accepted_less (get_or ws 0 0) (whole (program_of ws).clauses) (steps_of ws) (whole_tidy ws p) (steps_accepted ws p), room_measure ws)

-- It has at most 8,188 steps, so that the list with one step more never meets question 11.
pub steps_few : (ws : List ℕ) → Passed ws → length (steps_of ws) ≤ 8188
steps_few ws p =
    omega (arith, accepted_less (get_or ws 0 0) (whole (program_of ws).clauses) (steps_of ws) (whole_tidy ws p) (steps_accepted ws p), measure_within (program_of ws) (passed_within ws p))

zeros_none : (n : ℕ) → count (λ x. eqb x 0) (replicate n 1) ≡ 0
zeros_none zero = refl
zeros_none (suc n) = omega (arith, zeros_none n)

pub zeros_all_kept : (ws ms : List ℕ) → zeros ws (all_kept ws ms) ≡ 0
unfolding zeros
zeros_all_kept ws ms = ap (count (λ x. eqb x 0)) (take_at (replicate (length ws) 1) _ (length ws) (length-replicate (length ws) _)) ∙ zeros_none (length ws)

-- four words a step
pub length_words : (l : List Step) → length (words_of l) ≡ 4 * length l
unfolding words_of
length_words [] = refl
length_words (s ∷ l) = omega (arith, length_words l)

-- the marks of a call that is taken leave what its list leaves, and those at 0 are no fewer than its steps: exactly as many, where kind 9 is not among them
pub marks_after_lem : (ws ms ls : List ℕ) (s : ℕ) → ReducerTaken ws ms ls s
    → (view ws (reduction ws ms ls).marks ≡ leaves (get_or ws 0 0) (whole (program_of ws).clauses) (steps_of ws)) × (s ≤ zeros ws (reduction ws ms ls).marks)
    × (So (without_nine (steps_of ws)) → zeros ws (reduction ws ms ls).marks ≡ s)
marks_after_lem ws ms ls s t =
    let p = t.passed in
    let n = get_or ws 0 0 in
    let e = view_all_kept ws ms p in
    let (a, b, c) = view_after_all n ws (all_kept ws ms) (steps_of ws) p (omega (arith, length_all_kept ws ms t.marked, t.marked)) (rw e (steps_accepted ws p)) in
    (rw t.marks (a ∙ ap (λ P. leaves n P (steps_of ws)) e), rw t.marks (omega (arith, b, t.count, zeros_all_kept ws ms)), λ q. rw t.marks (omega (arith, c q, t.count, zeros_all_kept ws ms)))

pub length_after_all : (ws : List ℕ) (l : List Step) (ms : List ℕ) → length (marks_after_all ws ms l) ≡ length ms
unfolding marks_after_all
length_after_all ws [] ms = refl
length_after_all ws (s ∷ l) ms = length_after_all ws l (marks_after ws ms s) ∙ length_after ws ms s

-- A call that is taken leaves both slices as long as they were.
pub lengths_kept : (ws ms ls : List ℕ) (s : ℕ) → ReducerTaken ws ms ls s → (length (reduction ws ms ls).marks ≡ length ms) × (length (reduction ws ms ls).list ≡ length ls)
lengths_kept ws ms ls s t = (
  ap length t.marks ∙ length_after_all ws (steps_of ws) (all_kept ws ms) ∙ length_all_kept ws ms t.marked,
  ap length t.list ∙ ap length (sym (sets_written (words_of (steps_of ws)) ls (omega (arith, length_words (steps_of ws), steps_room ws t.passed, t.roomy)))) ∙ length-sets ls 0 (words_of (steps_of ws)),
)
