-- The call: its state at the start, and its answer by the questions.
use mathlib.Core.Path.{◌≡◌, sym, ap, ◌∙◌}
use mathlib.Core.List.{List}
use Prim.Native.Nat.{ℕ, ◌*◌, ◌≤◌, ◌<◌}
use native.Mathlib.Omega.{arith}
use lib.Dec.{leb}
use lib.ListN.{length}
use borrow.Author.Tests.{le-leb, lt-leb}
use Rattle.std.specs.Prelude.{Result, Ok, Err, MatchResult}
use Rattle.answers.specs.declared.Refusal.{Refusal}
use Rattle.answers.specs.declared.Refusal.TheVariants.{Call}
use Rattle.answers.specs.declared.CallQuestion.TheVariants.{MarksLength, ListRoom}
use Rattle.table.specs.declared.Table.{Table}
use Rattle.table.specs.Questions.{table_of, Passed}
use Rattle.table.specs.View.{all_kept}
use Rattle.table.specs.Effects.{marks_after_all}
use Rattle.table.proofs.Encoding.{valid_inv}
use Rattle.table.proofs.Parts.{view_all_kept}
use Rattle.reducer_results.specs.Reductions.{room, steps_of, Reduction, leaving_both, reduced_by_lem, reduction}
use Rattle.table.specs.StepWords.{words_of}
use Rattle.reducer_results.specs.Answered.{Answered}
use Rattle.table.specs.Questions.{on_table}
use Rattle.reducer.specs.Runs.{Begun, Reduced}
use Rattle.answers.specs.Answers.{ask}
use Rattle.answers.proofs.Slices.{sets_written}
use Rattle.reducer_results.proofs.Taken.{length_words, steps_room}

-- ---- the start

pub begun : (ws ms ms' ls : List ℕ) → Passed ws → ms' ≡ all_kept ws ms → 4 * room ws ≤ length ls → Begun ws ms' ls
begun ws ms ms' ls p e l = rw e (record { whole = view_all_kept ws ms p; room = l })

-- ---- the answer

pub passed : (ws : List ℕ) (t : Table) → table_of ws ≡ Ok t → Passed ws
passed ws t e = record { valid = e ∙ ap Ok (valid_inv ws t e).1 }

table_is : (ws ms ls : List ℕ) (t : Table) → table_of ws ≡ Ok t
    → reduction ws ms ls ≡ ask (leaving_both ms ls) (leb (length ws) (length ms)) (Call MarksLength) (ask (leaving_both ms ls) (leb (4 * room ws) (length ls)) (Call ListRoom) (reduced_by_lem ws ms ls (steps_of ws)))
unfolding reduction on_table
table_is ws ms ls t e = rw e

module _ (ws ms ls : List ℕ) where
  by : (x : Reduction) → reduction ws ms ls ≡ x → Answered ws ms ls x.marks x.list x.answer
  by x e = record { answer = sym (ap (λ r. r.answer) e); marks = sym (ap (λ r. r.marks) e); list = sym (ap (λ r. r.list) e) }

  -- questions 1 to 8
  pub no_table : (r : Refusal) → table_of ws ≡ Err r → Answered ws ms ls ms ls (Err r)
  unfolding reduction on_table
  no_table r e = by (leaving_both ms ls r) (rw e)

  module _ (t : Table) (e : table_of ws ≡ Ok t) where
    -- 9
    pub few_marks : length ms < length ws → Answered ws ms ls ms ls (Err (Call MarksLength))
    unfolding ask
    few_marks l = by (leaving_both ms ls (Call MarksLength)) (table_is ws ms ls t e ∙ rw (lt-leb _ _ l))

    -- 17
    pub no_room : length ws ≤ length ms → length ls < 4 * room ws → Answered ws ms ls ms ls (Err (Call ListRoom))
    unfolding ask
    no_room a l = by (leaving_both ms ls (Call ListRoom)) (table_is ws ms ls t e ∙ rw (le-leb _ _ a, lt-leb _ _ l))

    pub done : (ms₁ ms' ls' : List ℕ) (s : ℕ) → length ws ≤ length ms → 4 * room ws ≤ length ls → ms₁ ≡ all_kept ws ms → Reduced ws ms₁ ls ms' ls' s → Answered ws ms ls ms' ls' (Ok s)
    unfolding ask
    done ms₁ ms' ls' s a l q r =
        let w = by (reduced_by_lem ws ms ls (steps_of ws)) (table_is ws ms ls t e ∙ rw (le-leb _ _ a, le-leb _ _ l)) in
        let f : length (words_of (steps_of ws)) ≤ length ls = omega (arith, length_words (steps_of ws), steps_room ws (passed ws t e)) in
        record {
          answer = ap Ok r.number ∙ w.answer;
          marks = r.marks ∙ ap (λ k. marks_after_all ws k (steps_of ws)) q ∙ w.marks;
          list = r.list ∙ sets_written (words_of (steps_of ws)) ls f ∙ w.list;
        }

-- what the table check refuses is handed on
pub refused_same : {A B E : Type 0} (r : Result A E) {s : Result B E} (P : A → Type 0) (e : E) → MatchResult r P (λ e. s ≡ Err e) → r ≡ Err e → s ≡ Err e
refused_same (Ok x) P e h q = let z : ◌≡◌ {A = ℕ} 0 1 = cc in absurd (omega arith)
refused_same (Err d) P e h q = let z : d ≡ e = cc in h ∙ ap Err z
