-- The answer of the call, by the first question answered no.
use mathlib.Core.Path.{◌≡◌}
use mathlib.Core.List.{List}
use Prim.Native.Nat.{ℕ, ◌≤◌, ◌<◌}
use lib.ListN.{length}
use borrow.Author.Tests.{le-leb, lt-leb}
use Rattle.answers.specs.declared.CallQuestion.TheVariants.{MarksLength, TableRoom}
use Rattle.answers.specs.declared.Refusal.{Refusal}
use Rattle.answers.specs.declared.Refusal.TheVariants.{Call}
use Rattle.table.specs.declared.Table.{Table}
use Rattle.std.specs.Prelude.{Ok, Err}
use Rattle.table.specs.Questions.{on_walk, table_of, on_table}
use Rattle.reduced_table.specs.Reduced.{marked_answer, reduced_answer}
use Rattle.answers.specs.Answers.{ask}
use Rattle.reduced_sizes.specs.Leaves.{reduced}
use Rattle.reduced_marks.specs.Allowed.{allowed, marks_from}

module _ (ws ms out : List ℕ) where
  pub answer_few : length ms < length ws → marked_answer ws ms out ≡ Err (Call MarksLength)
  unfolding marked_answer ask
  answer_few h = rw (lt-leb (length ws) (length ms) h)

  module _ (h : length ws ≤ length ms) where
    pub answer_mark : (r : Refusal) → marks_from (allowed ws ms) 0 (length ws) ≡ Err r → marked_answer ws ms out ≡ Err r
    unfolding marked_answer ask on_walk
    answer_mark r q = rw (le-leb (length ws) (length ms) h, q)

    module _ (e : ℕ) (q : marks_from (allowed ws ms) 0 (length ws) ≡ Ok e) where
      pub answer_room : length out < length (reduced ws ms) → marked_answer ws ms out ≡ Err (Call TableRoom)
      unfolding marked_answer ask on_walk
      answer_room l = rw (le-leb (length ws) (length ms) h, q, lt-leb (length (reduced ws ms)) (length out) l)

      pub answer_accepted : length (reduced ws ms) ≤ length out → marked_answer ws ms out ≡ Ok (length (reduced ws ms))
      unfolding marked_answer ask on_walk
      answer_accepted l = rw (le-leb (length ws) (length ms) h, q, le-leb (length (reduced ws ms)) (length out) l)

  pub answer_table : (r : Refusal) → table_of ws ≡ Err r → reduced_answer ws ms out ≡ Err r
  unfolding reduced_answer on_table
  answer_table r q = rw q

  pub answer_valid : (t : Table) → table_of ws ≡ Ok t → reduced_answer ws ms out ≡ marked_answer ws ms out
  unfolding reduced_answer on_table
  answer_valid t q = rw q
