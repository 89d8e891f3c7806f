-- What is left of a table that passed is no longer than it.
use mathlib.Core.Path.{◌≡◌, ap, ◌∙◌}
use mathlib.Core.List.{List}
use Prim.Native.Nat.{ℕ, zero, suc, ◌+◌, ◌-◌, ◌≤◌}
use native.Mathlib.Omega.{arith}
use native.Mathlib.Nat.{sub-zero}
use lib.ListN.{length, get_or, length-append}
use Rattle.rewriting.specs.Marked.{left}
use Rattle.table.specs.Questions.{Passed}
use Rattle.table.specs.Encoding.{clauses_words, encode}
use Rattle.table.specs.Places.{next_at, start_from}
use Rattle.table.specs.View.{entry_at, entries_from, view}
use Rattle.rewriting.proofs.Left.{left_le}
use Rattle.table.proofs.Walks.{passed_end}
use Rattle.table.proofs.View.{length_view}
use Rattle.reduced_sizes.specs.Leaves.{reduced}
use Rattle.reduced_sizes.specs.Parts.{entry_words}
use Rattle.reduced_sizes.proofs.Words.{left_cons, entry_le}

left_bound : (ws ms : List ℕ) (m at : ℕ) → length (clauses_words (left (entries_from ws ms m at))) + at ≤ start_from ws at m
unfolding entries_from start_from left clauses_words
left_bound ws ms zero at = omega arith
left_bound ws ms (suc m) at =
    let P = entries_from ws ms m (next_at ws at) in
    let q = ap length (left_cons (entry_at ws ms at) P) ∙ length-append (entry_words (entry_at ws ms at)) (clauses_words (left P)) in
    omega (arith, q, entry_le ws ms at, left_bound ws ms m (next_at ws at))

pub reduced_length : (ws ms : List ℕ) → length (reduced ws ms) ≡ 2 + length (clauses_words (left (view ws ms)))
unfolding encode
reduced_length ws ms = omega arith

-- The reduced table has at most as many words as the table.
pub reduced_le : (ws ms : List ℕ) → Passed ws → length (reduced ws ms) ≤ length ws
unfolding view
reduced_le ws ms p = omega (arith, reduced_length ws ms, left_bound ws ms (get_or ws 1 0) 2, passed_end ws p)

-- and at most as many clauses
pub count_le : (ws ms : List ℕ) → length (left (view ws ms)) ≤ get_or ws 1 0
count_le ws ms = omega (arith, left_le (view ws ms), length_view ws ms)

-- from the first clause on
pub view_start : (ws ms : List ℕ) → entries_from ws ms (get_or ws 1 0 - 0) 2 ≡ view ws ms
unfolding view
view_start ws ms = ap (λ m. entries_from ws ms m 2) (sub-zero (get_or ws 1 0))
