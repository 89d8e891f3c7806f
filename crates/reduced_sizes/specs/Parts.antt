-- What the copy works out: marks counted, the words of one clause, and what the functions ask of their callers.
use Rattle.std.specs.Prelude.{cond, List, [], ◌∷◌, ℕ, zero, suc, ◌+◌, ◌≤◌, eqb, length, get_or}
use Rattle.semantics.specs.Lists.{bit}
use Rattle.semantics.specs.Programs.{Clause}
use Rattle.rewriting.specs.Marked.{Entry}
use Rattle.table.specs.Encoding.{clause_words}
use Rattle.table.specs.View.{entry_at}
use Rattle.reduced_sizes.specs.Leaves.{reduced}
use Rattle.reduced_marks.specs.Spans.{ClauseFits, MarksReady}

-- how many of the k marks from `at` are 1
unfoldable pub kept_from : List ℕ → ℕ → ℕ → ℕ
kept_from ms at zero = 0
kept_from ms at (suc k) = bit (eqb (get_or ms at 0) 1) + kept_from ms (suc at) k

-- a clause's three counts
abbrev pub counts : Clause → List ℕ
counts c = length c.head ∷ length c.pos ∷ length c.neg ∷ []

-- the words of a clause as left: none of one that is gone
unfoldable pub entry_words : Entry → List ℕ
entry_words e = cond e.kept (clause_words e.clause) []

-- the same, with room for its words as left from `to` on
pub record ClauseRoom (ws ms out : List ℕ) (at to : ℕ) : Type 0 where
  pub inside : ClauseFits ws ms at
  pub room : to + length (entry_words (entry_at ws ms at)) ≤ length out

-- with room for the reduced table
pub record Fits (ws ms out : List ℕ) : Type 0 where
  pub ready : MarksReady ws ms
  pub room : length (reduced ws ms) ≤ length out
