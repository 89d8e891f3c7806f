-- The clauses of a table that passed stand within its words and their marks.
use mathlib.Core.Path.{◌≡◌, ◌∙◌}
use mathlib.Core.List.{List}
use Prim.Native.Nat.{ℕ, ◌+◌, ◌<◌}
use lib.ListN.{get_or}
use Rattle.table.specs.Places.{next_at, start_of}
use Rattle.table.proofs.Encoding.{passed_limits}
use Rattle.table.proofs.Walks.{next_start}
use Rattle.table.proofs.Places.{passed_good}
use Rattle.reduced_marks.specs.Spans.{ClauseFits, MarksReady}

module _ (ws ms : List ℕ) (r : MarksReady ws ms) (t at : ℕ) (h : t < get_or ws 1 0) (e : at ≡ start_of ws t) where
  pub inside : ClauseFits ws ms at
  inside = record { fits = rw e (passed_good ws r.passed t h).fits; marked = r.marked; short = (passed_limits ws r.passed).short }

  pub start_next : (b : ℕ) → b ≡ next_at ws at → b ≡ start_of ws (t + 1)
  start_next b q = q ∙ next_start ws t at e
