-- What the marks leave of a table that passed is within the limits, so that the reduced table passes questions 1 to 8.
use mathlib.Core.List.{List}
use Prim.Native.Nat.{ℕ}
use native.Mathlib.Omega.{arith}
use lib.ListN.{get_or}
use Rattle.semantics.specs.Programs.{Clause}
use Rattle.rewriting.proofs.Left.{left_each}
use Rattle.table.specs.Questions.{Passed}
use Rattle.table.specs.Encoding.{OrderedClause, Within}
use Rattle.table.specs.View.{view}
use Rattle.table.proofs.Encoding.{encode_passes, passed_limits}
use Rattle.table.proofs.Parts.{Straight, view_straight}
use Rattle.reduced_sizes.specs.Leaves.{left_program, reduced}
use Rattle.reduced_sizes.proofs.Tables.{reduced_le, count_le}

ordered : (n : ℕ) (c : Clause) → Straight n c → OrderedClause n c
ordered n c s = record {
  head = record { below = s.head_below; ascends = s.head };
  pos = record { below = s.pos_below; ascends = s.pos };
  neg = record { below = s.neg_below; ascends = s.neg };
}

-- What the marks leave of a program within the limits is within the limits.
pub left_within : (ws ms : List ℕ) → Passed ws → Within (left_program ws ms)
left_within ws ms p =
    let l = passed_limits ws p in
    record {
      few_atoms = l.few_atoms;
      few_clauses = omega (arith, count_le ws ms, l.few_clauses);
      few_words = omega (arith, reduced_le ws ms p, l.short);
      ordered = (left_each (OrderedClause (get_or ws 0 0)) (view ws ms)).1 (λ i k. ordered (get_or ws 0 0) _ (view_straight ws ms p i));
    }

-- The reduced table passes questions 1 to 8.
pub reduced_passes : (ws ms : List ℕ) → Passed ws → Passed (reduced ws ms)
reduced_passes ws ms p = encode_passes (left_program ws ms) (left_within ws ms p)
