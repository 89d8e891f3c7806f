-- Demand 2: a set is called stable exactly when it is a stable model, and the cycle answer; which texts are read, and what reading and writing give back.
use Prim.Native.Nat.{ℕ, ◌≤◌}
use mathlib.Core.Path.{◌≡◌}
use mathlib.Core.Logic.{◌↔◌}
use mathlib.Core.Bool.{true, false}
use mathlib.Core.List.{List}
use lib.ListN.{length, take}
use Rattle.semantics.specs.Programs.{Stable, Program}
use Rattle.semantics.specs.Programs.{among}
use Rattle.semantics.proofs.Tests.{so_false, not_so}
use Rattle.semantics.proofs.Decide.{test_iff}
use Rattle.table.specs.Questions.{Passed}
use Rattle.table.specs.Encoding.{Ordered, encode}
use Rattle.table.specs.Programs.{program_of}
use Rattle.models_test.specs.Answer.{test_of}
use Rattle.models_test.specs.Kept.{Testable}
use Rattle.models_test.proofs.Answered.{accepted_iff}
use Rattle.std.specs.Prelude.{Ok}
use Rattle.dependency.specs.Chains.{Cyclic}
use Rattle.dependency.proofs.Reached.{cyclic_iff}
use Rattle.cycle.specs.Answer.{cycle_of}
use Rattle.cycle.proofs.Answered as cycles
use native.Mathlib.Omega.{arith}
use Rattle.text_form.specs.Lists.{sorted_program, InForm, Canonical}
use Rattle.answers.specs.Answers.{written}
use Rattle.text_form.specs.Reader.{read_answer, table_after}
use Rattle.text_form.specs.Writer.{text_of, write_answer, out_after}
use Rattle.answers.proofs.Slices.{take_written}
use Rattle.text_form.proofs.Calls.{accepted_reads, read_passes, form_reads, text_short, accepted_writes, passed_writes, text_reads}
use Rattle.claims.proofs.TextLists.{same_bytes_exactly}

-- ---- the test and the cycle answer

-- A table that passes questions 1 to 8, and a set of at most 16 ascending atoms below n, which passes 19 to 21.
pub record Asked (ws set : List ℕ) : Type 0 where
  pub table : Passed ws
  pub few : length set ≤ 16
  pub ordered : Ordered (program_of ws).atoms set

pub asked_iff : (ws set : List ℕ) → Asked ws set ↔ Testable ws set
unfolding program_of
asked_iff ws set = (
  λ a. record { passed = a.table; small = a.few; ordered = a.ordered },
  λ t. record { table = t.passed; few = t.small; ordered = t.ordered },
)

-- The test says yes exactly when the set is a stable model of the table's program, over all its subsets of any kind.
pub test_yes : (ws set : List ℕ) → (test_of ws set ≡ Ok 1) ↔ (Asked ws set × Stable (program_of ws) (among set))
test_yes ws set = (
  λ h. let w = (accepted_iff ws set true).0 h in ((asked_iff _ _).1 w.0, (test_iff (program_of ws) set).0 w.1),
  λ h. (accepted_iff ws set true).1 ((asked_iff _ _).0 h.0, (test_iff (program_of ws) set).1 h.1),
)

-- It says no exactly when the set is none.
pub test_no : (ws set : List ℕ) → (test_of ws set ≡ Ok 0) ↔ (Asked ws set × ¬ Stable (program_of ws) (among set))
test_no ws set = (
  λ h. let w = (accepted_iff ws set false).0 h in ((asked_iff _ _).1 w.0, λ s. not_so w.1 ((test_iff (program_of ws) set).1 s)),
  λ h. (accepted_iff ws set false).1 ((asked_iff _ _).0 h.0, so_false _ (λ s. h.1 ((test_iff (program_of ws) set).0 s))),
)

-- "Yes when some atom leads back to itself": the cycle answer says yes exactly then, along chains over the positive bodies of the table's clauses.
pub cycle_yes : (ws : List ℕ) → (cycle_of ws ≡ Ok 1) ↔ (Passed ws × Cyclic (program_of ws).clauses)
cycle_yes ws = (
  λ h. let w = (cycles.accepted_iff ws true).0 h in (w.0, (cyclic_iff (program_of ws).clauses).0 w.1),
  λ h. (cycles.accepted_iff ws true).1 (h.0, (cyclic_iff (program_of ws).clauses).1 h.1),
)

-- It says no exactly when none does.
pub cycle_no : (ws : List ℕ) → (cycle_of ws ≡ Ok 0) ↔ (Passed ws × ¬ Cyclic (program_of ws).clauses)
cycle_no ws = (
  λ h. let w = (cycles.accepted_iff ws false).0 h in (w.0, λ l. not_so w.1 ((cyclic_iff (program_of ws).clauses).1 l)),
  λ h. (cycles.accepted_iff ws false).1 (h.0, so_false _ (λ s. h.1 ((cyclic_iff (program_of ws).clauses).0 s))),
)

-- ---- text

-- A text is read, given a table slice of 8,192 words, exactly when it has the form: lists of numbers in any order, with repeats, of a program that is within the
-- limits once they are sorted, in at most 65,536 bytes.
pub text_accepted_exactly : (ts table : List ℕ) → 8192 ≤ length table → ((k : ℕ) × (read_answer ts (length table) ≡ Ok k)) ↔ ((P : Program) × InForm ts P)
text_accepted_exactly ts table big = (
  λ h. let a = accepted_reads ts table h.0 h.1 in (a.lists, a.form),
  λ h. (length (encode (sorted_program h.0)), (form_reads ts table h.0 h.1 big).0),
)

-- The text of any table that passes fits in 65,536 bytes, so it is never too long to read.
pub text_fits : (ws : List ℕ) → Passed ws → length (text_of ws) ≤ 65536
text_fits ws p = omega (arith, text_short ws p)

-- Reading the text written from a table gives that table, word for word; what lies past its words stays as it was.
pub read_written : (ws out table : List ℕ) (n : ℕ) → write_answer ws (length out) ≡ Ok n → 8192 ≤ length table
    → (read_answer (take n (out_after ws out)) (length table) ≡ Ok (length ws)) × (table_after (take n (out_after ws out)) table ≡ written ws table)
read_written ws out table n h big =
    let a = accepted_writes ws out n h in
    rw (a.after, take_written (text_of ws) out n a.count) (text_reads ws table a.passed big)

-- A table that passes is written whenever its text fits, and 43,022 bytes are always enough.
pub passed_written : (ws out : List ℕ) → Passed ws → 43022 ≤ length out → write_answer ws (length out) ≡ Ok (length (text_of ws))
passed_written ws out p big = (passed_writes ws out p (omega (arith, text_short ws p))).0

-- "Demand 2's byte for byte now holds for canonical texts": writing what was read from one gives its bytes; what lies past them stays as it was.
pub written_read : (ts table out : List ℕ) (k : ℕ) → Canonical ts → read_answer ts (length table) ≡ Ok k → length ts ≤ length out
    → (write_answer (take k (table_after ts table)) (length out) ≡ Ok (length ts)) × (out_after (take k (table_after ts table)) out ≡ written ts out)
written_read ts table out k c h fits =
    let t = (same_bytes_exactly ts table k h).1 c in
    rw t at (passed_writes (take k (table_after ts table)) out (read_passes ts table k h) (rw t fits))
