-- The test's answer case by case: a refused table, a refused set, and what is known where neither is.
use Prim.Native.Nat.{ℕ}
use mathlib.Core.Path.{◌≡◌, refl, sym, ap, ◌∙◌}
use mathlib.Core.Logic.{◌↔◌}
use mathlib.Core.List.{List}
use mathlib.Core.Bool.{Bool}
use lib.ListN.{get_or}
use Rattle.semantics.specs.Decide.{stable_test}
use Rattle.answers.specs.declared.Refusal.{Refusal}
use Rattle.std.specs.Prelude.{Ok, Err}
use Rattle.table.specs.declared.Table.{Table}
use Rattle.semantics.specs.Lists.{bit}
use Rattle.semantics.proofs.Tests.{bit_same}
use Rattle.table.specs.Questions.{on_walk, table_numbers, table_of, on_table}
use Rattle.table.proofs.Laws.{walk_taken, on_taken}
use Rattle.table.specs.Programs.{program_of}
use Rattle.table.proofs.Encoding.{valid_passed}
use Rattle.models_test.specs.Answer.{set_of, test_of}
use Rattle.models_test.specs.Kept.{Testable}
use Rattle.models_test.proofs.Entries.{set_iff}

pub table_refused : (ws set : List ℕ) (r : Refusal) → table_of ws ≡ Err r → test_of ws set ≡ Err r
unfolding test_of on_table
table_refused ws set r h = rw h

module _ (ws set : List ℕ) (t : Table) (h : table_of ws ≡ Ok t) where
  same : (n : ℕ) → n ≡ t.atoms → n ≡ get_or ws 0 0
  same n e = e ∙ ap (λ (t : Table). t.atoms) (valid_passed ws t h).1

  pub set_refused : (n : ℕ) → n ≡ t.atoms → (r : Refusal) → set_of set n ≡ Err r → test_of ws set ≡ Err r
  unfolding test_of on_table on_walk
  set_refused n e r q = rw (h, ← same n e, q)

  module _ (n : ℕ) (e : n ≡ t.atoms) (d : ℕ) (q : set_of set n ≡ Ok d) where
    pub tested : test_of ws set ≡ Ok (bit (stable_test (program_of ws) set))
    unfolding test_of on_table on_walk
    tested = rw (h, ← same n e, q)

    pub testable : Testable ws set
    testable =
        let w = (set_iff set n).0 (d, q) in
        record { passed = (valid_passed ws t h).0; small = w.0; ordered = rw (same n e) at w.1 }

-- ---- an accepted call asked a table and a set that passed

pub taken_testable : (ws set : List ℕ) (k : ℕ) → test_of ws set ≡ Ok k → Testable ws set
unfolding test_of
taken_testable ws set k h =
    let (t, c, a) = on_taken (table_of ws) _ k h in
    let (e, w, d) = walk_taken (set_of set (get_or ws 0 0)) _ k a in
    testable ws set t c (get_or ws 0 0) (sym (ap (λ (t : Table). t.atoms) (valid_passed ws t c).1)) e w

pub accepted_iff : (ws set : List ℕ) (b : Bool) → (test_of ws set ≡ Ok (bit b)) ↔ (Testable ws set × (stable_test (program_of ws) set ≡ b))
unfolding test_of
accepted_iff ws set b = (
  λ h.
      let (t, c, a) = on_taken (table_of ws) _ (bit b) h in
      let (e, w, d) = walk_taken (set_of set (get_or ws 0 0)) _ (bit b) a in
      let q : bit (stable_test (program_of ws) set) ≡ bit b = cc in
      (testable ws set t c (get_or ws 0 0) (sym (ap (λ (t : Table). t.atoms) (valid_passed ws t c).1)) e w, bit_same _ b q),
  λ h.
      let w = (set_iff set (get_or ws 0 0)).1 (h.0.small, h.0.ordered) in
      tested ws set (table_numbers ws) h.0.passed.valid (get_or ws 0 0) refl w.0 w.1 ∙ ap (λ x. Ok (bit x)) h.1,
)
