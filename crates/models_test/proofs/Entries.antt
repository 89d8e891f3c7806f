-- A set passes questions 19 to 21 exactly when it is at most 16 ascending atoms below n.
use Prim.Native.Nat.{ℕ, ◌≤◌}
use mathlib.Core.Path.{◌≡◌, sym, ap, subst, ◌∙◌}
use mathlib.Core.Logic.{◌↔◌}
use mathlib.Core.List.{List, [], append-nil}
use native.Mathlib.Nat.{zero-add, le_of_eq}
use lib.ListN.{length}
use lib.Seq.{take-length}
use borrow.Author.Tests.{le-leb, leb-true}
use Rattle.answers.specs.declared.EntryQuestion.TheVariants.{EntryBelow, EntryAscending}
use Rattle.answers.specs.declared.Refusal.TheVariants.{Entry}
use Rattle.table.specs.Questions.{Walk}
use Rattle.std.specs.Prelude.{Ok}
use Rattle.answers.specs.Answers.{ask}
use Rattle.table.specs.Encoding.{Ordered}
use Rattle.table.proofs.Laws.{ask_inv}
use Rattle.table.proofs.Rising.{Rising, rising_iff, atoms_of, atoms_inv}
use Rattle.models_test.specs.Answer.{set_from, set_of}

-- past question 19
pub set_on : (set : List ℕ) (n : ℕ) (w : Walk) → length set ≤ 16 → w ≡ set_from set n 0 0 (length set) → w ≡ set_of set n
unfolding set_of ask
set_on set n w l q = rw (le-leb (length set) 16 l) q

pub set_iff : (set : List ℕ) (n : ℕ) → ((e : ℕ) × (set_of set n ≡ Ok e)) ↔ ((length set ≤ 16) × Ordered n set)
unfolding set_of
set_iff set n = (
  λ h.
      let (t, q) = ask_inv _ _ _ h.0 h.1 in
      let (r, z) = atoms_inv (Entry EntryBelow) (Entry EntryAscending) set n 0 0 (length set) h.0 q (le_of_eq (zero-add (length set))) in
      (leb-true (length set) 16 t, (rising_iff n set).0 (subst (Rising n 0) (take-length set) r)),
  λ h. (
    length set,
    sym (set_on set n (Ok (length set)) h.0
        (sym (atoms_of (Entry EntryBelow) (Entry EntryAscending) set set [] n 0 (sym (append-nil set)) h.1 ∙ ap Ok (zero-add (length set))))),
  ),
)
