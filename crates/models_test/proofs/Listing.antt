-- The list of masks, one clause more at a time: it asks of every mask what the clauses so far ask.
use Prim.Native.Nat.{ℕ, ◌+◌, ◌≤◌, ◌<◌}
use mathlib.Core.Path.{◌≡◌, ◌∙◌}
use mathlib.Core.List.{List, [], ◌∷◌, ◌++◌}
use mathlib.Core.Bool.{true, false}
use native.Mathlib.Omega.{arith}
use lib.ListN.{length, get_or, length-append}
use Rattle.semantics.specs.Programs.{Clause}
use Rattle.table.specs.Questions.{Passed}
use Rattle.table.specs.Places.{next_at}
use Rattle.table.specs.Programs.{clause_of}
use Rattle.table.proofs.Encoding.{passed_limits}
use Rattle.table.proofs.Walks.{Along, along_start, along_next, AskedTo, asked_start, asked_next, asked_end}
use Rattle.models_masks.specs.declared.Rule.{Rule}
use Rattle.models_masks.specs.Masks.{modelled, enters, clause_holds}
use Rattle.models_masks.proofs.Models.{modelled_behind}
use Rattle.models_test.specs.Kept.{RuleOf, Added, Filled}

-- a clause that does not enter adds nothing, one that enters its masks
pub added_none : (s : List ℕ) (c : Clause) (rules : List Rule) → enters s c ≡ false → Added s c rules rules
unfolding clause_holds
added_none s c rules q = record { most = omega arith; asks = λ x. rw q }

pub added_one : (s : List ℕ) (c : Clause) (rules : List Rule) (rule : Rule) → enters s c ≡ true → RuleOf s c rule → Added s c rules (rules ++ rule ∷ [])
unfolding clause_holds
added_one s c rules rule q r = record {
  most = omega (arith, length-append rules (rule ∷ []));
  asks = λ x. modelled_behind rules rule x ∙ rw (r.body, r.head, q);
}

-- k clauses are listed, and the next is at `at`
pub record Filling (ws s : List ℕ) (rules : List Rule) (k at : ℕ) : Type 0 where
  pub along : Along ws k at
  pub most : length rules ≤ k
  pub asks : (x : ℕ) → AskedTo (λ c. clause_holds s x c) ws k at (modelled rules x)

pub filling_start : (ws s : List ℕ) → Filling ws s [] 0 2
unfolding modelled
filling_start ws s = record { along = along_start ws; most = omega arith; asks = λ x. asked_start (λ c. clause_holds s x c) ws }

module _ (ws s : List ℕ) (rules : List Rule) (k at : ℕ) (f : Filling ws s rules k at) where
  pub filling_room : Passed ws → k < get_or ws 1 0 → length rules < 2048
  filling_room p h = let m = (passed_limits ws p).few_clauses in omega (arith, f.most)

  pub filling_next : k < get_or ws 1 0 → (rules' : List Rule) → Added s (clause_of ws at) rules rules' → Filling ws s rules' (k + 1) (next_at ws at)
  filling_next h rules' a = record {
    along = along_next ws k at h f.along;
    most = omega (arith, a.most, f.most);
    asks = λ x. asked_next (λ c. clause_holds s x c) ws k at (modelled rules x) (f.asks x) h (modelled rules' x) (a.asks x);
  }

  pub filling_end : get_or ws 1 0 ≤ k → Filled ws s rules
  filling_end h x = asked_end (λ c. clause_holds s x c) ws k at (modelled rules x) (f.asks x) h
