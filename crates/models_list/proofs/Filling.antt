-- The masks of a table's clauses, one clause more at a time.
use Prim.Native.Nat.{ℕ, ◌+◌, ◌-◌, ◌≤◌, ◌<◌}
use mathlib.Core.Path.{◌≡◌, sym, ap, ◌∙◌}
use mathlib.Core.List.{List, [], ◌∷◌, ◌++◌, map, append-nil}
use native.Mathlib.Omega.{arith}
use lib.ListN.{length, get_or, take, set, length-set}
use Rattle.std.proofs.Common.{append_assoc}
use Rattle.std.proofs.lemmas.List.{take_more_set}
use Rattle.table.specs.Questions.{Passed}
use Rattle.table.specs.Places.{next_at}
use Rattle.table.specs.Programs.{clause_of, clauses_of, program_of}
use Rattle.table.proofs.Encoding.{passed_limits}
use Rattle.table.proofs.Walks.{Along, along_start, along_next, clauses_all, clauses_more, clauses_none}
use Rattle.models_list.specs.declared.masks.Masks.{Masks}
use Rattle.models_list.specs.Masks.{masks_of}

-- k clauses have their masks, and the next is at `at`
pub record Filling (ws : List ℕ) (cs : List Masks) (k at : ℕ) : Type 0 where
  pub along : Along ws k at
  pub room : 2048 ≤ length cs
  pub masked : take k cs ++ map masks_of (clauses_of ws (get_or ws 1 0 - k) at) ≡ map masks_of (program_of ws).clauses

module _ (ws : List ℕ) (cs : List Masks) where
  pub filling_start : 2048 ≤ length cs → Filling ws cs 0 2
  filling_start l = record { along = along_start ws; room = l; masked = ap (map masks_of) (clauses_all ws) }

  module _ (k at : ℕ) (pass : Passed ws) (g : Filling ws cs k at) where
    pub filling_next : k < get_or ws 1 0 → (c : Masks) → c ≡ masks_of (clause_of ws at) → Filling ws (set cs k c) (k + 1) (next_at ws at)
    filling_next l c e =
        let few = (passed_limits ws pass).few_clauses in
        let here : k < length cs = omega (arith, g.room) in
        let later = map masks_of (clauses_of ws (get_or ws 1 0 - (k + 1)) (next_at ws at)) in
        let same : c ∷ later ≡ map masks_of (clauses_of ws (get_or ws 1 0 - k) at) = ap (λ x. x ∷ later) e ∙ ap (map masks_of) (sym (clauses_more ws k (get_or ws 1 0) at l)) in
        record {
          along = along_next ws k at l g.along;
          room = rw (length-set cs k c) g.room;
          masked = ap (λ x. x ++ later) (take_more_set cs k c here) ∙ append_assoc (take k cs) (c ∷ []) later ∙ ap (λ x. take k cs ++ x) same ∙ g.masked;
        }

    pub filling_end : (n : ℕ) → n ≡ get_or ws 1 0 → n ≤ k → take n cs ≡ map masks_of (program_of ws).clauses
    filling_end n e l =
        let i : n ≡ k = omega (arith, g.along.most) in
        ap (λ n. take n cs) i ∙ sym (append-nil (take k cs)) ∙ ap (λ x. take k cs ++ map masks_of x) (sym (clauses_none ws k (get_or ws 1 0) at (omega arith))) ∙ g.masked
