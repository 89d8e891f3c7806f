-- The test on masks says yes exactly for the stable sets.
use Prim.Native.Nat.{ℕ}
use mathlib.Core.Path.{◌≡◌, sym, ◌∙◌}
use mathlib.Core.Logic.{◌↔◌}
use mathlib.Core.List.{List}
use mathlib.Core.Bool.{not, ◌&&◌, So}
use Rattle.semantics.specs.Lists.{◌∈◌, any, all, within}
use Rattle.semantics.specs.Programs.{Clause, Atoms, Subset}
use Rattle.semantics.specs.Decide.{stable_test}
use Rattle.semantics.specs.Programs.{among}
use Rattle.semantics.proofs.Tests.{and_iff, not_iff, or_iff, all_iff, any_iff, mem_iff, within_iff, so_by, so_ext}
use Rattle.semantics.proofs.Models.{Any, Holds, Models}
use Rattle.semantics.proofs.Decide.{test_iff}
use Rattle.table.specs.Programs.{program_of}
use Rattle.models_masks.specs.declared.Rule.{Rule}
use Rattle.models_masks.specs.Masks.{mask_of, modelled, minimal, enters, clause_holds}
use Rattle.models_test.specs.Kept.{Filled, Testable}
use Rattle.models_masks.proofs.Models.{masks_iff, stable_masks}

module _ (s : List ℕ) (Y : Atoms) (sub : Subset Y (among s)) where
  enters_iff : (c : Clause) → So (enters s c) ↔ ((¬ Any (among s) c.neg) × ((a : ℕ) → a ∈ c.pos → a ∈ s))
  enters_iff c = (
    λ h. let w = (and_iff (not (any (among s) c.neg)) (within c.pos s)).0 h in
        (λ k. (not_iff _).0 w.0 ((any_iff _ _).1 k), (within_iff _ _).0 w.1),
    λ h. (and_iff _ _).1 ((not_iff _).1 (λ k. h.0 ((any_iff _ _).0 k)), (within_iff _ _).1 h.1),
  )

  clause_iff : (c : Clause) → So (clause_holds s (mask_of s Y) c) ↔ Holds (among s) Y c
  unfolding clause_holds
  clause_iff c = (
    λ h n p. let w : (a : ℕ) → a ∈ c.pos → a ∈ s = λ a m. (mem_iff _ _).0 (sub a (p a m)) in
        (masks_iff s Y sub c w).0 ((or_iff _ _).0 h (λ o. (not_iff _).0 o ((enters_iff c).1 (n, w)))) p,
    λ f. (or_iff (not (enters s c)) _).1 (λ o.
        let w = (enters_iff c).0 (so_by _ (λ k. o ((not_iff _).1 k))) in
        (masks_iff s Y sub c w.1).1 (f w.0)),
  )

  models_masks : (cs : List Clause) → So (all (λ c. clause_holds s (mask_of s Y) c) cs) ↔ Models (among s) Y cs
  models_masks cs = (
    λ h c m. (clause_iff c).0 ((all_iff (λ c. clause_holds s (mask_of s Y) c) cs).0 h c m),
    λ h. (all_iff (λ c. clause_holds s (mask_of s Y) c) cs).1 (λ c m. (clause_iff c).1 (h c m)),
  )

-- the masks' answer is that of the test over all sublists
pub test_masks : (ws s : List ℕ) (rules : List Rule) → Testable ws s → Filled ws s rules → (m : ℕ) → m ≡ mask_of s (among s)
    → (modelled rules m && minimal rules m) ≡ stable_test (program_of ws) s
unfolding minimal program_of
test_masks ws s rules t f m e =
    let P = program_of ws in
    let i = stable_masks P s (among s) (modelled rules) t.ordered.ascends (λ a k. k) (λ a k. t.ordered.below a ((mem_iff _ _).0 k)) (λ Y sub. (
      λ h. (models_masks s Y sub P.clauses).0 (sym (f (mask_of s Y)) ∙ h),
      λ h. f (mask_of s Y) ∙ (models_masks s Y sub P.clauses).1 h,
    )) in
    rw e (so_ext _ _ (λ h. (test_iff P s).1 (i.0 h)) (λ h. i.1 ((test_iff P s).0 h)))
