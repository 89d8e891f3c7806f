-- The searches of the kinds, one after the other: what they find is the smallest step.
use mathlib.Core.Path.{◌≡◌, refl, sym, ap, subst, ◌∙◌}
use mathlib.Core.Logic.{◌≢◌, by_cases}
use mathlib.Core.Option.{Option, none, some}
use mathlib.Core.List.{[], ◌∷◌}
use Prim.Native.Nat.{ℕ, zero, suc, ◌+◌, ◌≤◌, ◌<◌}
use native.Mathlib.Omega.{arith}
use native.Mathlib.Decide.{ℕ_discrete}
use Rattle.rewriting.specs.Marked.{Marked}
use Rattle.rewriting.specs.Steps.{Step}
use Rattle.rewriting.specs.Kinds.{Kind, tautology, contradiction, success, no_head, blocked, failure, loop, subsumed, excluded, kind_of}
use Rattle.rewriting.specs.Search.{least, first_target, first_step}
use Rattle.rewriting.proofs.Quiet.{least_none, least_some}
use Rattle.step_conditions.specs.declared.Step as row
use Rattle.std.specs.Prelude as rust
use Rattle.std.specs.Prelude.{Some, None}
use Rattle.std.specs.List.{slice_index_or}
use Rattle.search_targets.specs.Searches.{found_of}
use Rattle.search_first.specs.First.{first_flagged}

pub found_nothing : (x : Option Step) → None ≡ found_of x → x ≡ none
unfolding found_of
found_nothing none e = refl
found_nothing (some s) e = absurd (let q : ◌≡◌ {A = ℕ} 0 1 = cc in omega arith)

-- the kinds of the loop, one place after the other
pub kind_at : (i : ℕ) (d : Kind) → i < 8 → slice_index_or (tautology ∷ contradiction ∷ success ∷ no_head ∷ blocked ∷ failure ∷ loop ∷ subsumed ∷ []) i d ≡ kind_of (suc i)
kind_at zero d h = refl
kind_at (suc zero) d h = refl
kind_at (suc (suc zero)) d h = refl
kind_at (suc (suc (suc zero))) d h = refl
kind_at (suc (suc (suc (suc zero)))) d h = refl
kind_at (suc (suc (suc (suc (suc zero))))) d h = refl
kind_at (suc (suc (suc (suc (suc (suc zero)))))) d h = refl
kind_at (suc (suc (suc (suc (suc (suc (suc zero))))))) d h = refl
kind_at (suc (suc (suc (suc (suc (suc (suc (suc i)))))))) d h = absurd (omega arith)

module _ (n : ℕ) (P : Marked) (i : ℕ) (none_before : (j : ℕ) → j < i → first_target n P (kind_of (suc j)) ≡ none) where
  pub kinds_found : i < 8 → (k : Kind) → k ≡ kind_of (suc i) → (f : rust.Option (row.Step Kind)) → f ≡ found_of (first_target n P k) → f ≢ None → f ≡ found_of (first_flagged n P)
  unfolding found_of first_flagged
  kinds_found b k at f e d = go (first_target n P k) refl e
    where
      go : (x : Option Step) → first_target n P k ≡ x → f ≡ found_of x → f ≡ found_of (first_flagged n P)
      go none q h = absurd (d h)
      go (some s) q h = h ∙ sym (ap found_of (least_some 8 (λ j. first_target n P (kind_of (suc j))) s i b (subst (λ x. first_target n P x ≡ some s) at q) none_before))

  pub kinds_none : 8 ≤ i → None ≡ found_of (first_flagged n P)
  unfolding found_of first_flagged
  kinds_none b = sym (ap found_of (least_none 8 (λ j. first_target n P (kind_of (suc j))) (λ j l. none_before j (omega arith))))

  pub kinds_more : (k : Kind) → k ≡ kind_of (suc i) → None ≡ found_of (first_target n P k) → (j : ℕ) → j < i + 1 → first_target n P (kind_of (suc j)) ≡ none
  kinds_more k at e j l = by_cases (ℕ_discrete j i) (λ d. subst (λ x. first_target n P (kind_of (suc x)) ≡ none) (sym d) (subst (λ x. first_target n P x ≡ none) at (found_nothing _ e)))
      (λ d. none_before j (omega arith))

pub found_one : (f : rust.Option (row.Step Kind)) (s : row.Step Kind) → f ≡ Some s → f ≢ None
found_one f s e d = let q : ◌≡◌ {A = ℕ} 0 1 = cc in omega arith

-- kind 9 comes after the others
pub flagged_found : (n : ℕ) (P : Marked) (f : rust.Option (row.Step Kind)) → f ≡ found_of (first_flagged n P) → f ≢ None → f ≡ found_of (first_step n P)
unfolding found_of first_flagged first_step least
flagged_found n P f e d = go (first_flagged n P) e
  where
    go : (x : Option Step) → f ≡ found_of x → f ≡ found_of (elim x [ none ↦ first_target n P excluded | some s ↦ some s ])
    go none h = absurd (d h)
    go (some s) h = h

pub flagged_none : (n : ℕ) (P : Marked) (f : rust.Option (row.Step Kind)) → None ≡ found_of (first_flagged n P) → f ≡ found_of (first_target n P excluded) → f ≡ found_of (first_step n P)
unfolding first_flagged first_step least
flagged_none n P f e q = q ∙ sym (ap (λ x. found_of (elim x [ none ↦ first_target n P excluded | some s ↦ some s ])) (found_nothing (first_flagged n P) e))
