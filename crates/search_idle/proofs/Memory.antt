-- What is idle after a step of kind 9: what was, but for what is forgotten; and where all is forgotten, nothing is.
use mathlib.Core.Path.{◌≡◌, sym, ap, subst, ◌∙◌}
use mathlib.Core.Bool.{So}
use mathlib.Core.List.{List}
use Prim.Native.Nat.{ℕ, ◌≤◌}
use lib.ListN.{length, replicate}
use Rattle.rewriting.specs.Marked.{Marked}
use Rattle.rewriting.specs.Exclusion.{removal}
use Rattle.table.specs.Questions.{Passed}
use Rattle.table.specs.View.{view}
use Rattle.table.specs.Clearing.{marks_without}
use Rattle.table.proofs.Clearing.{view_without}
use Rattle.step_reach.specs.Bytes.{in_bytes}
use Rattle.step_reach.proofs.Laws.{none_in}
use Rattle.search_exclusion.specs.Smallest.{Idle}
use Rattle.search_idle.specs.Forgets.{HeadsWith, Forgets}
use Rattle.search_idle.proofs.Stays.{idle_removal}
use Rattle.search_idle.proofs.Forgets.{forgets_as, new_without}

-- nothing is known to be idle
pub idle_none : (n : ℕ) (P : Marked) (k : ℕ) (s : List ℕ) → s ≡ replicate k 0 → Idle n P s
idle_none n P k s e = record { headless = λ t m. absurd (out t m); positive = λ t m. absurd (out t m); none = λ t a m. absurd (out t m) }
  where
    out : (t : ℕ) → So (in_bytes s t) → ⊥
    out t m = none_in k t (subst (λ s. So (in_bytes s t)) e m)

-- What is idle is what was, but for what is forgotten.
pub idle_kept : (ws ms ms' : List ℕ) (a n : ℕ) (s s' : List ℕ) → Passed ws → length ws ≤ length ms → ms' ≡ marks_without ws ms a → Forgets (HeadsWith ws (view ws ms') a) (view ws ms') s s' → Idle n (view ws ms) s → Idle n (view ws ms') s'
idle_kept ws ms ms' a n s s' p l q d h =
    let e : view ws ms' ≡ removal a (view ws ms) = ap (view ws) q ∙ view_without ws ms a p l in
    subst (λ P. Idle n P s') (sym e) (idle_removal (view ws ms) a n s s' (forgets_as _ _ _ s s' (new_without ws ms a) (subst (λ Q. Forgets (HeadsWith ws Q a) Q s s') e d)) h)
