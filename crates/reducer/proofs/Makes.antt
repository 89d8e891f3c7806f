-- A step that was found is made: what it leaves of the marks, and of the constraints that exclude no atom.
use mathlib.Core.Path.{◌≡◌, refl, sym, ap, subst, ◌∙◌}
use mathlib.Core.Bool.{So}
use mathlib.Core.Logic.{◌≢◌}
use mathlib.Core.List.{List}
use Prim.Native.Nat.{ℕ}
use lib.ListN.{get_or}
use Rattle.semantics.specs.Programs.{Atoms}
use Rattle.rewriting.specs.Marked.{entry}
use Rattle.rewriting.specs.Kinds.{Kind, no_head, excluded, number, kind_of, on_target}
use Rattle.rewriting.specs.Steps.{effect}
use Rattle.rewriting.proofs.Rows.{each_kind, kind_of_number}
use Rattle.table.specs.View.{view}
use Rattle.table.specs.Clearing.{marks_without}
use Rattle.table.specs.Effects.{marks_after}
use Rattle.table.proofs.View.{view_after, after_off}
use Rattle.step_parts.specs.Parts.{Ready}
use Rattle.step_conditions.specs.declared.Step.{Step}
use Rattle.step_conditions.specs.Known.{step_of}
use Rattle.search_openings.specs.Opened.{StepMade}
use Rattle.search_exclusion.specs.Smallest.{Idle}
use Rattle.search_idle.specs.Forgets.{Heads, Forgets}
use Rattle.search_idle.proofs.Forgets.{forgets_none, forgets_as}
use Rattle.search_idle.proofs.Stays.{idle_effect}
use Rattle.reducer.specs.Runs.{StepFound}

-- kind 9
pub after_nine : (ws ms ms' : List ℕ) (s : Step Kind) → s.kind ≡ excluded → ms' ≡ marks_without ws ms s.atom → ms' ≡ marks_after ws ms (step_of s)
after_nine ws ms ms' s k e = e ∙ sym (after_off ws ms (step_of s) (rw k refl))

-- kinds 1 to 8
pub step_made : (ws ms : List ℕ) (s : Step Kind) → StepFound ws ms s → So (on_target s.kind) → StepMade ws ms s
step_made ws ms s f o = record { on = o; applies = f.applies }

pub other_on_target : (k : Kind) → k ≢ excluded → So (on_target k)
other_on_target = each_kind (λ k. k ≢ excluded → So (on_target k)) (λ d. refl) (λ d. refl) (λ d. refl) (λ d. refl) (λ d. refl) (λ d. refl) (λ d. refl) (λ d. refl) (λ d. absurd (d refl))

module _ (ws ms index ms' : List ℕ) (r : Ready ws ms index) (s : Step Kind) (f : StepMade ws ms s) (e : ms' ≡ marks_after ws ms (step_of s)) where
  is_effect : view ws ms' ≡ effect (view ws ms) (step_of s)
  is_effect = rw e (view_after ws ms r.placed.passed r.marks (get_or ws 0 0) (step_of s) f.applies)

  four : number (step_of s).kind ≡ 4 → s.kind ≡ no_head
  four q = sym (kind_of_number s.kind) ∙ ap kind_of q

  module _ (x : List ℕ) (i : Idle (get_or ws 0 0) (view ws ms) x) where
    -- what kind 4 may have made definite, and no other kind
    abbrev Dropped : Atoms → Type 0
    Dropped F = number (step_of s).kind ≡ 4 → Heads F (entry (effect (view ws ms) (step_of s)) s.target)

    made : (y : List ℕ) → Forgets Dropped (effect (view ws ms) (step_of s)) x y → Idle (get_or ws 0 0) (view ws ms') y
    made y g = subst (λ P. Idle (get_or ws 0 0) P y) (sym is_effect) (idle_effect (get_or ws 0 0) (view ws ms) (step_of s) f.applies f.on x y g i)

    pub idle_made : s.kind ≢ no_head → Idle (get_or ws 0 0) (view ws ms') x
    idle_made d = made x (forgets_none Dropped _ x (λ q. absurd (d (four q))))

    pub idle_four : (t : ℕ) (y : List ℕ) → t ≡ s.target → Forgets (λ F. Heads F (entry (view ws ms') t)) (view ws ms') x y → Idle (get_or ws 0 0) (view ws ms') y
    idle_four t y q g = made y (forgets_as (λ F. Heads F (entry (effect (view ws ms) (step_of s)) s.target)) Dropped _ x y (λ F h _. h)
        (subst (λ u. Forgets (λ F. Heads F (entry (effect (view ws ms) (step_of s)) u)) (effect (view ws ms) (step_of s)) x y) q (subst (λ P. Forgets (λ F. Heads F (entry P t)) P x y) is_effect g)))
