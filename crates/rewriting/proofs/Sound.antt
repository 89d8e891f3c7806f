-- An applicable step keeps the stable models, and so does every list of steps, accepted or refused at a step.
use mathlib.Core.Path.{◌≡◌, refl}
use mathlib.Core.Logic.Iff
use mathlib.Core.Logic.{◌↔◌, ◌≢◌}
use mathlib.Core.Bool.{Bool, true, false, not, cond, ◌&&◌, So, false≢true}
use mathlib.Core.List.{List, [], ◌∷◌}
use Prim.Native.Nat.{ℕ}
use lib.Dec.{eqb}
use lib.ListN.{set}
use borrow.Author.Tests.{eq-eqb}
use Rattle.semantics.specs.Lists.{all, mem}
use Rattle.semantics.specs.Programs.{Clause, Atoms, Stable, program}
use Rattle.semantics.proofs.Tests.{and_iff, not_iff, mem_iff, within_iff, null_iff}
use Rattle.semantics.proofs.Models.{Same, same_iff, same_trans, Closed}
use Rattle.rewriting.specs.Marked.{Entry, Marked, entry, left, deleted}
use Rattle.rewriting.specs.Reaches.{reach}
use Rattle.rewriting.specs.Steps.{Step, in_no_head, condition, condition_holds, applies, drop_neg, left_by, effect}
use Rattle.rewriting.specs.Runs.{leaves}
use Rattle.rewriting.specs.Kinds.{Kind, tautology, contradiction, success, no_head, blocked, failure, loop, subsumed, excluded, row_of, uses_partner, on_target}
use Rattle.rewriting.specs.Exclusion.{removal}
use Rattle.rewriting.proofs.Left.{each_set, ClosedAt, closed_left}
use Rattle.rewriting.proofs.Rows.{loops, succeeds}
use Rattle.rewriting.proofs.ByKind.{same_tautology, same_contradiction, same_outside, same_drop_neg, same_blocked, same_subsumed, same_success}
use Rattle.rewriting.proofs.Exclusion.{removal_sound}
use Rattle.rewriting.proofs.Reach.{all_but, others_closed, others_not, reach_closed, same_without}

-- a closed set stays closed where an entry asks no more
closed_set : (R : Atoms) (P : Marked) (t : ℕ) (e : Entry) → (ClosedAt R (entry P t) → ClosedAt R e) → Closed R (left P) → Closed R (left (set P t e))
closed_set R P t e f h = let a = (closed_left R P).0 h in (closed_left R (set P t e)).1 (each_set (ClosedAt R) P t e (f (a t)) a)

closed_deleted : (R : Atoms) (P : Marked) (t : ℕ) → Closed R (left P) → Closed R (left (set P t (deleted (entry P t).clause)))
closed_deleted R P t h = closed_set R P t (deleted (entry P t).clause) (λ _ k. absurd (false≢true k)) h

pub partner_other : (P : Marked) (p t : ℕ) → So ((entry P p).kept && not (eqb p t)) → So (entry P p).kept × (p ≢ t)
partner_other P p t h =
    let w = (and_iff _ _).0 h in (w.0, λ e. (not_iff _).0 w.1 (eq-eqb _ _ e))

-- the kinds that keep the models below every set, so also after clauses are added
abbrev pub strong : Kind → Bool
strong tautology = true
strong contradiction = true
strong success = true
strong no_head = false
strong blocked = true
strong failure = false
strong loop = false
strong subsumed = true
strong excluded = false

module _ (P : Marked) (t p a : ℕ) where
  -- questions 13, 14 and 16
  abbrev pub Ask : Kind → Type 0
  Ask k = So (entry P t).kept × So (cond (uses_partner k) ((entry P p).kept && not (eqb p t)) (eqb p 0)) × So (condition k (left P) (entry P t).clause (entry P p).clause a)

  abbrev After : Kind → List Clause
  After k = left (cond (on_target k) (set P t (left_by (row_of k).deed a (entry P t).clause)) (removal a P))

  pub strong_same : (k : Kind) → So (strong k) → Ask k → (M : Atoms) → Same M (left P) (After k)
  unfolding condition
  strong_same tautology s (kt, u, h) M = let w = simp (and_iff, mem_iff) at h in same_tautology M P t a w.0 w.1
  strong_same contradiction s (kt, u, h) M = let w = simp (and_iff, mem_iff) at h in same_contradiction M P t a w.0 w.1
  strong_same success s (kt, u, h) M =
      let x = succeeds (left P) (entry P t).clause (entry P p).clause a h in let w = simp (and_iff, null_iff) at x.is_fact in let v = partner_other P p t u in
      same_success M P t p v.1 v.0 a kt w.0 w.1 x.head
  strong_same no_head s (kt, u, h) M = absurd (false≢true s)
  strong_same blocked s (kt, u, h) M =
      let w = simp (and_iff, null_iff, within_iff) at h in let v = partner_other P p t u in
      same_blocked M P t p v.1 v.0 w.0.0 w.0.1 w.1
  strong_same failure s (kt, u, h) M = absurd (false≢true s)
  strong_same loop s (kt, u, h) M = absurd (false≢true s)
  strong_same subsumed s (kt, u, h) M =
      let w = simp (and_iff, within_iff) at h in let v = partner_other P p t u in
      same_subsumed M P t p v.1 v.0 w.0 w.1.0 w.1.1
  strong_same excluded s (kt, u, h) M = absurd (false≢true s)

  by_kind : (k : Kind) → Ask k → (n : ℕ) (M : Atoms) → Stable (program n (left P)) M ↔ Stable (program n (After k)) M
  unfolding condition
  by_kind tautology h n M = same_iff _ _ _ _ (strong_same tautology refl h M)
  by_kind contradiction h n M = same_iff _ _ _ _ (strong_same contradiction refl h M)
  by_kind success h n M = same_iff _ _ _ _ (strong_same success refl h M)
  by_kind blocked h n M = same_iff _ _ _ _ (strong_same blocked refl h M)
  by_kind subsumed h n M = same_iff _ _ _ _ (strong_same subsumed refl h M)
  by_kind no_head (kt, u, h) n M =
      let w = (and_iff (mem a (entry P t).clause.neg) (in_no_head (left P) a)).0 h in let c = others_closed (left P) a w.1 in
      same_without n (left P) (After no_head) M (all_but a) a c (closed_set (all_but a) P t (drop_neg a (entry P t).clause) (λ f k. f kt) c) (others_not a) (λ o. same_drop_neg M P t a kt o)
  by_kind failure (kt, u, h) n M =
      let w = (and_iff _ _).0 h in let c = others_closed (left P) a w.1 in
      same_without n (left P) (After failure) M (all_but a) a c (closed_deleted (all_but a) P t c) (others_not a) (λ o. same_outside M P t a o ((mem_iff _ _).0 w.0))
  by_kind excluded (kt, u, h) n M = removal_sound n P t a kt h M
  by_kind loop (kt, u, h) n M =
      let w = (loops (left P) (entry P t).clause (entry P p).clause a).0 h in
      same_without n (left P) (After loop) M (reach (left P)) a (reach_closed (left P)) (closed_deleted (reach (left P)) P t (reach_closed (left P))) w.outside (λ o. same_outside M P t a o w.there)

-- what an applicable step asks
pub applies_ask : (n : ℕ) (P : Marked) (s : Step) → So (applies n P s) → Ask P s.target s.partner s.atom s.kind
unfolding applies condition_holds
applies_ask n P s h = let w = simp and_iff at h in (w.0, w.1.0, w.1.1.1)

-- An applicable step keeps the stable models.
pub step_sound : (n : ℕ) (P : Marked) (s : Step) → So (applies n P s) → (M : Atoms) → Stable (program n (left P)) M ↔ Stable (program n (left (effect P s))) M
unfolding effect
step_sound n P s h M = by_kind P s.target s.partner s.atom s.kind (applies_ask n P s h) n M

-- Every list keeps them, up to the first step that is refused.
pub list_sound : (n : ℕ) (P : Marked) (l : List Step) (M : Atoms) → Stable (program n (left P)) M ↔ Stable (program n (left (leaves n P l))) M
unfolding leaves
list_sound n P [] M = Iff.rfl
list_sound n P (s ∷ l) M = go (applies n P s) refl (list_sound n (effect P s) l M)
  where
    go : (t : Bool) → applies n P s ≡ t → Stable (program n (left (effect P s))) M ↔ Stable (program n (left (leaves n (effect P s) l))) M
        → Stable (program n (left P)) M ↔ Stable (program n (left (cond t (leaves n (effect P s) l) P))) M
    go true e r = Iff.trans (step_sound n P s e M) r
    go false e r = Iff.rfl

-- one step of kind 1, 2, 3, 5 or 8
step_same : (n : ℕ) (P : Marked) (s : Step) → So (strong s.kind) → So (applies n P s) → (M : Atoms) → Same M (left P) (left (effect P s))
unfolding effect
step_same n P s q h M = strong_same P s.target s.partner s.atom s.kind q (applies_ask n P s h) M

-- After a list of kinds 1, 2, 3, 5 and 8 alone the models below every set are the same, so any clauses may be added.
pub list_same : (n : ℕ) (P : Marked) (l : List Step) → So (all (λ s. strong s.kind) l) → (M : Atoms) → Same M (left P) (left (leaves n P l))
unfolding leaves
list_same n P [] k M = λ X sub. Iff.rfl
list_same n P (s ∷ l) k M =
    let v = (and_iff (strong s.kind) (all (λ s. strong s.kind) l)).0 k in
    go (applies n P s) refl v.0 (list_same n (effect P s) l v.1 M)
  where
    go : (t : Bool) → applies n P s ≡ t → So (strong s.kind) → Same M (left (effect P s)) (left (leaves n (effect P s) l))
        → Same M (left P) (left (cond t (leaves n (effect P s) l) P))
    go true e q r = same_trans (step_same n P s q e M) r
    go false e q r = λ X sub. Iff.rfl
