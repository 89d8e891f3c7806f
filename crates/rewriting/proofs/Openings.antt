-- What is left of a program opens few steps of kinds 1 to 8: one that is eligible there was eligible before, where its partner is as it was, or the kept heads or the reach that it
-- asks for. Stated of any two programs, of which the second has nothing that the first has not.
use mathlib.Core.Path.{◌≡◌, refl, subst}
use mathlib.Core.Logic.{◌⊎◌, inl, inr, ⊎_elim}
use mathlib.Core.Bool.{Bool, true, false, So, false≢true}
use Prim.Native.Nat.{ℕ}
use Rattle.semantics.specs.Programs.{Clause}
use Rattle.semantics.proofs.Tests.{and_iff}
use Rattle.rewriting.specs.Marked.{Marked, entry, left}
use Rattle.rewriting.specs.Reaches.{reach}
use Rattle.rewriting.specs.Steps.{Step, step, fact, in_no_head, condition, condition_holds, applies}
use Rattle.rewriting.specs.Kinds.{Kind, tautology, contradiction, success, no_head, blocked, failure, loop, subsumed, excluded, uses_partner, on_target}
use Rattle.rewriting.specs.Uses.{asks_no_head}
use Rattle.rewriting.specs.Reducer.{passed_over, eligible}
use Rattle.rewriting.proofs.Equal.{passed_iff, eligible_iff}
use Rattle.rewriting.proofs.Subclauses.{NoMore, Keeps, back}

-- of a partner that lost a literal: what kinds 3, 5 and 8 ask of it alone
abbrev pub ready : Kind → Clause → Bool
ready success d = fact d
ready blocked d = fact d
ready subsumed d = true
ready tautology d = false
ready contradiction d = false
ready no_head d = false
ready failure d = false
ready loop d = false
ready excluded d = false

-- What is left of P is Q, and O are the steps that it opens: but for them the partner is as it was, and so are the kept heads and the reach, as far as a step asks for them; and a
-- step that was passed over and still applies, with the partner as it was, is still passed over.
pub record Openings (n : ℕ) (P Q : Marked) (O : Step → Type 0) : Type 0 where
  pub below : (i : ℕ) → NoMore (entry Q i) (entry P i)
  pub passed : (u : Step) → So (passed_over P u) → entry Q u.partner ≡ entry P u.partner → So (applies n Q u) → So (passed_over Q u)
  pub partner : (u : Step) → So (uses_partner u.kind) → So (entry Q u.partner).kept → So (ready u.kind (entry Q u.partner).clause) → (entry Q u.partner ≡ entry P u.partner) ⊎ O u
  pub heads : (u : Step) → So (asks_no_head u.kind) → So (in_no_head (left Q) u.atom) → So (in_no_head (left P) u.atom) ⊎ O u
  pub reaches : (u : Step) → u.kind ≡ loop → ((a : ℕ) → So (reach (left P) a) → So (reach (left Q) a)) ⊎ O u

module _ (n : ℕ) (P Q : Marked) (O : Step → Type 0) (r : Openings n P Q O) where
  -- what is not opened carries back
  opened_at : (k : Kind) (t p a : ℕ) → So (on_target k) → let u = step k t p a in So (applies n Q u) → Keeps k P Q p a ⊎ O u
  unfolding applies condition_holds condition
  opened_at tautology t p a j q = inl tt
  opened_at contradiction t p a j q = inl tt
  opened_at success t p a j q = let w = simp and_iff at q in r.partner (step success t p a) refl w.1.0.0 ((and_iff _ _).1 (w.1.1.1.0.0, w.1.1.1.0.1))
  opened_at no_head t p a j q = let w = simp and_iff at q in ⊎_elim (λ x. inl (λ _. x)) inr (r.heads (step no_head t p a) refl w.1.1.1.1)
  opened_at blocked t p a j q = let w = simp and_iff at q in r.partner (step blocked t p a) refl w.1.0.0 ((and_iff _ _).1 (w.1.1.1.0.0, w.1.1.1.0.1))
  opened_at failure t p a j q = let w = simp and_iff at q in ⊎_elim (λ x. inl (λ _. x)) inr (r.heads (step failure t p a) refl w.1.1.1.1)
  opened_at loop t p a j q = ⊎_elim (λ x. inl (x a)) inr (r.reaches (step loop t p a) refl)
  opened_at subsumed t p a j q = let w = simp and_iff at q in r.partner (step subsumed t p a) refl w.1.0.0 refl
  opened_at excluded t p a j q = absurd (false≢true j)

  -- what a kind that spares asks of the other clauses, carried back: the partner as it was
  partner_keeps : (k : Kind) (p a : ℕ) → (k ≡ blocked) ⊎ (k ≡ subsumed) → Keeps k P Q p a → entry Q p ≡ entry P p
  partner_keeps k p a o x = ⊎_elim (λ e. subst (λ k. Keeps k P Q p a) e x) (λ e. subst (λ k. Keeps k P Q p a) e x) o

  -- A step of kinds 1 to 8 that is eligible on Q was eligible on P, or is opened.
  pub opened_by : (u : Step) → So (on_target u.kind) → So (eligible n Q u) → So (eligible n P u) ⊎ O u
  opened_by u j q =
      let w = (eligible_iff Q u n).0 q in
      ⊎_elim
      (λ e. inl ((eligible_iff P u n).1 (
        back n P Q r.below u e w.0,
        λ o. w.1 (r.passed u o (partner_keeps u.kind u.partner u.atom ((passed_iff P u).0 o).kind e) w.0),
      )))
      inr (opened_at u.kind u.target u.partner u.atom j w.0)
