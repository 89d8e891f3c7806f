-- When a step of a kind with a partner applies: the one step with that target and partner, whose atom the partner settles.
use mathlib.Core.Path.{◌≡◌, refl, sym, ap, subst, ◌∙◌}
use mathlib.Core.Logic.{◌≢◌}
use mathlib.Core.Bool.{Bool, true, false, not, cond, ◌&&◌, So}
use mathlib.Core.List.Memᴰ
use Prim.Native.Nat.{ℕ, ◌<◌}
use lib.Dec.{eqb, ltb}
use borrow.Author.Tests.{eq-eqb, ne_eqb, lt-ltb}
use Rattle.semantics.specs.Lists.{◌∈◌}
use Rattle.semantics.specs.Programs.{Clause}
use Rattle.rewriting.specs.Marked.{Marked, entry, left}
use Rattle.rewriting.specs.Steps.{atom_known, condition, condition_holds, applies}
use Rattle.rewriting.specs.Kinds.{Kind, success, uses_partner, uses_atom}
use Rattle.rewriting.specs.Search.{partner_atom, step_with}
use Rattle.rewriting.proofs.Rows.{kinds_partner, succeeds}

-- where the condition holds, 15 is answered yes, since the partner's head atoms are below n
pub with_known : (n : ℕ) (P : Marked) (k : Kind) (t p : ℕ) → So (uses_partner k) → ((a : ℕ) → a ∈ (entry P p).clause.head → a < n) → So (condition_holds P (step_with P k t p)) → So (atom_known n (step_with P k t p))
unfolding condition_holds
with_known n P k t p u below = kinds_partner (λ k. So (condition k (left P) c d (partner_atom k d)) → So (cond (uses_atom k) (ltb (partner_atom k d) n) (eqb (partner_atom k d) 0)))
    (λ h. let w = succeeds (left P) c d (partner_atom success d) h in lt-ltb _ n (below _ (subst (λ l. partner_atom success d ∈ l) (sym w.head) (Memᴰ.head refl))))
    (λ h. refl) (λ h. refl) k u
  where
    c : Clause
    c = (entry P t).clause

    d : Clause
    d = (entry P p).clause

module _ (n : ℕ) (P : Marked) (k : Kind) (u : So (uses_partner k)) (t p : ℕ) (known : So (condition_holds P (step_with P k t p)) → So (atom_known n (step_with P k t p))) where
  abbrev asks : Bool
  asks = condition_holds P (step_with P k t p)

  partner_form : So (entry P t).kept → applies n P (step_with P k t p) ≡ (((entry P p).kept && not (eqb p t)) && asks)
  unfolding applies
  partner_form h = rw (h, u) (ap (λ b. ((entry P p).kept && not (eqb p t)) && b) (given (atom_known n (step_with P k t p)) asks known))
    where
      given : (x y : Bool) → (So y → So x) → (x && y) ≡ y
      given true y f = refl
      given false true f = f refl
      given false false f = refl

  pub same_applies : So (entry P t).kept → p ≡ t → false ≡ applies n P (step_with P k t p)
  same_applies h e = sym (partner_form h ∙ rw (eq-eqb p t e) (last (entry P p).kept))
    where
      last : (b : Bool) → ((b && false) && asks) ≡ false
      last true = refl
      last false = refl

  pub gone_applies : So (entry P t).kept → (entry P p).kept ≡ false → false ≡ applies n P (step_with P k t p)
  gone_applies h e = sym (partner_form h ∙ ap (λ b. (b && not (eqb p t)) && asks) e)

  pub other_applies : So (entry P t).kept → (entry P p).kept ≡ true → p ≢ t → asks ≡ applies n P (step_with P k t p)
  other_applies h e d = sym (partner_form h ∙ ap (λ b. (b && not (eqb p t)) && asks) e ∙ ap (λ b. not b && asks) (ne_eqb p t d))
