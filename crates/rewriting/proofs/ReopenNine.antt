-- What a step of kind 9 can open among kinds 1 to 8: a step that is eligible after the atom went was eligible before, or its partner lost the atom, or its atom lost a kept head with it,
-- or it is of kind 7. Kinds 1 and 2 are never opened.
use mathlib.Core.Path.{◌≡◌, refl, sym, ap, subst, ◌∙◌}
use mathlib.Core.Logic.{◌⊎◌, inl, inr, by_cases, ⊎_elim}
use mathlib.Core.Bool.{Bool, true, false, ◌&&◌, ◌||◌, So}
use Prim.Native.Nat.{ℕ}
use native.Mathlib.Decide.{ℕ_discrete}
use lib.Dec.{eqb}
use borrow.Author.Tests.{eqb-true, eq-eqb}
use Rattle.semantics.specs.Lists.{◌∈◌, any, mem}
use Rattle.semantics.specs.Programs.{Clause}
use Rattle.semantics.proofs.Tests.{and_iff, or_iff, or_left, or_right, any_iff, mem_iff, so_dec, without_sub, without_keeps, without_none}
use Rattle.rewriting.specs.Marked.{Entry, Marked, entry, left}
use Rattle.rewriting.specs.Steps.{Step, in_no_head, applies}
use Rattle.rewriting.specs.Kinds.{loop, uses_partner, on_target}
use Rattle.rewriting.specs.Uses.{asks_no_head}
use Rattle.rewriting.specs.Exclusion.{lacking_of, removal}
use Rattle.rewriting.specs.Reducer.{passed_over, eligible}
use Rattle.rewriting.proofs.Left.{left_each}
use Rattle.rewriting.proofs.Exclusion.{lacks, stays, entry_removal}
use Rattle.rewriting.proofs.Equal.{clause_equal, passed_iff}
use Rattle.rewriting.proofs.Subclauses.{NoMore, bare_iff}
use Rattle.rewriting.proofs.Effect.{target_kept_lem, partner_asked}
use Rattle.rewriting.proofs.Openings.{opened_by}

-- the partner has the atom in its head or its negative body; or the step's atom is in the head of a kept clause that loses it or goes; or the kind is 7
pub data OpensWithout (P : Marked) (a : ℕ) (u : Step) : Type 0 where
  open_partner : So (uses_partner u.kind) → So (entry P u.partner).kept → (a ∈ (entry P u.partner).clause.head) ⊎ (a ∈ (entry P u.partner).clause.neg) → OpensWithout P a u
  open_head : So (asks_no_head u.kind) → (t : ℕ) → So (entry P t).kept → u.atom ∈ (entry P t).clause.head → (u.atom ≡ a) ⊎ (a ∈ (entry P t).clause.pos) → OpensWithout P a u
  open_reach : u.kind ≡ loop → OpensWithout P a u

-- ---- an entry and what is left of it

entry_equal : (d e : Entry) → d.kept ≡ e.kept → d.clause ≡ e.clause → d ≡ e
entry_equal d e x y = ap (λ k. record { kept = k; clause = d.clause }) x ∙ ap (λ c. record { kept = e.kept; clause = c }) y

module _ (a : ℕ) (e : Entry) where
  no_more_lacking : NoMore (lacking_of a e) e
  no_more_lacking = go e.kept (mem a e.clause.pos) refl refl
    where
      go : (k t : Bool) → e.kept ≡ k → mem a e.clause.pos ≡ t → NoMore (lacking_of a e) e
      go true true q r = rw (q, r) (record { kept = λ h. refl; head = λ b m. m; pos = λ b m. m; neg = λ b m. m })
      go true false q r = rw (q, r) (record { kept = λ h. refl; head = λ b m. without_sub a b _ m; pos = λ b m. m; neg = λ b m. without_sub a b _ m })
      go false t q r = rw q (record { kept = λ h. h; head = λ b m. m; pos = λ b m. m; neg = λ b m. m })

  -- a clause that stays, with the atom in neither head nor negative body, is as it was
  lacking_same : So (lacking_of a e).kept → ¬ (a ∈ e.clause.head) → ¬ (a ∈ e.clause.neg) → lacking_of a e ≡ e
  lacking_same k h g = let w = lacks a e k in
      entry_equal (lacking_of a e) e (k ∙ sym w.kept) (clause_equal (lacking_of a e).clause e.clause (w.head ∙ without_none a _ h) w.pos (w.neg ∙ without_none a _ g))

-- ---- the program and what is left of it

module _ (n : ℕ) (P : Marked) (a : ℕ) where
  abbrev Q : Marked
  Q = removal a P

  -- equal clauses that are both kept stay equal
  still_passed : (u : Step) → So (passed_over P u) → entry Q u.partner ≡ entry P u.partner → So (applies n Q u) → So (passed_over Q u)
  still_passed u o e q =
      let r = (passed_iff P u).0 o in
      let p = (partner_asked n Q u q (⊎_elim (λ k. subst (λ k. So (uses_partner k)) (sym k) refl) (λ k. subst (λ k. So (uses_partner k)) (sym k) refl) r.kind)).0 in
      let d = entry_equal (entry P u.target) (entry P u.partner) (was u.target (target_kept_lem n Q u q) ∙ sym (was u.partner p)) r.equal in
      (passed_iff Q u).1 (record { kind = r.kind; lower = r.lower; equal = ap (λ c. c.clause) (entry_removal a P u.target ∙ ap (lacking_of a) d ∙ sym (entry_removal a P u.partner)) })
    where
      was : (i : ℕ) → So (entry Q i).kept → So (entry P i).kept
      was i k = (lacks a (entry P i) (subst (λ d. So d.kept) (entry_removal a P i) k)).kept

  open_partner_lem : (u : Step) → So (uses_partner u.kind) → So (entry Q u.partner).kept → (entry Q u.partner ≡ entry P u.partner) ⊎ OpensWithout P a u
  open_partner_lem u x k = let v = subst (λ d. So d.kept) (entry_removal a P u.partner) k in
      let w = lacks a (entry P u.partner) v in
      by_cases (so_dec (mem a (entry P u.partner).clause.head))
      (λ m. inr (open_partner x w.kept (inl ((mem_iff _ _).0 m))))
      (λ h. by_cases (so_dec (mem a (entry P u.partner).clause.neg))
      (λ m. inr (open_partner x w.kept (inr ((mem_iff _ _).0 m))))
      (λ g. inl (entry_removal a P u.partner ∙ lacking_same a (entry P u.partner) v (λ m. h ((mem_iff _ _).1 m)) (λ m. g ((mem_iff _ _).1 m)))))

  -- the atom b is in the clause's head, and goes from there with the atom a
  abbrev leaves : ℕ → Clause → Bool
  leaves b c = mem b c.head && (eqb b a || mem a c.pos)

  open_head_lem : (u : Step) → So (asks_no_head u.kind) → So (in_no_head (left Q) u.atom) → So (in_no_head (left P) u.atom) ⊎ OpensWithout P a u
  open_head_lem u x q = by_cases (so_dec (any (leaves u.atom) (left P)))
      (λ y. let w = (any_iff (leaves u.atom) (left P)).0 y in inr ((left_each (λ c. So (leaves u.atom c) → OpensWithout P a u) P).1 found w.0 w.1 w.2))
      (λ y. inl ((bare_iff P u.atom).1 (λ i k m. none i k m (λ o. y ((any_iff (leaves u.atom) (left P)).1 ((entry P i).clause, (left_each (λ c. c ∈ left P) P).0 (λ c m. m) i k, o))))))
    where
      found : (i : ℕ) → So (entry P i).kept → So (leaves u.atom (entry P i).clause) → OpensWithout P a u
      found i k o = let w = (and_iff (mem u.atom (entry P i).clause.head) _).0 o in
          open_head x i k ((mem_iff _ _).0 w.0)
          (by_cases (ℕ_discrete u.atom a) inl (λ d. inr ((mem_iff _ _).0 ((or_iff (eqb u.atom a) _).0 w.1 (λ z. d (eqb-true _ _ z))))))

      none : (i : ℕ) → So (entry P i).kept → u.atom ∈ (entry P i).clause.head → ¬ ¬ So (leaves u.atom (entry P i).clause)
      none i k m f =
          let b = (mem_iff _ _).1 m in
          let s = stays a (entry P i) k (λ p. f ((and_iff _ _).1 (b, or_right (eqb u.atom a) _ ((mem_iff _ _).1 p)))) in
          let l = subst (λ l. u.atom ∈ l) (sym (lacks a (entry P i) s).head) (without_keeps a _ _ m (λ e. f ((and_iff _ _).1 (b, or_left (eqb u.atom a) _ (eq-eqb _ _ e))))) in
          (bare_iff Q u.atom).0 q i (subst (λ d. So d.kept) (sym (entry_removal a P i)) s) (subst (λ d. u.atom ∈ d.clause.head) (sym (entry_removal a P i)) l)

  -- A step of kinds 1 to 8 that is eligible after the atom went was eligible before, or is opened.
  pub opened_removal : (u : Step) → So (on_target u.kind) → So (eligible n (removal a P) u) → So (eligible n P u) ⊎ OpensWithout P a u
  opened_removal = opened_by n P Q (OpensWithout P a) (record {
    below = λ i. subst (λ d. NoMore d (entry P i)) (sym (entry_removal a P i)) (no_more_lacking a (entry P i));
    passed = still_passed;
    partner = λ u x k _. open_partner_lem u x k;
    heads = open_head_lem;
    reaches = λ u e. inr (open_reach e);
  })
