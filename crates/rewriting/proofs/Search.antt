-- The nested search finds the smallest eligible step, and nothing only where none is.
use mathlib.Core.Path.{Path, ◌≡◌, refl, sym, subst, ◌∙◌}
use mathlib.Core.Logic.{by_cases}
use mathlib.Core.Bool.{Bool, true, false, not, cond, ◌&&◌, So, false≢true}
use mathlib.Core.Option.{Option, none, some}
use Prim.Native.Nat.{ℕ, zero, suc, ◌<◌}
use native.Mathlib.Omega.{arith}
use native.Mathlib.Decide.{dec_lt}
use lib.Dec.{eqb, ltb}
use lib.ListN.{length}
use borrow.Author.Tests.{eqb-true, ltb-true}
use Rattle.semantics.proofs.Tests.{and_iff}
use Rattle.rewriting.specs.Marked.{Marked, entry}
use Rattle.rewriting.specs.Steps.{Step, step, applies}
use Rattle.rewriting.specs.Kinds.{Kind, number, kind_of, uses_partner, uses_atom}
use Rattle.rewriting.specs.Reducer.{Less, less_kind, less_target, less_partner, less_atom, eligible, IsFirst}
use Rattle.rewriting.specs.Search.{least, given, first_atom, first_partner, first_target, first_step}
use Rattle.rewriting.proofs.Left.{kept_lt}
use Rattle.rewriting.proofs.Rows.{kind_index, number_kind_of}
use Rattle.rewriting.proofs.Equal.{eligible_applies}

none≢some : {B : Type 0} {b : B} → Path (Option B) none (some b) → ⊥
none≢some p = let z : ◌≡◌ {A = ℕ} 0 1 = cc in omega arith

-- the search below a bound: nothing below k, or the first place that has something
data Found {B : Type 0} (k : ℕ) (f : ℕ → Option B) : Option B → Type 0 where
  nothing : ((i : ℕ) → i < k → f i ≡ none) → Found k f none
  found : {b : B} (i : ℕ) → i < k → f i ≡ some b → ((j : ℕ) → j < i → f j ≡ none) → Found k f (some b)

least_found : {B : Type 0} (k : ℕ) (f : ℕ → Option B) → Found k f (least k f)
unfolding least
least_found zero f = nothing (λ i h. absurd (omega arith))
least_found {B} (suc k) f = go (least k f) (f k) refl (least_found k f)
  where
    go : (o r : Option B) → f k ≡ r → Found k f o → Found (suc k) f (elim o [ none ↦ r | some b ↦ some b ])
    go o r e (found i l q m) = found i (omega arith) q m
    go o none e (nothing h) = nothing (λ i l. by_cases (dec_lt i k) (h i) (λ x. let d : i ≡ k = omega arith in rw d e))
    go o (some b) e (nothing h) = found k (omega arith) e h

found_none : {B : Type 0} {k : ℕ} {f : ℕ → Option B} {o : Option B} → Found k f o → o ≡ none → (i : ℕ) → i < k → f i ≡ none
found_none (nothing h) e = h
found_none (found i l q m) e = absurd (none≢some (sym e))

found_some : {B : Type 0} {k : ℕ} {f : ℕ → Option B} {o : Option B} {b : B} → Found k f o → o ≡ some b → (i : ℕ) × (i < k) × (f i ≡ some b) × ((j : ℕ) → j < i → f j ≡ none)
found_some (nothing h) e = absurd (none≢some e)
found_some (found i l q m) e = (i, l, q ∙ e, m)

-- one level of the nested search, for what Q says of a place
module _ (k : ℕ) (f : ℕ → Option Step) (Q : ℕ → Type 0) (bound : (i : ℕ) → Q i → i < k) (dead : (i : ℕ) → f i ≡ none → ¬ Q i) where
  level_none : least k f ≡ none → (i : ℕ) → ¬ Q i
  level_none e i q = dead i (found_none (least_found k f) e i (bound i q)) q

  level_some : (s : Step) → least k f ≡ some s → (i : ℕ) × (i < k) × (f i ≡ some s) × ((j : ℕ) → j < i → ¬ Q j)
  level_some s e = let w = found_some (least_found k f) e in (w.0, w.1, w.2, λ j l. dead j (w.3 j l))

pub given_none : (b : Bool) (s : Step) → given b s ≡ none → ¬ So b
given_none true s e h = none≢some (sym e)
given_none false s e h = false≢true h

given_some : (b : Bool) (s u : Step) → given b s ≡ some u → So b × (s ≡ u)
given_some true s u e = (refl, cc)
given_some false s u e = absurd (none≢some e)

pub partner_lt : (b : Bool) (P : Marked) (t p : ℕ) → So (cond b ((entry P p).kept && not (eqb p t)) (eqb p 0)) → p < cond b (length P) 1
partner_lt true P t p h = kept_lt P p ((and_iff _ _).0 h).0
partner_lt false P t p h = omega (arith, eqb-true p 0 h)

pub atom_lt : (b : Bool) (n a : ℕ) → So (cond b (ltb a n) (eqb a 0)) → a < cond b n 1
atom_lt true n a h = ltb-true _ _ h
atom_lt false n a h = omega (arith, eqb-true a 0 h)

module _ (n : ℕ) (P : Marked) where
  Atom : Kind → ℕ → ℕ → ℕ → Type 0
  Atom k t p a = So (eligible n P (step k t p a))

  Partner : Kind → ℕ → ℕ → Type 0
  Partner k t p = (a : ℕ) × So (eligible n P (step k t p a))

  Target : Kind → ℕ → Type 0
  Target k t = (p : ℕ) × (a : ℕ) × So (eligible n P (step k t p a))

  OfKind : ℕ → Type 0
  OfKind i = (i < 9) × (t : ℕ) × (p : ℕ) × (a : ℕ) × So (eligible n P (step (kind_of (suc i)) t p a))

  pub atom_bound : (k : Kind) (t p a : ℕ) → So (eligible n P (step k t p a)) → a < cond (uses_atom k) n 1
  unfolding applies
  atom_bound k t p a h = let w = simp and_iff at (eligible_applies n P (step k t p a) h) in atom_lt (uses_atom k) n a w.1.1.0

  partner_bound : (k : Kind) (t p : ℕ) → Partner k t p → p < cond (uses_partner k) (length P) 1
  unfolding applies Partner
  partner_bound k t p (a, h) = let w = simp and_iff at (eligible_applies n P (step k t p a) h) in partner_lt (uses_partner k) P t p w.1.0

  target_bound : (k : Kind) (t : ℕ) → Target k t → t < length P
  unfolding applies Target
  target_bound k t (p, a, h) = let w = simp and_iff at (eligible_applies n P (step k t p a) h) in kept_lt P t w.0

  atom_dead : (k : Kind) (t p a : ℕ) → given (eligible n P (step k t p a)) (step k t p a) ≡ none → ¬ Atom k t p a
  unfolding Atom
  atom_dead k t p a e = given_none (eligible n P (step k t p a)) (step k t p a) e

  partner_dead : (k : Kind) (t p : ℕ) → first_atom n P k t p ≡ none → ¬ Partner k t p
  unfolding Partner Atom first_atom
  partner_dead k t p e (a, h) = level_none (cond (uses_atom k) n 1) (λ a. given (eligible n P (step k t p a)) (step k t p a)) (Atom k t p) (atom_bound k t p) (atom_dead k t p) e a h

  target_dead : (k : Kind) (t : ℕ) → first_partner n P k t ≡ none → ¬ Target k t
  unfolding Partner Target first_partner
  target_dead k t e (p, a, h) = level_none (cond (uses_partner k) (length P) 1) (λ p. first_atom n P k t p) (Partner k t) (partner_bound k t) (partner_dead k t) e p (a, h)

  -- A target at which the search finds nothing has no eligible step.
  pub no_step : (k : Kind) (t : ℕ) → first_partner n P k t ≡ none → (p a : ℕ) → ¬ So (eligible n P (step k t p a))
  unfolding Target
  no_step k t e p a h = target_dead k t e (p, a, h)

  kind_dead : (i : ℕ) → first_target n P (kind_of (suc i)) ≡ none → ¬ OfKind i
  unfolding Target OfKind first_target
  kind_dead i e (l, t, p, a, h) = level_none (length P) (λ t. first_partner n P (kind_of (suc i)) t) (Target (kind_of (suc i))) (target_bound (kind_of (suc i))) (target_dead (kind_of (suc i))) e t (p, a, h)

  at_kind : (u : Step) → So (eligible n P u) → (i : ℕ) × (number u.kind ≡ suc i) × OfKind i
  unfolding OfKind
  at_kind u h = let w = kind_index u.kind in (w.0, w.2, (w.1, u.target, u.partner, u.atom, rw w.3 h))

  -- Nothing is found only where no step is eligible.
  pub first_step_none : first_step n P ≡ none → (u : Step) → ¬ So (eligible n P u)
  unfolding first_step OfKind
  first_step_none e u h = level_none 9 (λ i. first_target n P (kind_of (suc i))) OfKind (λ i q. q.0) kind_dead e (at_kind u h).0 (at_kind u h).2

  -- What is found is eligible, and no smaller step is.
  pub first_step_some : (s : Step) → first_step n P ≡ some s → IsFirst (eligible n) P s
  unfolding first_step first_target first_partner first_atom OfKind Target Partner Atom
  first_step_some s e =
      let w = level_some 9 (λ i. first_target n P (kind_of (suc i))) OfKind (λ i q. q.0) kind_dead s e in
      let k = kind_of (suc w.0) in
      let x = level_some (length P) (λ t. first_partner n P k t) (Target k) (target_bound k) (target_dead k) s w.2 in
      let y = level_some (cond (uses_partner k) (length P) 1) (λ p. first_atom n P k x.0 p) (Partner k x.0) (partner_bound k x.0) (partner_dead k x.0) s x.2 in
      let z = level_some (cond (uses_atom k) n 1) (λ a. given (eligible n P (step k x.0 y.0 a)) (step k x.0 y.0 a)) (Atom k x.0 y.0) (atom_bound k x.0 y.0) (atom_dead k x.0 y.0) s y.2 in
      let v = given_some (eligible n P (step k x.0 y.0 z.0)) (step k x.0 y.0 z.0) s z.2 in
      subst (IsFirst (eligible n) P) {x = step k x.0 y.0 z.0} v.1 (record { applicable = v.0; smallest = smaller w.0 x.0 y.0 z.0 w.1 w.3 x.3 y.3 z.3 })
    where
      smaller : (i t p a : ℕ) → i < 9 → ((j : ℕ) → j < i → ¬ OfKind j) → ((j : ℕ) → j < t → ¬ Target (kind_of (suc i)) j) → ((j : ℕ) → j < p → ¬ Partner (kind_of (suc i)) t j) → ((j : ℕ) → j < a → ¬ Atom (kind_of (suc i)) t p j)
          → (u : Step) → Less u (step (kind_of (suc i)) t p a) → ¬ So (eligible n P u)
      smaller i t p a b dk dt dp da u (less_kind l) h = let w = at_kind u h in dk w.0 (omega (arith, number_kind_of i b, w.1)) w.2
      smaller i t p a b dk dt dp da u (less_target e l) h = dt u.target l (u.partner, u.atom, rw (← e) h)
      smaller i t p a b dk dt dp da u (less_partner e f l) h = dp u.partner l (u.atom, rw (← e, ← f) h)
      smaller i t p a b dk dt dp da u (less_atom e f g l) h = da u.atom l (rw (← e, ← f, ← g) h)
