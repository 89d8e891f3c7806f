-- Equal clauses, and the steps that the reducer passes over: each leaves the step with target and partner exchanged, so that where no step is eligible, none applies.
use mathlib.Core.Path.{◌≡◌, refl, sym, ap, subst, ◌∙◌}
use mathlib.Core.Logic.{◌↔◌, ◌⊎◌, inl, inr, by_cases, ⊎_elim}
use mathlib.Core.Bool.{false, not, cond, ◌&&◌, So}
use mathlib.Core.List.Memᴰ
use mathlib.Core.List.{List, [], ◌∷◌}
use Prim.Native.Nat.{ℕ, ◌<◌}
use native.Mathlib.Omega.{arith}
use lib.Dec.{eqb}
use borrow.Author.Tests.{eqb-true, ltb-true, lt-ltb}
use Rattle.semantics.specs.Lists.{◌∈◌, null, within, same, ascending}
use Rattle.semantics.specs.Programs.{Clause}
use Rattle.semantics.proofs.Tests.{and_iff, not_iff, null_iff, within_iff, same_iff, so_dec, so_ext, so_false, not_so}
use Rattle.semantics.proofs.Ascending.{ascending_within}
use Rattle.rewriting.specs.Marked.{Marked, entry, left}
use Rattle.rewriting.specs.Steps.{Step, step, condition, condition_holds, applies}
use Rattle.rewriting.specs.Kinds.{Kind, blocked, subsumed, uses_partner}
use Rattle.rewriting.specs.Reducer.{equal, spares, passed_over, eligible}
use Rattle.rewriting.proofs.Rows.{kinds_spares}
use Rattle.rewriting.proofs.Sound.{Ask, partner_other, applies_ask}

-- ---- equal clauses

pub clause_equal : (c d : Clause) → c.head ≡ d.head → c.pos ≡ d.pos → c.neg ≡ d.neg → c ≡ d
clause_equal c d x y z = ap (λ l. record { head = l; pos = c.pos; neg = c.neg }) x ∙ ap (λ l. record { head = d.head; pos = l; neg = c.neg }) y ∙ ap (λ l. record { head = d.head; pos = d.pos; neg = l }) z

pub equal_iff : (c d : Clause) → So (equal c d) ↔ (c ≡ d)
equal_iff c d = (
  λ h. let w = (and_iff (same c.head d.head) _).0 h in
      let v = (and_iff _ _).0 w.1 in
      clause_equal c d ((same_iff _ _).0 w.0) ((same_iff _ _).0 v.0) ((same_iff _ _).0 v.1),
  λ e. (and_iff _ _).1 ((same_iff _ _).1 (ap (λ x. x.head) e), (and_iff _ _).1 ((same_iff _ _).1 (ap (λ x. x.pos) e), (same_iff _ _).1 (ap (λ x. x.neg) e))),
)

-- ---- clauses within each other

-- what is within nothing is nothing
pub null_within : (k l : List ℕ) → So (within k l) → l ≡ [] → So (null k)
null_within [] l h e = refl
null_within (x ∷ k) l h e = absurd (Memᴰ.not-nil (subst (λ j. x ∈ j) e ((within_iff (x ∷ k) l).0 h x (Memᴰ.head refl))))

pub subsumed_self : (cs : List Clause) (c : Clause) (a : ℕ) → So (condition subsumed cs c c a)
unfolding condition
subsumed_self cs c a = (and_iff _ _).1 (all_self c.head, (and_iff _ _).1 (all_self c.pos, all_self c.neg))
  where
    all_self : (l : List ℕ) → So (within l l)
    all_self l = (within_iff l l).1 (λ a m. m)

-- each part is strictly ascending
pub record Ascends (c : Clause) : Type 0 where
  pub head : So (ascending c.head)
  pub pos : So (ascending c.pos)
  pub neg : So (ascending c.neg)

-- such clauses are equal where each subsumes the other
pub equal_within : (cs : List Clause) (c d : Clause) (a b : ℕ) → Ascends c → Ascends d → So (condition subsumed cs c d a) → So (condition subsumed cs d c b) → c ≡ d
unfolding condition
equal_within cs c d a b o p x y =
    let v = simp and_iff at x in
    let w = simp and_iff at y in
    clause_equal c d (ascending_within c.head d.head o.head p.head w.0 v.0) (ascending_within c.pos d.pos o.pos p.pos w.1.0 v.1.0) (ascending_within c.neg d.neg o.neg p.neg w.1.1 v.1.1)

-- ---- the steps that are passed over

-- the step is passed over
pub record PassedOver (P : Marked) (s : Step) : Type 0 where
  pub kind : (s.kind ≡ blocked) ⊎ (s.kind ≡ subsumed)
  pub lower : s.target < s.partner
  pub equal : (entry P s.target).clause ≡ (entry P s.partner).clause

module _ (P : Marked) (s : Step) where
  abbrev target : Clause
  target = (entry P s.target).clause

  abbrev partner : Clause
  partner = (entry P s.partner).clause

  pub passed_by : So (spares s.kind) → s.target < s.partner → target ≡ partner → So (passed_over P s)
  unfolding passed_over
  passed_by k l e = (and_iff _ _).1 (k, (and_iff _ _).1 (lt-ltb _ _ l, (equal_iff target partner).1 e))

  pub passed_iff : So (passed_over P s) ↔ PassedOver P s
  unfolding passed_over
  passed_iff = (
    λ o. let w = (and_iff (spares s.kind) _).0 o in
        let v = (and_iff _ (equal target partner)).0 w.1 in
        record { kind = kinds_spares (λ k. (k ≡ blocked) ⊎ (k ≡ subsumed)) (inl refl) (inr refl) s.kind w.0; lower = ltb-true _ _ v.0; equal = (equal_iff target partner).0 v.1 },
    λ r. passed_by (⊎_elim (λ e. subst (λ k. So (spares k)) (sym e) refl) (λ e. subst (λ k. So (spares k)) (sym e) refl) r.kind) r.lower r.equal,
  )

  module _ (n : ℕ) where
    pub eligible_iff : So (eligible n P s) ↔ (So (applies n P s) × ¬ So (passed_over P s))
    unfolding eligible
    eligible_iff = (
      λ h. let w = (and_iff (applies n P s) _).0 h in (w.0, (not_iff _).0 w.1),
      λ w. (and_iff (applies n P s) _).1 (w.0, (not_iff _).1 w.1),
    )

-- an eligible step applies
pub eligible_applies : (n : ℕ) (P : Marked) (s : Step) → So (eligible n P s) → So (applies n P s)
eligible_applies n P s h = ((eligible_iff P s n).0 h).0

-- what it asks
pub eligible_ask : (n : ℕ) (P : Marked) (s : Step) → So (eligible n P s) → Ask P s.target s.partner s.atom s.kind
eligible_ask n P s h = applies_ask n P s (eligible_applies n P s h)

-- what does not apply is not eligible, and what applies is, unless it is passed over
pub eligible_not : (n : ℕ) (P : Marked) (s : Step) → false ≡ applies n P s → false ≡ eligible n P s
eligible_not n P s e = sym (so_false _ (λ h. not_so (sym e) (eligible_applies n P s h)))

pub eligible_rest : (n : ℕ) (P : Marked) (s : Step) → So (applies n P s) → not (passed_over P s) ≡ eligible n P s
unfolding eligible
eligible_rest n P s h = sym (ap (λ b. b && not (passed_over P s)) h)

-- of a kind other than 5 and 8 every applicable step is eligible
pub eligible_same : (n : ℕ) (P : Marked) (s : Step) → ¬ So (spares s.kind) → eligible n P s ≡ applies n P s
unfolding passed_over
eligible_same n P s x = so_ext _ _ (eligible_applies n P s) (λ h. (eligible_iff P s n).1 (h, λ o. x ((and_iff (spares s.kind) _).0 o).0))

-- The clauses that a step of kind 5 names where it is passed over are empty.
pub blocked_empty : (n : ℕ) (P : Marked) (s : Step) → s.kind ≡ blocked → So (applies n P s) → So (passed_over P s) → (target P s ≡ record { head = []; pos = []; neg = [] }) × (partner P s ≡ record { head = []; pos = []; neg = [] })
unfolding condition
blocked_empty n P s k h o =
    let r = (passed_iff P s).0 o in
    let d = partner P s in
    let w = simp (and_iff, null_iff) at (subst (λ j. So (condition j (left P) (target P s) d s.atom)) k (applies_ask n P s h).2) in
    let v = subst (λ c. So (within d.head c.neg)) r.equal w.1 in
    let e = clause_equal d (record { head = []; pos = []; neg = [] }) ((null_iff _).0 (null_within d.head d.neg v w.0.1)) w.0.0 w.0.1 in
    (r.equal ∙ e, e)

-- ---- the step with target and partner exchanged

abbrev pub mirror : Step → Step
mirror s = step s.kind s.partner s.target s.atom

-- a kind that spares has a partner
pub spares_partner : (k : Kind) → So (spares k) → So (uses_partner k)
spares_partner = kinds_spares (λ k. So (uses_partner k)) refl refl

-- kinds 5 and 8: of two equal clauses each can be the partner of the other
pub mirror_applies : (n : ℕ) (P : Marked) (s : Step) → So (spares s.kind) → (entry P s.target).clause ≡ (entry P s.partner).clause → So (applies n P s) → So (applies n P (mirror s))
unfolding applies condition_holds
mirror_applies n P s x e h =
    let w = simp and_iff at h in
    let u = spares_partner s.kind x in
    let v = partner_other P p t (subst (λ b. So (cond b ((entry P p).kept && not (eqb p t)) (eqb p 0))) u w.1.0) in
    (and_iff _ _).1 (
      v.0,
      (and_iff _ _).1 (
        subst (λ b. So (cond b ((entry P t).kept && not (eqb t p)) (eqb t 0))) (sym u) ((and_iff (entry P t).kept (not (eqb t p))).1 (w.0, (not_iff _).1 (λ z. v.1 (sym (eqb-true t p z))))),
        (and_iff _ _).1 (
          w.1.1.0,
          subst (λ c. So (condition s.kind (left P) c (entry P t).clause s.atom)) e (subst (λ d. So (condition s.kind (left P) (entry P t).clause d s.atom)) (sym e) w.1.1.1),
        ),
      ),
    )
  where
    t : ℕ
    t = s.target

    p : ℕ
    p = s.partner

-- Where a step that is passed over applies, its mirror image is eligible.
pub mirror_eligible : (n : ℕ) (P : Marked) (s : Step) → So (applies n P s) → So (passed_over P s) → So (eligible n P (mirror s))
unfolding passed_over
mirror_eligible n P s h o =
    let r = (passed_iff P s).0 o in
    (eligible_iff P (mirror s) n).1 (mirror_applies n P s ((and_iff (spares s.kind) _).0 o).0 r.equal h, λ q. omega (arith, r.lower, ((passed_iff P (mirror s)).0 q).lower))

-- Where no step is eligible, none applies.
pub none_applies : (n : ℕ) (P : Marked) → ((u : Step) → ¬ So (eligible n P u)) → (u : Step) → ¬ So (applies n P u)
none_applies n P f u h = by_cases (so_dec (passed_over P u)) (λ o. f (mirror u) (mirror_eligible n P u h o)) (λ o. f u ((eligible_iff P u n).1 (h, o)))
