-- A partner or an atom spread target by target.
use mathlib.Core.Path.{◌≡◌, sym, ap, subst, ◌∙◌}
use mathlib.Core.Logic.{by_cases}
use mathlib.Core.Bool.{Bool, false, cond, ◌&&◌, not, So}
use mathlib.Core.List.{List}
use Prim.Native.Nat.{ℕ, ◌+◌, ◌≤◌, ◌<◌}
use native.Mathlib.Omega.{arith}
use native.Mathlib.Decide.{ℕ_discrete}
use lib.Dec.{eqb}
use lib.ListN.{get_or}
use borrow.Author.Tests.{eqb-true, eq-eqb}
use Rattle.semantics.proofs.Tests.{not_so, and_iff}
use Rattle.rewriting.specs.Marked.{Marked, entry}
use Rattle.rewriting.specs.Steps.{Step, step}
use Rattle.rewriting.specs.Reducer.{eligible}
use Rattle.rewriting.specs.Kinds.{Kind, number, uses_partner}
use Rattle.rewriting.proofs.Left.{kept_lt}
use Rattle.rewriting.specs.Search.{step_with}
use Rattle.rewriting.proofs.Rows.{number_bounds, atom_settled}
use Rattle.rewriting.proofs.Quiet.{key}
use Rattle.rewriting.proofs.Equal.{eligible_applies, eligible_ask}
use Rattle.table.specs.View.{view}
use Rattle.table.proofs.View.{length_view}
use Rattle.search_flags.specs.Flags.{Covered, Raising}
use Rattle.search_spreads.specs.Spreads.{Spread}
use Rattle.search_flags.proofs.Changes.{raising_none, raising_more, raising_below}
use Rattle.search_spreads.proofs.Limits.{target_lt}

-- ---- a step by its key

module _ (n : ℕ) (P : Marked) (u : Step) (k : Kind) (e : u.kind ≡ k) (h : So (eligible n P u)) where
  of_kind : So (eligible n P (step k u.target u.partner u.atom))
  of_kind = subst (λ j. So (eligible n P (step j u.target u.partner u.atom))) e h

  -- a kind with a partner: the key is the partner, which settles the atom
  pub by_partner : So (uses_partner k) → So (eligible n P (step_with P k u.target (key u)))
  by_partner p =
      let x : key u ≡ u.partner = ap (λ j. cond (uses_partner j) u.partner u.atom) e ∙ ap (λ b. cond b u.partner u.atom) p in
      subst (λ y. So (eligible n P (step_with P k u.target y))) (sym x)
      (subst (λ y. So (eligible n P (step k u.target u.partner y))) (atom_settled n P k u.target u.partner u.atom p (eligible_applies n P (step k u.target u.partner u.atom) of_kind)) of_kind)

  -- a kind without a partner: the key is the atom, and the partner is 0
  pub by_atom : uses_partner k ≡ false → So (eligible n P (step k u.target 0 (key u)))
  by_atom p =
      let a : u.partner ≡ 0 = eqb-true _ _ (subst (λ b. So (cond b ((entry P u.partner).kept && not (eqb u.partner u.target)) (eqb u.partner 0))) p (eligible_ask n P (step k u.target u.partner u.atom) of_kind).1) in
      let x : key u ≡ u.atom = ap (λ j. cond (uses_partner j) u.partner u.atom) e ∙ ap (λ b. cond b u.partner u.atom) p in
      subst (λ y. So (eligible n P (step k u.target 0 y))) (sym x) (subst (λ y. So (eligible n P (step k u.target y u.atom))) a of_kind)

-- ---- one target after the other

-- no clause is its own partner
pub itself_not : (n : ℕ) (P : Marked) (k : Kind) (t p a : ℕ) → So (uses_partner k) × (p ≡ t) → ¬ So (eligible n P (step k t p a))
itself_not n P k t p a (u, d) h =
    let w = subst (λ b. So (cond b ((entry P p).kept && not (eqb p t)) (eqb p 0))) u (eligible_ask n P (step k t p a) h).1 in
    not_so (ap not (eq-eqb p t d)) ((and_iff (entry P p).kept (not (eqb p t))).0 w).1

-- the targets below t are done
pub record Spreading (ws ms flags flags' : List ℕ) (kind : Kind) (p a t : ℕ) : Type 0 where
  pub raising : Raising flags flags' (number kind) (get_or ws 1 0)
  pub flagged : (j : ℕ) → j < t → So (eligible (get_or ws 0 0) (view ws ms) (step kind j p a)) → Covered flags' (number kind) j p

pub spreading_none : (ws ms flags : List ℕ) (kind : Kind) (p a : ℕ) → Spreading ws ms flags flags kind p a 0
spreading_none ws ms flags kind p a = record { raising = raising_none flags (number kind) (get_or ws 1 0); flagged = λ j l. absurd (omega arith) }

module _ (ws ms flags flags' : List ℕ) (kind : Kind) (p a t : ℕ) (s : Spreading ws ms flags flags' kind p a t) where
  abbrev at : ℕ → Bool
  at j = eligible (get_or ws 0 0) (view ws ms) (step kind j p a)

  pub spreading_on : (flags'' : List ℕ) → t < 2048 → t < get_or ws 1 0 → Raising flags' flags'' (number kind) (t + 1) × (So (at t) → Covered flags'' (number kind) t p) → Spreading ws ms flags flags'' kind p a (t + 1)
  spreading_on flags'' l h (g, f) = record {
    raising = raising_more flags flags' flags'' (number kind) (get_or ws 1 0) (t + 1) (get_or ws 1 0) (omega arith) (omega arith) s.raising g;
    flagged = λ j k q. by_cases (ℕ_discrete j t) (λ d. subst (λ i. Covered flags'' (number kind) i p) (sym d) (f (subst (λ i. So (at i)) d q)))
        (λ d. raising_below flags' flags'' (number kind) (t + 1) g (number kind) j p (omega (arith, number_bounds kind)) (omega arith) (s.flagged j (omega arith) q));
  }

  pub spreading_all : get_or ws 1 0 ≤ t → Spread ws ms flags flags' kind p a
  spreading_all l = record { raising = s.raising; flagged = λ j h. s.flagged j (omega (arith, target_lt ws ms (step kind j p a) h)) h }

-- ---- a key

-- a partner is kept
pub partner_kept_lem : (P : Marked) (n : ℕ) (k : Kind) (t p a : ℕ) → So (uses_partner k) → So (eligible n P (step k t p a)) → So (entry P p).kept
partner_kept_lem P n k t p a u h =
    let v = subst (λ b. So (cond b ((entry P p).kept && not (eqb p t)) (eqb p 0))) u (eligible_ask n P (step k t p a) h).1 in
    ((and_iff (entry P p).kept (not (eqb p t))).0 v).0

-- a number that is no clause's is no partner
pub partner_lt : (ws ms : List ℕ) (k : Kind) (t p a : ℕ) → So (uses_partner k) → So (eligible (get_or ws 0 0) (view ws ms) (step k t p a)) → p < get_or ws 1 0
partner_lt ws ms k t p a u h = omega (arith, kept_lt (view ws ms) p (partner_kept_lem (view ws ms) (get_or ws 0 0) k t p a u h), length_view ws ms)
