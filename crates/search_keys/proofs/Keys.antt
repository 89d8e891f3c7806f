-- The targets of a key are those of its partner or its atom.
use mathlib.Core.Path.{◌≡◌, sym, subst, ◌∙◌}
use mathlib.Core.Bool.{false, So, false≢true, cond}
use mathlib.Core.List.{List}
use Prim.Native.Nat.{ℕ, ◌≤◌}
use native.Mathlib.Omega.{arith}
use lib.ListN.{get_or}
use lib.Dec.{eqb, ltb}
use borrow.Author.Tests.{ltb-true}
use Rattle.rewriting.specs.Steps.{step, applies, condition_holds}
use Rattle.rewriting.specs.Reducer.{eligible}
use Rattle.rewriting.proofs.Equal.{eligible_applies}
use Rattle.rewriting.specs.Kinds.{Kind, number, uses_partner}
use Rattle.rewriting.proofs.Quiet.{key}
use Rattle.table.specs.View.{view}
use Rattle.semantics.proofs.Tests.{and_iff}
use Rattle.rewriting.proofs.Rows.{alone_atom}
use Rattle.table.specs.Questions.{Passed}
use Rattle.table.proofs.Encoding.{passed_limits}
use Rattle.search_flags.specs.Flags.{Raising, AllFlagged}
use Rattle.search_keys.specs.State.{KeySpread}
use Rattle.rewriting.specs.Search.{step_with}
use Rattle.search_spreads.specs.Spreads.{Spread, PartnerSpread, NoPartner}
use Rattle.search_flags.proofs.Changes.{raising_none}
use Rattle.search_spreads.proofs.Limits.{target_lt}
use Rattle.search_spreads.proofs.Spreads.{by_partner, partner_lt, by_atom}

module _ (ws ms flags flags' : List ℕ) (kind : Kind) (x : ℕ) where
  pub key_partner : So (uses_partner kind) → PartnerSpread ws ms flags flags' kind x → KeySpread ws ms flags flags' kind x
  key_partner p s = record {
    raising = s.raising;
    flagged = λ u e d h. let w = s.flagged u.target (subst (λ y. So (eligible (get_or ws 0 0) (view ws ms) (step_with (view ws ms) kind u.target y))) d (by_partner (get_or ws 0 0) (view ws ms) u kind e h p)) in (w.0.0, λ _. w);
  }

  pub key_all : uses_partner kind ≡ false → Raising flags flags' (number kind) (get_or ws 1 0) → AllFlagged flags' (number kind) (get_or ws 1 0) → KeySpread ws ms flags flags' kind x
  key_all n g f = record { raising = g; flagged = λ u e d h. (f u.target (target_lt ws ms u h), λ p. absurd (false≢true (sym n ∙ p))) }

pub key_none : (ws ms flags : List ℕ) (kind : Kind) (x : ℕ) → So (uses_partner kind) → get_or ws 1 0 ≤ x → KeySpread ws ms flags flags kind x
key_none ws ms flags kind x p l = record {
  raising = raising_none flags (number kind) (get_or ws 1 0);
  flagged = λ u e d h. absurd (let q = partner_lt ws ms kind u.target (key u) _ p (by_partner (get_or ws 0 0) (view ws ms) u kind e h p) in omega arith);
}

module _ (ws ms flags flags' : List ℕ) (kind : Kind) (x : ℕ) where
  pub key_atom : uses_partner kind ≡ false → Spread ws ms flags flags' kind 0 x → KeySpread ws ms flags flags' kind x
  key_atom p s = record {
    raising = s.raising;
    flagged = λ u e d h. ((s.flagged u.target (subst (λ y. So (eligible (get_or ws 0 0) (view ws ms) (step kind u.target 0 y))) d (by_atom (get_or ws 0 0) (view ws ms) u kind e h p))).0.0, λ q. absurd (false≢true (sym p ∙ q)));
  }

module _ (ws ms flags : List ℕ) (kind : Kind) (x : ℕ) where
  pub key_without : So (uses_partner kind) → NoPartner ws ms kind x → KeySpread ws ms flags flags kind x
  key_without p n = record {
    raising = raising_none flags (number kind) (get_or ws 1 0);
    flagged = λ u e d h. absurd (n u.target _ (subst (λ y. So (eligible (get_or ws 0 0) (view ws ms) (step_with (view ws ms) kind u.target y))) d (by_partner (get_or ws 0 0) (view ws ms) u kind e h p)));
  }

  pub key_empty : get_or ws 1 0 ≡ 0 → KeySpread ws ms flags flags kind x
  key_empty z = record { raising = raising_none flags (number kind) (get_or ws 1 0); flagged = λ u e d h. absurd (let l = target_lt ws ms u h in omega arith) }

  pub key_past : Passed ws → uses_partner kind ≡ false → 1024 ≤ x → KeySpread ws ms flags flags kind x
  unfolding applies condition_holds
  key_past q p l = record {
    raising = raising_none flags (number kind) (get_or ws 1 0);
    flagged = λ u e d h.
        let v = subst (λ y. So (eligible (get_or ws 0 0) (view ws ms) (step kind u.target 0 y))) d (by_atom (get_or ws 0 0) (view ws ms) u kind e h p) in
        let w = simp and_iff at (eligible_applies (get_or ws 0 0) (view ws ms) (step kind u.target 0 x) v) in
        absurd (omega (arith, ltb-true x (get_or ws 0 0) (subst (λ b. So (cond b (ltb x (get_or ws 0 0)) (eqb x 0))) (alone_atom kind p) w.1.1.0), (passed_limits ws q).few_atoms));
  }
