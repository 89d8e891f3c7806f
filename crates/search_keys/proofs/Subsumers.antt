-- Kinds 5 and 8: the targets of a clause that is subsumed are those of the clause that subsumes it.
use mathlib.Core.Path.{◌≡◌, refl, sym, ap, ◌∙◌}
use mathlib.Core.Logic.{◌≢◌}
use mathlib.Core.Bool.{So, cond}
use mathlib.Core.List.{List}
use Prim.Native.Nat.{ℕ, ◌+◌}
use native.Mathlib.Omega.{arith}
use lib.ListN.{get_or}
use Rattle.rewriting.specs.Steps.{step}
use Rattle.rewriting.specs.Kinds.{Kind, success, number, kind_of, uses_partner}
use Rattle.rewriting.specs.Reducer.{spares, eligible}
use Rattle.rewriting.proofs.Rows.{kind_of_number, kinds_partner}
use Rattle.rewriting.proofs.Subsumed.{subsumer_eligible}
use Rattle.table.specs.View.{view}
use Rattle.table.proofs.Parts.{view_ascends}
use Rattle.step_kinds.specs.Kinds.{PartnerKind}
use Rattle.search_flags.specs.Flags.{flag_at, Covered}
use Rattle.search_keys.specs.State.{State, Subsumer}
use Rattle.search_spreads.specs.Spreads.{PartnerSpread}
use Rattle.search_spreads.proofs.Clues.{spread_unnamed}
use Rattle.search_flags.proofs.Changes.{raising_none}
use Rattle.search_keys.proofs.States.{partner_loop}

module _ (ws ms index hs rs flags : List ℕ) (z : State ws ms index hs rs flags) (kind : Kind) (x q : ℕ) (s : Subsumer ws ms flags kind x q) (k : PartnerKind kind) (d : kind ≢ success) where
  spared : So (spares kind)
  spared = kinds_partner (λ i. i ≢ success → So (spares i)) (λ e. absurd (e refl)) (λ e. refl) (λ e. refl) kind k d

  -- q is no fresh key
  stale_key : flag_at flags (8 + number kind) (cond (uses_partner kind) q 0) ≡ 0
  stale_key = ap (λ b. flag_at flags (8 + number kind) (cond b q 0)) k ∙ s.stale

  -- a target of q is flagged with no greater key
  target_covered : (t : ℕ) → So (eligible (get_or ws 0 0) (view ws ms) (step kind t q 0)) → Covered flags (number kind) t x
  target_covered t a =
      let u = step kind t q 0 in
      let l = z.least kind k u refl stale_key a in
      let y : cond (uses_partner kind) q 0 ≡ q = ap (λ b. cond b q 0) k in
      (((λ m. (z.quiet kind (partner_loop flags kind k)).calm u refl m stale_key a), omega (arith, l, y, s.less)), λ e. absurd (d (sym (kind_of_number kind) ∙ ap kind_of e)))

  -- a target of x is one of q, so it is flagged already
  pub subsumer_spread : PartnerSpread ws ms flags flags kind x
  subsumer_spread = spread_unnamed ws ms flags flags kind x k d (record {
    raising = raising_none flags (number kind) (get_or ws 1 0);
    flagged = λ t h. target_covered t (subsumer_eligible (get_or ws 0 0) (view ws ms) (view_ascends ws ms z.ready.placed.passed) x q s.less s.kept s.holds kind spared t h);
  })
