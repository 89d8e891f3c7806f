-- A search of a kind changes flags of its own: a target without a flag, or before a flag's key, has no eligible step.
use mathlib.Core.Path.{◌≡◌, refl, sym, ap, subst, ◌∙◌}
use mathlib.Core.Logic.{◌≢◌, ◌⊎◌, by_cases, ⊎_elim}
use mathlib.Core.Bool.{false, So}
use mathlib.Core.List.{List}
use mathlib.Core.Option.{none}
use Prim.Native.Nat.{ℕ, ◌+◌, ◌*◌, ◌≤◌, ◌<◌}
use native.Mathlib.Omega.{arith}
use native.Mathlib.Decide.{ℕ_discrete, dec_lt}
use lib.ListN.{get_or, set}
use lib.Seq.{get_or-set_same, get_or-set_other}
use Rattle.semantics.proofs.Tests.{so_false, not_so}
use Rattle.rewriting.specs.Reducer.{eligible}
use Rattle.rewriting.specs.Kinds.{Kind, number}
use Rattle.rewriting.proofs.Rows.{number_bounds}
use Rattle.rewriting.specs.Search.{step_with, first_partner}
use Rattle.rewriting.proofs.Order.{Before}
use Rattle.rewriting.proofs.Quiet.{stale, key, key_with, quiet_more, quiet_clear, quiet_target}
use Rattle.table.specs.View.{view}
use Rattle.search_flags.specs.Flags.{flag_at, most, Inside, mosts, nexts}
use Rattle.step_kinds.specs.Kinds.{PartnerKind}
use Rattle.search_keys.specs.State.{Gaps, Calm, Swept}
use Rattle.search_flags.proofs.Changes.{outside, rows_set, flag_cleared}
use Rattle.search_spreads.proofs.Spreads.{by_partner}

-- a target has no eligible step with a partner before its flag's key
pub calm_from : (ws ms flags : List ℕ) (kind : Kind) → Calm ws ms flags kind → PartnerKind kind → (t q : ℕ) → q + 1 < flag_at flags (number kind) t → eligible (get_or ws 0 0) (view ws ms) (step_with (view ws ms) kind t q) ≡ false
calm_from ws ms flags kind c k t q l = so_false _ (λ h.
    let v = c.least k (step_with (view ws ms) kind t q) refl refl h in omega (arith, v, key_with (view ws ms) kind t q k, l))

pub swept_none : (ws ms flags : List ℕ) (kind : Kind) → Calm ws ms flags kind → Swept ws ms flags flags kind
swept_none ws ms flags kind c = record { calm = c; frame = λ j _ _. refl }

module _ (ws ms flags flags' : List ℕ) (kind : Kind) (s : Swept ws ms flags flags' kind) where
  -- a target without a flag has no eligible step
  pub swept_over : (t : ℕ) → get_or flags' (number kind * 2048 + t) 0 ≡ 0 → first_partner (get_or ws 0 0) (view ws ms) kind t ≡ none
  swept_over t e = quiet_target (get_or ws 0 0) (view ws ms) kind (flag_at flags' (number kind)) stale s.calm.quiet (λ x. refl) t e

  swept_frame : (t v : ℕ) → t < 2048 → (j : ℕ) → j < nexts → (j < number kind * 2048) ⊎ (number kind * 2048 + 2048 ≤ j) → get_or (set flags' (number kind * 2048 + t) v) j 0 ≡ get_or flags j 0
  swept_frame t v l j h o = get_or-set_other flags' (number kind * 2048 + t) j v 0 (λ z. ⊎_elim (λ x. omega arith) (λ x. omega arith) o) ∙ s.frame j h o

  most_same : (t v i : ℕ) → t < 2048 → most (set flags' (number kind * 2048 + t) v) i ≡ most flags' i
  most_same t v i l = get_or-set_other flags' (number kind * 2048 + t) (mosts + i) v 0 (λ z. omega (arith, number_bounds kind))

  gaps_same : (t v : ℕ) → t < 2048 → Gaps ws ms (set flags' (number kind * 2048 + t) v)
  gaps_same t v l p j a b d = s.calm.gaps p j a b (omega (arith, get_or-set_other flags' (number kind * 2048 + t) (nexts + p) v 0 (λ z. omega (arith, number_bounds kind)), d))

  -- a target that has no eligible step loses its flag
  pub swept_clear : (t : ℕ) → t < 2048 → first_partner (get_or ws 0 0) (view ws ms) kind t ≡ none → Swept ws ms flags (set flags' (number kind * 2048 + t) 0) kind
  swept_clear t l e = record {
    calm = record {
      rows = rows_set flags' (number kind) t 0 (omega (arith, number_bounds kind)) l (λ _. refl) (get_or ws 1 0) s.calm.rows;
      quiet = quiet_clear (get_or ws 0 0) (view ws ms) kind (flag_at flags' (number kind)) stale s.calm.quiet (flag_at (set flags' (number kind * 2048 + t) 0) (number kind)) t
          (λ i d z. sym (get_or-set_other flags' (number kind * 2048 + t) (number kind * 2048 + i) 0 0 (λ q. d (omega arith))) ∙ z) e;
      least = λ p u f g y. let v = s.calm.least p u f g y in by_cases (ℕ_discrete u.target t)
          (λ d. let w = flag_cleared flags' (number kind * 2048 + t) (number kind * 2048 + u.target) (let z : number kind * 2048 + u.target ≡ number kind * 2048 + t = omega arith in z) in omega (arith, w))
          (λ d. omega (arith, get_or-set_other flags' (number kind * 2048 + t) (number kind * 2048 + u.target) 0 0 (λ q. d (omega arith)), v));
      bounded = λ d u f g y. omega (arith, most_same t 0 u.target l, s.calm.bounded d u f g y);
      gaps = gaps_same t 0 l;
    };
    frame = swept_frame t 0 l;
  }

  -- the flag of a target goes up to the first partner that it has an eligible step with
  pub swept_later : PartnerKind kind → (t p : ℕ) → t < 2048 → flag_at flags' (number kind) t ≢ 0 → ((q : ℕ) → q < p → eligible (get_or ws 0 0) (view ws ms) (step_with (view ws ms) kind t q) ≡ false)
      → Swept ws ms flags (set flags' (number kind * 2048 + t) (p + 1)) kind
  swept_later k t p l f b = record {
    calm = record {
      rows = rows_set flags' (number kind) t (p + 1) (omega (arith, number_bounds kind)) l (λ e. absurd (f e)) (get_or ws 1 0) s.calm.rows;
      quiet = quiet_more (get_or ws 0 0) (view ws ms) kind (flag_at flags' (number kind)) stale s.calm.quiet (flag_at after (number kind)) stale
          (λ i z. by_cases (ℕ_discrete i t) (λ d. absurd (let q = at i d in omega arith)) (λ d. sym (beside i d) ∙ z)) (λ i z. z);
      least = λ y u g h v. by_cases (ℕ_discrete u.target t)
          (λ d. let q = at u.target d in by_cases (dec_lt (key u) p)
          (λ x. absurd (not_so (b (key u) x) (subst (λ i. So (eligible (get_or ws 0 0) (view ws ms) (step_with (view ws ms) kind i (key u)))) d (by_partner (get_or ws 0 0) (view ws ms) u kind g v y))))
          (λ x. omega (arith, q)))
          (λ d. omega (arith, beside u.target d, s.calm.least y u g h v));
      bounded = λ d u g h y. omega (arith, most_same t (p + 1) u.target l, s.calm.bounded d u g h y);
      gaps = gaps_same t (p + 1) l;
    };
    frame = swept_frame t (p + 1) l;
  }
    where
      after : List ℕ
      after = set flags' (number kind * 2048 + t) (p + 1)

      at : (i : ℕ) → i ≡ t → flag_at after (number kind) i ≡ p + 1
      at i d = ap (λ j. get_or after (number kind * 2048 + j) 0) d ∙ get_or-set_same flags' (number kind * 2048 + t) (p + 1) 0 (omega (arith, s.calm.rows.long, number_bounds kind))

      beside : (i : ℕ) → i ≢ t → flag_at after (number kind) i ≡ flag_at flags' (number kind) i
      beside i d = get_or-set_other flags' (number kind * 2048 + t) (number kind * 2048 + i) (p + 1) 0 (λ q. d (omega arith))

  module _ (t end : ℕ) (w : Inside flags' (number kind) t end) (few : get_or ws 1 0 ≤ 2048) where
    -- the targets before the row's first flag have no eligible step
    pub swept_before : t ≤ get_or ws 1 0 → Before (get_or ws 0 0) (view ws ms) kind t
    swept_before l j k = swept_over j (outside flags' (number kind) t end j w (omega arith) (λ a b. omega arith))

    -- nor has any where the row has no flag
    pub swept_all : end ≤ t → Before (get_or ws 0 0) (view ws ms) kind (get_or ws 1 0)
    swept_all l j k = swept_over j (outside flags' (number kind) t end j w (omega arith) (λ a b. omega arith))
