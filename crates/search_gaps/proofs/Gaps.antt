-- Clauses that are gone are passed once: the numbers up to which they are gone, and flags that go up past them.
use mathlib.Core.Path.{◌≡◌, refl, sym, subst, ◌∙◌}
use mathlib.Core.Logic.{◌≢◌, by_cases}
use mathlib.Core.Bool.{false, So}
use mathlib.Core.List.{List}
use Prim.Native.Nat.{ℕ, ◌+◌, ◌-◌, ◌*◌, ◌≤◌, ◌<◌}
use native.Mathlib.Omega.{arith}
use native.Mathlib.Decide.{ℕ_discrete, dec_lt}
use lib.ListN.{length, get_or, set, length-set}
use lib.Seq.{get_or-set_same, get_or-set_other}
use Rattle.semantics.proofs.Tests.{so_false}
use Rattle.rewriting.specs.Marked.{entry}
use Rattle.rewriting.specs.Steps.{Step}
use Rattle.rewriting.specs.Reducer.{eligible}
use Rattle.rewriting.specs.Search.{step_with}
use Rattle.rewriting.specs.Kinds.{Kind, number}
use Rattle.rewriting.proofs.Rows.{number_bounds}
use Rattle.rewriting.proofs.Quiet.{stale}
use Rattle.table.specs.Questions.{Passed}
use Rattle.table.specs.View.{view}
use Rattle.table.proofs.Encoding.{passed_limits}
use Rattle.search_flags.specs.Flags.{flag_at, next, all_flags, mosts, nexts}
use Rattle.step_kinds.specs.Kinds.{PartnerKind}
use Rattle.search_keys.specs.State.{Gaps, Calm, Swept, Skipped, Lifted}
use Rattle.search_flags.proofs.Changes.{rows_with, inside_set}
use Rattle.search_keys.proofs.States.{quiet_same}
use Rattle.search_spreads.proofs.Limits.{target_lt}
use Rattle.search_spreads.proofs.Spreads.{partner_kept_lem}
use Rattle.search_gaps.proofs.Sweeps.{swept_none, swept_later, calm_from}

-- ---- the number of a clause

module _ (ws ms flags : List ℕ) (q e f r : ℕ) (g : Gaps ws ms flags) (l : q < 2048) (h : r ≤ e) (up : (j : ℕ) → j < f → q ≤ j → j < next flags q) (d : (j : ℕ) → f ≤ j → j < r → ¬ So (entry (view ws ms) j).kept) where
  past : (j : ℕ) → q ≤ j → j < r → ¬ So (entry (view ws ms) j).kept
  past j a b = by_cases (dec_lt j f) (λ x. g q j l a (up j x a)) (λ x. d j (omega arith) b)

  pub skipped_none : Skipped ws ms flags flags q e r
  skipped_none = record { less = h; gone = past; gaps = g; long = refl; same = λ j _. refl }

  pub skipped_on : length flags ≡ all_flags → Skipped ws ms flags (set flags (nexts + q) r) q e r
  skipped_on w = record {
    less = h;
    gone = past;
    gaps = λ p j a b k. by_cases (ℕ_discrete p q)
        (λ z. past j (omega arith) (let y = get_or-set_same flags (nexts + q) r 0 (omega arith) in let x = subst (λ i. j < next (set flags (nexts + q) r) i) z k in omega arith))
        (λ z. g p j a b (let y = get_or-set_other flags (nexts + q) (nexts + p) r 0 (λ v. z (omega arith)) in omega arith));
    long = simp length-set;
    same = λ j k. get_or-set_other flags (nexts + q) j r 0 (λ z. omega arith);
  }

-- ---- the flag of a target

module _ (ws ms flags : List ℕ) (kind : Kind) (t : ℕ) (c : Calm ws ms flags kind) (k : PartnerKind kind) (l : t < 2048) (f : flag_at flags (number kind) t ≢ 0) where
  pub lifted_none : Lifted ws ms flags flags kind t
  lifted_none = record { swept = swept_none ws ms flags kind c; flagged = f; inside = λ low end w. w }

  module _ (flags' : List ℕ) (e r : ℕ) (s : Skipped ws ms flags flags' (flag_at flags (number kind) t - 1) e r) (ok : Passed ws) where
    row : (i : ℕ) → i < 2048 → flag_at flags' (number kind) i ≡ flag_at flags (number kind) i
    row i h = s.same (number kind * 2048 + i) (omega (arith, number_bounds kind))

    skipped_swept : Swept ws ms flags flags' kind
    skipped_swept = record {
      calm = record {
        rows = rows_with flags flags' s.long (λ r i a b e. s.same (r * 2048 + i) (omega arith) ∙ e) (λ j a b. s.same j (omega arith)) (get_or ws 1 0) c.rows;
        least = λ p u a b h. omega (arith, row u.target (below u h), c.least p u a b h);
        bounded = λ d u a b h. omega (arith, s.same (mosts + u.target) (omega (arith, below u h)), c.bounded d u a b h);
        gaps = s.gaps;
        quiet = quiet_same ws ms ok kind (flag_at flags (number kind)) stale (flag_at flags' (number kind)) stale c.quiet (λ i h z. sym (row i h) ∙ z) (λ i h z. z);
      };
      frame = λ j h _. s.same j h;
    }
      where
        below : (u : Step) → So (eligible (get_or ws 0 0) (view ws ms) u) → u.target < 2048
        below u h = omega (arith, target_lt ws ms u h, (passed_limits ws ok).few_clauses)

    -- no clause before r makes an eligible step
    none_before : (q : ℕ) → q < r → eligible (get_or ws 0 0) (view ws ms) (step_with (view ws ms) kind t q) ≡ false
    none_before q h = by_cases (dec_lt (q + 1) (flag_at flags (number kind) t)) (λ x. calm_from ws ms flags kind c k t q x)
        (λ x. so_false _ (λ y. s.gone q (omega arith) h (partner_kept_lem (view ws ms) (get_or ws 0 0) kind t q _ k y)))

    pub lifted_on : Lifted ws ms flags (set flags' (number kind * 2048 + t) (r + 1)) kind t
    lifted_on = record {
      swept = swept_later ws ms flags flags' kind skipped_swept k t r l still none_before;
      flagged = λ e. absurd (let q = get_or-set_same flags' (number kind * 2048 + t) (r + 1) 0 (omega (arith, s.long, c.rows.long, number_bounds kind)) in omega (arith, q, e));
      inside = λ low end w. inside_set flags' (number kind) t (r + 1) (let h = number_bounds kind in omega arith) l (λ e. absurd (still e)) low end (λ i h g. w i h (λ e. g (row i h ∙ e)));
    }
      where
        still : flag_at flags' (number kind) t ≢ 0
        still e = f (sym (row t l) ∙ e)

-- one search after the other
pub swept_then : (ws ms one two three : List ℕ) (kind : Kind) → Swept ws ms one two kind → Swept ws ms two three kind → Swept ws ms one three kind
swept_then ws ms one two three kind a b = record { calm = b.calm; frame = λ j h o. b.frame j h o ∙ a.frame j h o }
