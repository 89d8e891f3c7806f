-- The state carries over to what a step leaves: a flag still says of a step what it said, but where the step is opened, and what is opened has a fresh key.
use mathlib.Core.Path.{◌≡◌, refl, sym, ap, subst}
use mathlib.Core.Logic.{◌≢◌, ◌⊎◌, ⊎_elim}
use mathlib.Core.Bool.{cond, So}
use mathlib.Core.List.{List}
use Prim.Native.Nat.{ℕ, ◌+◌, ◌≤◌, ◌<◌}
use native.Mathlib.Omega.{arith}
use lib.ListN.{length, get_or}
use Rattle.rewriting.specs.Marked.{Marked, entry}
use Rattle.rewriting.specs.Steps.{Step}
use Rattle.rewriting.specs.Reducer.{eligible}
use Rattle.rewriting.specs.Kinds.{Kind, success, number, uses_partner, on_target}
use Rattle.rewriting.specs.Uses.{asks_no_head}
use Rattle.rewriting.proofs.Rows.{number_bounds, target_bounds, partner_on_target, kinds_partner, kinds_no_head}
use Rattle.rewriting.proofs.Quiet.{Quiet, key}
use Rattle.table.specs.View.{view}
use Rattle.step_reach.specs.Bytes.{Reached}
use Rattle.step_conditions.specs.Known.{Heads}
use Rattle.search_flags.specs.Flags.{flag_at, most}
use Rattle.search_keys.specs.State.{State, Least, Most, Gaps, Flagged}
use Rattle.search_keys.proofs.States.{partner_loop, few_clauses_lem}
use Rattle.search_spreads.proofs.Limits.{target_lt, key_lt}
use Rattle.search_openings.specs.Opened.{Opened, PartnerFresh, AtomFresh}

-- The marks and the flags after a step, and the steps O that it opens: a step that is eligible was so before, or is one of O, and then its key is fresh; no clause is new, no flag is lost.
pub record Leaves (ws ms ms' flags flags' : List ℕ) (O : Step → Type 0) : Type 0 where
  pub opened : (u : Step) → So (on_target u.kind) → So (eligible (get_or ws 0 0) (view ws ms') u) → So (eligible (get_or ws 0 0) (view ws ms) u) ⊎ O u
  pub kept : (j : ℕ) → So (entry (view ws ms') j).kept → So (entry (view ws ms) j).kept
  pub raised : Opened flags flags'
  pub fresh : (k : Kind) → Flagged k flags' → (u : Step) → u.kind ≡ k → O u → flag_at flags' (8 + number k) (key u) ≢ 0

-- ---- fresh keys

module _ (flags : List ℕ) (k : Kind) (u : Step) (e : u.kind ≡ k) where
  pub partner_key : So (uses_partner u.kind) → PartnerFresh flags u.partner → flag_at flags (8 + number k) (key u) ≢ 0
  partner_key p f x = kinds_partner (λ k. flag_at flags (8 + number k) u.partner ≢ 0) f.success f.blocked f.subsumed k (subst (λ j. So (uses_partner j)) e p)
      (subst (λ b. flag_at flags (8 + number k) b ≡ 0) (ap (λ b. cond b u.partner u.atom) p) x)

  -- the key of a kind whose atom has to be in no head is the atom
  pub atom_key : So (asks_no_head u.kind) → AtomFresh flags u.atom → flag_at flags (8 + number k) (key u) ≢ 0
  atom_key p f x = kinds_no_head (λ k. flag_at flags (8 + number k) u.atom ≢ 0) f.no_head f.failure k (subst (λ j. So (asks_no_head j)) e p)
      (subst (λ b. flag_at flags (8 + number k) b ≡ 0) (kinds_no_head (λ j. cond (uses_partner j) u.partner u.atom ≡ u.atom) refl refl u.kind p) x)

-- ---- the state

module _ (ws ms index hs rs flags : List ℕ) (z : State ws ms index hs rs flags) (ms' flags' : List ℕ) (O : Step → Type 0) (l : Leaves ws ms ms' flags flags' O) where
  abbrev n : ℕ
  n = get_or ws 0 0

  abbrev Q : Marked
  Q = view ws ms'

  target_low : (u : Step) → So (eligible n Q u) → u.target < 2048
  target_low u v = omega (arith, target_lt ws ms' u v, few_clauses_lem ws ms index hs rs flags z)

  key_up : (k : Kind) → So (on_target k) → (u : Step) → So (eligible n Q u) → flag_at flags' (8 + number k) (key u) ≡ 0 → flag_at flags (8 + number k) (key u) ≡ 0
  key_up k j u v e = l.raised.grown (8 + number k) (key u) (omega (arith, target_bounds k j)) (key_lt ws ms' z.ready.placed.passed u v) e

  -- a step whose key is not fresh was eligible
  was : (k : Kind) → Flagged k flags' → (u : Step) → u.kind ≡ k → So (eligible n Q u) → flag_at flags' (8 + number k) (key u) ≡ 0 → So (eligible n (view ws ms) u)
  was k g u e v f = ⊎_elim (λ y. y) (λ q. absurd (l.fresh k g u e q f)) (l.opened u (subst (λ j. So (on_target j)) (sym e) g.0) v)

  quiet_on : (k : Kind) → Flagged k flags' → Quiet n Q k (flag_at flags' (number k)) (flag_at flags' (8 + number k))
  quiet_on k g = record {
    calm = λ u e m x v. (z.quiet k (g.0, λ q. l.raised.grown 0 0 (omega arith) (omega arith) (g.1 q))).calm u e
        (l.raised.grown (number k) u.target (omega (arith, number_bounds k)) (target_low u v) m) (key_up k g.0 u v x) (was k g u e v x);
  }

  -- a target that has a step with a key that is not fresh was flagged, so its flag can only have become less
  least_on : (k : Kind) → Least ws ms' k (flag_at flags' (number k)) (flag_at flags' (8 + number k))
  least_on k p u e f v =
      let y = was k (partner_loop flags' k p) u e v f in
      let g = key_up k (partner_on_target k p) u v f in
      let x = z.least k p u e g y in
      let d = l.raised.lower (number k) u.target (omega (arith, number_bounds k)) (target_low u v) (λ m. (z.quiet k (partner_loop flags k p)).calm u e m g y) in
      omega arith

  -- the bound of a target can only have become more
  most_on : Most ws ms' (most flags') (flag_at flags' 11)
  most_on u e f v =
      let x = z.bounded u e (key_up success refl u v f) (was success (partner_loop flags' success refl) u e v f) in
      let d = l.raised.more u.target (target_low u v) in omega arith

  -- a clause that is gone stays gone
  gaps_on : Gaps ws ms' flags'
  gaps_on p j i a b k = z.gaps p j i a (omega (arith, l.raised.rest p i, b)) (l.kept j k)

  pub state_left : (hs' : List ℕ) → length ws ≤ length ms' → Heads ws ms' hs' → n ≤ length hs' → (flag_at flags' 0 0 ≡ 0 → Reached ws ms' rs) → State ws ms' index hs' rs flags'
  state_left hs' m c a r = record {
    ready = record { placed = z.ready.placed; marks = m };
    counted = c;
    atoms = a;
    bytes = z.bytes;
    rows = l.raised.rows (get_or ws 1 0) z.rows;
    reached = r;
    quiet = quiet_on;
    least = least_on;
    bounded = most_on;
    gaps = gaps_on;
  }
