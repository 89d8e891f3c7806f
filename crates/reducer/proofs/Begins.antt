-- The state in which the reducer begins: every step is open.
use mathlib.Core.Path.{◌≡◌, refl, ap, ◌∙◌}
use mathlib.Core.Logic.{◌≢◌}
use mathlib.Core.Bool.{So, false≢true}
use mathlib.Core.List.{List}
use Prim.Native.Nat.{ℕ, ◌+◌, ◌*◌, ◌≤◌, ◌<◌}
use native.Mathlib.Omega.{arith}
use lib.ListN.{length, get_or, replicate, length-replicate}
use Rattle.rewriting.specs.Kinds.{Kind, tautology, contradiction, success, no_head, blocked, failure, subsumed, number, uses_partner}
use Rattle.rewriting.proofs.Rows.{each_kind, kinds_partner}
use Rattle.rewriting.proofs.Quiet.{Quiet, key, quiet_all}
use Rattle.table.specs.View.{view}
use Rattle.step_parts.specs.Parts.{Ready}
use Rattle.table.proofs.Slices.{zero_at}
use Rattle.step_conditions.specs.Known.{Heads}
use Rattle.search_flags.specs.Flags.{flag_at, Rows, NoFlagLost, Raising, AllFlagged, all_flags, highests, nexts}
use Rattle.search_keys.specs.State.{Flagged, State}
use Rattle.search_spreads.proofs.Limits.{target_lt, key_lt}
use Rattle.reducer.specs.Runs.{AllOpen}

-- ---- no flag

rows_none : (m : ℕ) (flags : List ℕ) → flags ≡ replicate all_flags 0 → Rows m flags
rows_none m flags e = record {
  long = ap length e ∙ length-replicate {A = ℕ} all_flags 0;
  inside = λ r a b i l f. absurd (f (none (r * 2048 + i)));
  high = λ r a b. omega (arith, none (highests + r));
  few = λ r a b. omega (arith, none (highests + r));
}
  where
    none : (i : ℕ) → get_or flags i 0 ≡ 0
    none i = ap (λ l. get_or l i 0) e ∙ zero_at all_flags i

-- ---- row after row

then : (a b c : List ℕ) → NoFlagLost a b → NoFlagLost b c → NoFlagLost a c
then a b c f g r i x y e = f r i x y (g r i x y e)

kept : (a b : List ℕ) (row top : ℕ) → row ≤ 16 → top ≤ 2048 → NoFlagLost a b → AllFlagged a row top → AllFlagged b row top
kept a b row top x y g f i l e = f i l (g row i x (omega arith) e)

module _ (m : ℕ) (l0 l1 l2 l3 l4 l5 l6 l7 l8 : List ℕ) (z : l0 ≡ replicate all_flags 0) (few : m ≤ 2048)
    (r1 : Raising l0 l1 0 1 × ((flag_at l1 0 0 ≢ 0) × (flag_at l1 0 0 ≤ 1))) (r2 : Raising l1 l2 1 m × AllFlagged l2 1 m) (r3 : Raising l2 l3 2 m × AllFlagged l3 2 m)
    (r4 : Raising l3 l4 11 2048 × AllFlagged l4 11 2048) (r5 : Raising l4 l5 12 2048 × AllFlagged l5 12 2048) (r6 : Raising l5 l6 13 2048 × AllFlagged l6 13 2048)
    (r7 : Raising l6 l7 14 2048 × AllFlagged l7 14 2048) (r8 : Raising l7 l8 16 2048 × AllFlagged l8 16 2048) where
  after6 : NoFlagLost l6 l8
  after6 = then l6 l7 l8 r7.0.grown r8.0.grown

  after5 : NoFlagLost l5 l8
  after5 = then l5 l6 l8 r6.0.grown after6

  after4 : NoFlagLost l4 l8
  after4 = then l4 l5 l8 r5.0.grown after5

  after3 : NoFlagLost l3 l8
  after3 = then l3 l4 l8 r4.0.grown after4

  after2 : NoFlagLost l2 l8
  after2 = then l2 l3 l8 r3.0.grown after3

  after1 : NoFlagLost l1 l8
  after1 = then l1 l2 l8 r2.0.grown after2

  rows3 : Rows m l3
  rows3 = r3.0.rows m (λ a b. omega arith) (r2.0.rows m (λ a b. omega arith) (r1.0.rows m (λ a b. absurd (omega arith)) (rows_none m l0 z)))

  rows6 : Rows m l6
  rows6 = r6.0.rows m (λ a b. absurd (omega arith)) (r5.0.rows m (λ a b. absurd (omega arith)) (r4.0.rows m (λ a b. absurd (omega arith)) rows3))

  pub all_open : AllOpen l8 m
  all_open = record {
    rows = r8.0.rows m (λ a b. absurd (omega arith)) (r7.0.rows m (λ a b. absurd (omega arith)) rows6);
    reach = λ e. r1.1.0 (after1 0 0 (omega arith) (omega arith) e);
    tautology = kept l2 l8 1 m (omega arith) few after2 r2.1;
    contradiction = kept l3 l8 2 m (omega arith) few after3 r3.1;
    partner = λ t l. record {
      success = kept l4 l8 11 2048 (omega arith) (omega arith) after4 r4.1 t l;
      blocked = kept l6 l8 13 2048 (omega arith) (omega arith) after6 r6.1 t l;
      subsumed = r8.1 t l;
    };
    atom = λ a l. record {
      no_head = kept l5 l8 12 2048 (omega arith) (omega arith) after5 r5.1 a l;
      failure = kept l7 l8 14 2048 (omega arith) (omega arith) r8.0.grown r7.1 a l;
    };
    none = λ i l. r8.0.rest i l ∙ r7.0.rest i l ∙ r6.0.rest i l ∙ r5.0.rest i l ∙ r4.0.rest i l ∙ r3.0.rest i l ∙ r2.0.rest i l ∙ r1.0.rest i l ∙ ap (λ x. get_or x (nexts + i) 0) z ∙ zero_at all_flags (nexts + i);
  }

-- ---- the state

pub state_begun : (ws ms index hs rs flags : List ℕ) → Ready ws ms index → Heads ws ms hs → get_or ws 0 0 ≤ length hs → get_or ws 0 0 ≤ length rs → AllOpen flags (get_or ws 1 0) → State ws ms index hs rs flags
state_begun ws ms index hs rs flags r h a b o = record {
  ready = r;
  counted = h;
  atoms = a;
  bytes = b;
  rows = o.rows;
  reached = λ q. absurd (o.reach q);
  quiet = go;
  least = λ k p u e f h. absurd (fresh k p (key u) (key_lt ws ms r.placed.passed u h) f);
  gaps = λ p j l a b. absurd (let q = o.none p l in omega arith);
  bounded = λ u e f h. absurd ((o.partner (key u) (key_lt ws ms r.placed.passed u h)).success f);
}
  where
    fresh : (k : Kind) → So (uses_partner k) → (x : ℕ) → x < 2048 → flag_at flags (8 + number k) x ≢ 0
    fresh = kinds_partner (λ k. (x : ℕ) → x < 2048 → flag_at flags (8 + number k) x ≢ 0) (λ x l. (o.partner x l).success) (λ x l. (o.partner x l).blocked) (λ x l. (o.partner x l).subsumed)

    by_key : (k : Kind) → ((x : ℕ) → x < 2048 → flag_at flags (8 + number k) x ≢ 0) → Quiet (get_or ws 0 0) (view ws ms) k (flag_at flags (number k)) (flag_at flags (8 + number k))
    by_key k f = record { calm = λ u e m x y. f (key u) (key_lt ws ms r.placed.passed u y) x }

    go : (k : Kind) → Flagged k flags → Quiet (get_or ws 0 0) (view ws ms) k (flag_at flags (number k)) (flag_at flags (8 + number k))
    go = each_kind (λ k. Flagged k flags → Quiet (get_or ws 0 0) (view ws ms) k (flag_at flags (number k)) (flag_at flags (8 + number k)))
        (λ e. quiet_all (get_or ws 0 0) (view ws ms) tautology (flag_at flags 1) (flag_at flags 9) (λ u x. o.tautology u.target (target_lt ws ms u x)))
        (λ e. quiet_all (get_or ws 0 0) (view ws ms) contradiction (flag_at flags 2) (flag_at flags 10) (λ u x. o.contradiction u.target (target_lt ws ms u x)))
        (λ e. by_key success (fresh success refl))
        (λ e. by_key no_head (λ x l. (o.atom x l).no_head))
        (λ e. by_key blocked (fresh blocked refl))
        (λ e. by_key failure (λ x l. (o.atom x l).failure))
        (λ e. absurd (o.reach (e.1 refl)))
        (λ e. by_key subsumed (fresh subsumed refl)) (λ e. absurd (false≢true e.0))
