-- What followed from an atom leaves the queue and the sets, from the last atom on; and what is taken back settles the reach as before.
use mathlib.Core.Path.{◌≡◌, sym, ap, subst, ◌∙◌}
use mathlib.Core.Logic.{by_cases}
use mathlib.Core.List.{List}
use Prim.Native.Nat.{ℕ, ◌+◌, ◌≤◌, ◌<◌}
use native.Mathlib.Omega.{arith}
use native.Mathlib.Decide.{ℕ_discrete}
use lib.ListN.{length, get_or, set, take}
use Rattle.semantics.specs.Lists.{◌∈◌}
use Rattle.step_reach.specs.Counts.{Queued, lacks, ReachSettled}
use Rattle.step_reach.proofs.Queue.{take_sub, queued_same, queued_few, queued_at, queued_below, left_out, others_in}
use Rattle.search_closure.specs.Back.{Counted, Full, First, Lowest, Newest, Cleared}
use Rattle.search_closure.proofs.Counting.{first_more, lowest_trans}

-- ---- an atom leaves the queue and the sets

-- the last atom of the queue is not among those before it
pub newest_by : {s q : List ℕ} {n k : ℕ} → n ≡ k + 1 → Queued s q n → Newest q k
newest_by {s} {q} {n} {k} e z = let y = subst (Queued s q) e z in record { there = omega (arith, queued_few y, y.room); below = queued_below s q k y; once = y.once k (omega arith) }

-- one place less than the atoms
pub at_last : (P : ℕ → Type 0) {n j k : ℕ} → n ≡ j + 1 → n ≡ k + 1 → P j → P k
at_last P {n} {j} {k} d e p = subst P (let f : j ≡ k = omega arith in f) p

cleared_on : {taken s s' : List ℕ} (b : ℕ) → b < length s' → b ∈ taken → Cleared taken s s' → Cleared taken s (set s' b 0)
cleared_on {taken} {s} {s'} b l h c = record {
  less = λ a m. by_cases (ℕ_discrete a b) (λ e. absurd (left_out s' b a l e m)) (λ e. c.less a (sym (others_in s' b a e) ∙ m));
  gone = λ a m n. by_cases (ℕ_discrete a b) (λ e. subst (λ x. x ∈ taken) (sym e) h) (λ e. c.gone a m (λ w. n (others_in s' b a e ∙ w)));
}

-- ---- all that followed is put back

-- The atoms of the queue from k on are put back.
pub record TakingBack (ws ms can q : List ℕ) (first end k : ℕ) (todo₀ missing todo : List ℕ) (least : ℕ) : Type 0 where
  pub few : k ≤ end
  pub counted : Counted ws ms (take k q) missing
  pub lowest : Lowest ws ms can (take end q) (take k q) first least
  pub cleared : Cleared (take end q) todo₀ todo

module _ (ws ms can q : List ℕ) (first end : ℕ) where
  module _ {todo₀ missing todo : List ℕ} {least k : ℕ} (w : TakingBack ws ms can q first end k todo₀ missing todo least) where
    -- the last atom is put back
    pub taking_on : {s missing' q' : List ℕ} {r j v : ℕ} → k ≡ j + 1 → q' ≡ q → v ≡ get_or q' j 0 → Queued s q k → 1024 ≤ length todo → Counted ws ms (take j q') missing' → Lowest ws ms can (take k q) (take j q') least r
        → TakingBack ws ms can q' first end j todo₀ missing' (set todo v 0) r
    taking_on {missing' = missing'} {q' = q'} {r = r} {j = j} {v = v} e d h z l c g =
        let new = newest_by e z in
        let few : j + 1 ≤ end = omega (arith, w.few) in
        let here : v ≡ get_or q j 0 = h ∙ ap (λ x. get_or x j 0) d in
        subst (λ x. TakingBack ws ms can x first end j todo₀ missing' (set todo v 0) r) (sym d) (record {
          few = omega (arith, w.few);
          counted = subst (λ x. Counted ws ms (take j x) missing') d c;
          lowest = lowest_trans ws ms can (λ a m. take_sub k end q w.few m) w.lowest (subst (λ x. Lowest ws ms can (take k q) (take j x) least r) d g);
          cleared = cleared_on v (omega (arith, here, new.below)) (subst (λ x. x ∈ take end q) (sym here) (take_sub k end q w.few (queued_at j z (omega arith)))) w.cleared;
        })

    -- all are put back
    pub taking_end : (from : ℕ) → k ≡ from → First (Full ws ms can (take from q)) (get_or ws 1 0) first → First (Full ws ms can (take end q)) (get_or ws 1 0) least
    taking_end from e f = let v = subst (λ x. TakingBack ws ms can q first end x todo₀ missing todo least) e w in first_more ws ms can (λ a m. take_sub from end q v.few m) f v.lowest

-- ---- the reach is settled as before

-- with the same atoms in the queue, and the counts for these
pub settled_again : (ws ms : List ℕ) {s missing q s' missing' q' : List ℕ} {top : ℕ} → ReachSettled ws ms s missing q top → take top q' ≡ take top q → Queued s' q' top → Counted ws ms (take top q') missing' → ReachSettled ws ms s' missing' q' top
settled_again ws ms {s} {missing} {q} {s'} {missing'} {q'} {top} r e z c = record {
  within = λ T h a m. r.within T h a ((queued_same r.rest.queued a).1 (subst (λ l. a ∈ l) e ((queued_same z a).0 m)));
  rest = record {
    queued = z;
    taken = omega arith;
    exact = c.exact;
    heads = λ t l k o a m. (queued_same z a).1 (subst (λ l. a ∈ l) (sym e) ((queued_same r.rest.queued a).0 (r.rest.heads t l k (r.rest.exact t l ∙ ap (λ u. lacks ws ms u t) (sym e) ∙ sym (c.exact t l) ∙ o) a m)));
  };
}
