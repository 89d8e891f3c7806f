-- The kept words of a part, from its front, and the places in it that are sought.
use mathlib.Core.Path.{◌≡◌, refl, sym, ap, subst}
use mathlib.Core.Logic.{by_cases}
use mathlib.Core.Bool.{Bool, true, false, cond}
use mathlib.Core.List.{List, [], ◌∷◌}
use Prim.Native.Nat.{ℕ, suc, ◌+◌, ◌-◌, ◌≤◌, ◌<◌}
use native.Mathlib.Omega.{arith}
use native.Mathlib.Decide.{dec_lt}
use lib.Dec.{eqb, ltb}
use lib.ListN.{length, get_or, take, drop, length-drop}
use lib.Seq.{get_or-drop}
use borrow.Author.Tests.{eq-eqb, ne_eqb}
use Rattle.std.proofs.Math.Bool.{So}
use Rattle.std.specs.Option.{MatchOption, unwrap_or}
use Rattle.std.specs.Prelude.{Option, Some, None}
use Rattle.std.specs.List.{AllWithin, HoldsAt}
use Rattle.std.specs.List.Sorted.{IsNonDecreasingBy, IsPartitionPoint}
use Rattle.std.proofs.lemmas.Bool.{ltb-true, ltb-false, lt-ltb}
use Rattle.std.proofs.lemmas.List.{take_all}
use Rattle.std.proofs.lemmas.Grind.{get_or_default_zero}
use Rattle.semantics.specs.Lists.{◌∈◌, all, ascending}
use Rattle.semantics.proofs.Tests.{and_iff, all_iff}
use Rattle.table.specs.Slices.{kept_of}
use Rattle.step_parts.specs.Parts.{Ascends, Sought}
use Rattle.step_parts.proofs.Laws.{kept_place, seek_high}

pub no_words : (ws ms : List ℕ) → length ws ≡ 0 → kept_of ws ms ≡ []
unfolding kept_of
no_words [] ms e = refl
no_words (x ∷ ws) ms e = absurd (omega arith)

pub no_marks : (ws ms : List ℕ) → length ms ≡ 0 → kept_of ws ms ≡ []
unfolding kept_of
no_marks [] ms e = refl
no_marks (x ∷ ws) [] e = refl
no_marks (x ∷ ws) (m ∷ ms) e = absurd (omega arith)

module _ {ws ms us ns : List ℕ} {x m : ℕ} (p : ws ≡ x ∷ us) (q : ms ≡ m ∷ ns) where
  pub keeps_first : m ≡ 1 → kept_of ws ms ≡ x ∷ kept_of us ns
  unfolding kept_of
  keeps_first e = rw (p, q, eq-eqb m 1 e)

  pub drops_first : (m ≡ 1 → ⊥) → kept_of ws ms ≡ kept_of us ns
  unfolding kept_of
  drops_first e = rw (p, q, ne_eqb m 1 e)

-- the words from a place on
pub rest_all : (part : List ℕ) (from : ℕ) → take (length part - from) (drop from part) ≡ drop from part
rest_all part from = take_all _ _ (simp length-drop (omega arith))

-- the same, where there are as many marks as words, of which the first is read
module _ {ws us : List ℕ} {x : ℕ} (p : ws ≡ x ∷ us) where
  pub keeps_one : (ms : List ℕ) → length ws ≤ length ms → get_or ms 0 0 ≡ 1 → kept_of ws ms ≡ x ∷ kept_of us (take (length ms - 1) (drop 1 ms))
  keeps_one [] l e = absurd (omega (arith, ap length p))
  keeps_one (m ∷ ns) l e = rw (rest_all (m ∷ ns) 1) (keeps_first p refl e)

  pub drops_one : (ms : List ℕ) → length ws ≤ length ms → (get_or ms 0 0 ≡ 1 → ⊥) → kept_of us (take (length ms - 1) (drop 1 ms)) ≡ kept_of ws ms
  drops_one [] l e = absurd (omega (arith, ap length p))
  drops_one (m ∷ ns) l e = rw (rest_all (m ∷ ns) 1) (sym (drops_first p refl e))

-- a part that ascends, as the library has it
pub never_falls : (part : List ℕ) → Ascends part → IsNonDecreasingBy (λ x. x) part
never_falls part up i j d l h = by_cases (dec_lt i j) (λ k. rw (get_or_default_zero part i d (omega arith), get_or_default_zero part j d h) (omega (arith, up.rises i j k h))) (λ k. let e : i ≡ j = omega arith in rw e (omega arith))

-- the place that halving finds
pub sought_by : (part : List ℕ) (atom r : ℕ) → r ≤ length part → IsPartitionPoint (λ y. ltb y atom ≡ true) (λ y. ltb y atom ≡ false) part r → Sought part atom r
sought_by part atom r l p = record { within = l; below = λ i h. ltb-true _ _ (p.0 i 0 (omega arith) h); above = λ i h k. ltb-false _ _ (p.1 i 0 h k) }

-- a place past `from`, counted from there
below_on : (part : List ℕ) (from atom i : ℕ) → ((k : ℕ) → k < from → get_or part k 0 < atom) → ((k : ℕ) → from + k ≡ i → get_or (drop from part) k 0 < atom) → get_or part i 0 < atom
below_on part from atom i low f = by_cases (dec_lt i from) (low i) (λ h. let e : from + (i - from) ≡ i = omega arith in subst (λ k. get_or part k 0 < atom) e (subst (λ v. v < atom) (get_or-drop from part (i - from) 0) (f (i - from) e)))

-- and the one that a walk from a place on finds
pub sought_on : (part : List ℕ) (from atom : ℕ) (r : Option ℕ) → from ≤ length part → ((i : ℕ) → i < from → get_or part i 0 < atom) → Ascends part
    → MatchOption r (AllWithin (λ w. w < atom) (drop from part) 0 (length (drop from part))) (λ i. (i < length (drop from part)) × HoldsAt (λ w. atom ≤ w) (drop from part) i × AllWithin (λ w. w < atom) (drop from part) 0 i)
    → Sought part atom (from + unwrap_or r (length (drop from part)))
sought_on part from atom None f low up m = record { within = simp length-drop (omega arith); below = λ i h. below_on part from atom i low (λ k l. m k 0 (omega arith) (simp length-drop (omega (arith, simp length-drop at h)))); above = λ i h k. absurd (omega (arith, simp length-drop at h)) }
sought_on part from atom (Some j) f low up (l, hit, m) = record { within = omega (arith, simp length-drop at l); below = λ i h. below_on part from atom i low (λ k g. m k 0 (omega arith) (omega arith)); above = seek_high part atom (from + j) up (subst (λ v. atom ≤ v) (get_or-drop from part j 0) (hit 0)) }

-- the kept words of a part that ascends do
pub kept_ascends : (ws ms : List ℕ) → Ascends ws → So (ascending (kept_of ws ms))
unfolding kept_of ascending
kept_ascends [] ms up = refl
kept_ascends (x ∷ ws) [] up = refl
kept_ascends (x ∷ ws) (m ∷ ms) up = go (kept_ascends ws ms (record { rises = λ i j h l. up.rises (suc i) (suc j) (omega arith) (omega arith) })) (eqb m 1)
  where
    go : So (ascending (kept_of ws ms)) → (t : Bool) → So (ascending (cond t (x ∷ kept_of ws ms) (kept_of ws ms)))
    go later true = (and_iff (all (λ y. ltb x y) (kept_of ws ms)) (ascending (kept_of ws ms))).1 ((all_iff (λ y. ltb x y) (kept_of ws ms)).1 (λ y q. let p = kept_place ws ms y q in lt-ltb x y (subst (λ z. x < z) p.2 (up.rises 0 (suc p.0) (omega arith) (omega arith)))), later)
    go later false = later

-- what is above a word that is below the front of a list that ascends
pub all_above : (x : ℕ) (l : List ℕ) → So (ascending (x ∷ l)) → (So (ascending l)) × ((a : ℕ) → a ∈ l → x < a)
unfolding ascending
all_above x l o = let w = (and_iff (all (λ y. ltb x y) l) (ascending l)).0 o in (w.1, λ a m. ltb-true x a ((all_iff (λ y. ltb x y) l).0 w.0 a m))
