-- The parts of a clause read through the marks: as slices of words and marks, in order, and where every mark is 1.
use mathlib.Core.Path.{◌≡◌, refl, sym, ap, subst, ◌∙◌}
use mathlib.Core.Logic.{by_cases}
use mathlib.Core.Bool.{Bool, true, false, cond, So}
use mathlib.Core.List.Memᴰ
use mathlib.Core.List.{List, [], ◌∷◌}
use Prim.Native.Nat.{ℕ, zero, suc, ◌+◌, ◌≤◌, ◌<◌}
use native.Mathlib.Omega.{arith}
use native.Mathlib.Decide.{dec_lt}
use native.Mathlib.Numerals.{add-one}
use lib.Dec.{eqb, ltb}
use lib.ListN.{length, get_or, take, drop, replicate, length-append, length-replicate, length-drop, get_or-append, get_or-eq_default, get_or-replicate, drop_of_length-le}
use lib.Seq.{drop-cons}
use borrow.Author.Tests.{lt-ltb}
use Rattle.semantics.specs.Lists.{◌∈◌, all, ascending}
use Rattle.semantics.specs.Programs.{Clause}
use Rattle.semantics.proofs.Tests.{and_iff, all_iff}
use Rattle.rewriting.specs.Marked.{gone, entry, left, whole}
use Rattle.rewriting.proofs.Left.{left_whole}
use Rattle.rewriting.proofs.Measure.{Tidy}
use Rattle.rewriting.proofs.Equal.{Ascends}
use Rattle.table.specs.Questions.{Passed}
use Rattle.table.specs.Places.{cut, head_at, pos_at, neg_at, next_at, start_from, start_of}
use Rattle.table.specs.Programs.{clause_of, clauses_of, program_of}
use Rattle.table.specs.View.{part, entry_at, entries_from, view, all_kept}
use Rattle.table.specs.Slices.{kept_of}
use Rattle.table.proofs.Places.{Rises, Good, passed_good}
use Rattle.table.proofs.View.{part_mem, entry_view, length_view}

-- ---- every mark 1: the words themselves

-- the marks from `at` on, k of them, are 1
abbrev pub Ones : List ℕ → ℕ → ℕ → Type 0
Ones ms at e = (i : ℕ) → at ≤ i → i < e → get_or ms i 0 ≡ 1

part_ones : (ws ms : List ℕ) (at k : ℕ) → at + k ≤ length ws → Ones ms at (at + k) → part ws ms at k ≡ cut ws at k
unfolding part
part_ones ws ms at zero l o = refl
part_ones ws ms at (suc k) l o = rw (o at (omega arith) (omega arith), drop-cons ws at 0 (omega arith), part_ones ws ms (suc at) k (omega arith) (λ i a b. o i (omega arith) (omega arith)))

entry_ones : (ws ms : List ℕ) (at : ℕ) → next_at ws at ≤ length ws → Ones ms at (next_at ws at) → entry_at ws ms at ≡ record { kept = true; clause = clause_of ws at }
unfolding entry_at
entry_ones ws ms at l o = rw (
  o at (omega arith) (omega arith),
  part_ones ws ms (head_at at) (get_or ws at 0) (omega arith) (λ i a b. o i (omega arith) (omega arith)),
  part_ones ws ms (pos_at ws at) (get_or ws (at + 1) 0) (omega arith) (λ i a b. o i (omega arith) (omega arith)),
  part_ones ws ms (neg_at ws at) (get_or ws (at + 2) 0) (omega arith) (λ i a b. o i (omega arith) b),
)

entries_ones : (ws ms : List ℕ) (m at : ℕ) → ((t : ℕ) → t < m → next_at ws (start_from ws at t) ≤ length ws) → Ones ms at (length ws) → entries_from ws ms m at ≡ whole (clauses_of ws m at)
unfolding entries_from clauses_of start_from
entries_ones ws ms zero at g o = refl
entries_ones ws ms (suc m) at g o = rw (
  entry_ones ws ms at (g zero (omega arith)) (λ i a b. o i a (omega (arith, g zero (omega arith)))),
  entries_ones ws ms m (next_at ws at) (λ t h. g (suc t) (omega arith)) (λ i a b. o i (omega arith) b),
)

pub all_kept_one : (ws ms : List ℕ) (i : ℕ) → i < length ws → get_or (all_kept ws ms) i 0 ≡ 1
all_kept_one ws ms i h =
    get_or-append (replicate (length ws) 1) (drop (length ws) ms) 0 i (rw (length-replicate {A = ℕ} (length ws) 1) h) ∙ get_or-replicate (length ws) i 1 0 h

pub length_all_kept : (ws ms : List ℕ) → length ws ≤ length ms → length (all_kept ws ms) ≡ length ms
length_all_kept ws ms h = omega (arith, length-append (replicate (length ws) 1) (drop (length ws) ms), length-replicate {A = ℕ} (length ws) 1, length-drop (length ws) ms)

-- With every mark 1 a table that passed is its program, all of it kept.
pub view_all_kept : (ws ms : List ℕ) → Passed ws → view ws (all_kept ws ms) ≡ whole (program_of ws).clauses
unfolding view program_of
view_all_kept ws ms p = entries_ones ws (all_kept ws ms) (get_or ws 1 0) 2 (λ t h. (passed_good ws p t h).fits) (λ i a b. all_kept_one ws ms i b)

pub left_all_kept : (ws ms : List ℕ) → Passed ws → left (view ws (all_kept ws ms)) ≡ (program_of ws).clauses
left_all_kept ws ms p = ap left (view_all_kept ws ms p) ∙ left_whole (program_of ws).clauses

-- ---- parts stay in order

part_ascends : (ws ms : List ℕ) (at k : ℕ) → Rises ws at k → So (ascending (part ws ms at k))
unfolding part ascending
part_ascends ws ms at zero r = refl
part_ascends ws ms at (suc k) r = go (eqb (get_or ms at 0) 1) (part_ascends ws ms (suc at) k (λ i j a b c. r i j (omega arith) b (omega arith)))
  where
    go : (t : Bool) → So (ascending (part ws ms (suc at) k)) → So (ascending (cond t (get_or ws at 0 ∷ part ws ms (suc at) k) (part ws ms (suc at) k)))
    go true h = (and_iff (all (λ y. ltb (get_or ws at 0) y) (part ws ms (suc at) k)) _).1
        ((all_iff (λ y. ltb (get_or ws at 0) y) (part ws ms (suc at) k)).1 (λ y m. let q = part_mem ws ms (suc at) k y m in lt-ltb _ y (omega (arith, r at q.0 (omega arith) (omega arith) (omega arith), q.3))), h)
    go false h = h

-- the parts of a clause as left ascend, and its atoms are below n
pub record Straight (n : ℕ) (c : Clause) : Type 0 where
  pub head : So (ascending c.head)
  pub pos : So (ascending c.pos)
  pub neg : So (ascending c.neg)
  pub head_below : (a : ℕ) → a ∈ c.head → a < n
  pub pos_below : (a : ℕ) → a ∈ c.pos → a < n
  pub neg_below : (a : ℕ) → a ∈ c.neg → a < n

part_below : (ws ms : List ℕ) (n at k : ℕ) → ((i : ℕ) → at ≤ i → i < at + k → get_or ws i 0 < n) → (a : ℕ) → a ∈ part ws ms at k → a < n
part_below ws ms n at k h a m = let q = part_mem ws ms at k a m in omega (arith, h q.0 q.1 q.2, q.3)

pub entry_straight : (ws ms : List ℕ) (n at : ℕ) → Good ws n at → Straight n (entry_at ws ms at).clause
unfolding entry_at
entry_straight ws ms n at g = record {
  head = part_ascends ws ms (head_at at) (get_or ws at 0) g.head_rises;
  pos = part_ascends ws ms (pos_at ws at) (get_or ws (at + 1) 0) g.pos_rises;
  neg = part_ascends ws ms (neg_at ws at) (get_or ws (at + 2) 0) g.neg_rises;
  head_below = part_below ws ms n (head_at at) (get_or ws at 0) (λ i a b. g.below i (omega arith) (omega arith));
  pos_below = part_below ws ms n (pos_at ws at) (get_or ws (at + 1) 0) (λ i a b. g.below i (omega arith) (omega arith));
  neg_below = part_below ws ms n (neg_at ws at) (get_or ws (at + 2) 0) (λ i a b. g.below i (omega arith) b);
}

gone_straight : (n : ℕ) → Straight n gone.clause
unfolding ascending
gone_straight n = record { head = refl; pos = refl; neg = refl; head_below = none; pos_below = none; neg_below = none }
  where
    none : (a : ℕ) → a ∈ [] → a < n
    none a m = absurd (Memᴰ.not-nil m)

-- every clause of the view, past the last too
pub view_straight : (ws ms : List ℕ) → Passed ws → (i : ℕ) → Straight (get_or ws 0 0) (entry (view ws ms) i).clause
view_straight ws ms p i = by_cases (dec_lt i (get_or ws 1 0))
    (λ h. subst (λ e. Straight (get_or ws 0 0) e.clause) (sym (entry_view ws ms i h)) (entry_straight ws ms (get_or ws 0 0) (start_of ws i) (passed_good ws p i h)))
    (λ h. subst (λ e. Straight (get_or ws 0 0) e.clause) (sym (get_or-eq_default (view ws ms) gone (let q : length (view ws ms) ≤ i = omega (arith, length_view ws ms) in q))) (gone_straight (get_or ws 0 0)))

pub view_tidy : (ws ms : List ℕ) → Passed ws → (i : ℕ) → Tidy (entry (view ws ms) i)
view_tidy ws ms p i = let s = view_straight ws ms p i in (s.pos, s.neg)

pub view_ascends : (ws ms : List ℕ) → Passed ws → (i : ℕ) → Ascends (entry (view ws ms) i).clause
view_ascends ws ms p i = let s = view_straight ws ms p i in record { head = s.head; pos = s.pos; neg = s.neg }

-- ---- a part as slices of the words and the marks

pub part_slice : (ws ms : List ℕ) (at k : ℕ) → at + k ≤ length ws → at + k ≤ length ms → part ws ms at k ≡ kept_of (take k (drop at ws)) (take k (drop at ms))
unfolding part kept_of
part_slice ws ms at zero a b = refl
part_slice ws ms at (suc k) a b = rw (drop-cons ws at 0 (omega arith), drop-cons ms at 0 (omega arith), part_slice ws ms (suc at) k (omega arith) (omega arith))

-- one element of a walk along a part
pub scan_step : (ws ks : List ℕ) (i : ℕ) → i < length ws → i < length ks
    → kept_of (drop i ws) (drop i ks) ≡ cond (eqb (get_or ks i 0) 1) (get_or ws i 0 ∷ kept_of (drop (i + 1) ws) (drop (i + 1) ks)) (kept_of (drop (i + 1) ws) (drop (i + 1) ks))
unfolding kept_of
scan_step ws ks i a b = rw (add-one, drop-cons ws i 0 a, drop-cons ks i 0 b)

pub scan_end : (ws ks : List ℕ) (i : ℕ) → length ws ≤ i → kept_of (drop i ws) ks ≡ []
unfolding kept_of
scan_end ws ks i h = rw (drop_of_length-le ws h)
