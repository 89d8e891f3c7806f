-- Where the clauses of a table that passed stand: each within the words, its parts ascending and below n.
use Prim.Native.Nat.{ℕ, zero, suc, ◌+◌, ◌-◌, ◌≤◌, ◌<◌}
use mathlib.Core.Path.{◌≡◌, refl, ap, subst, ◌∙◌}
use mathlib.Core.Logic.{by_cases}
use mathlib.Core.Bool.{So}
use mathlib.Core.List.Memᴰ
use mathlib.Core.List.{List, [], ◌∷◌}
use native.Mathlib.Omega.{arith}
use native.Mathlib.Decide.{dec_lt}
use lib.Dec.{ltb}
use lib.ListN.{length, get_or}
use lib.Seq.{get_or-take, get_or-drop}
use borrow.Author.Tests.{ltb-true}
use Rattle.semantics.specs.Lists.{◌∈◌, all, ascending}
use Rattle.semantics.proofs.Tests.{and_iff, all_iff}
use Rattle.std.specs.Prelude.{Ok}
use Rattle.table.specs.Questions.{clauses_from, Passed}
use Rattle.table.specs.Encoding.{Ordered}
use Rattle.table.specs.Places.{cut, head_at, pos_at, neg_at, next_at, start_from, start_of}
use Rattle.table.proofs.Encoding.{Sound, clause_inv, cut_length, on_inv, passed_limits}

-- ---- parts by their words' places

pub get_d_mem : (l : List ℕ) (i : ℕ) → i < length l → get_or l i 0 ∈ l
get_d_mem [] i h = absurd (omega arith)
get_d_mem (x ∷ l) zero h = Memᴰ.head refl
get_d_mem (x ∷ l) (suc i) h = Memᴰ.tail (get_d_mem l i (omega arith))

pub ascending_lt : (l : List ℕ) (i j : ℕ) → So (ascending l) → i < j → j < length l → get_or l i 0 < get_or l j 0
unfolding ascending
ascending_lt [] i j s h k = absurd (omega arith)
ascending_lt (x ∷ l) i zero s h k = absurd (omega arith)
ascending_lt (x ∷ l) zero (suc j) s h k = ltb-true x (get_or l j 0) ((all_iff (λ y. ltb x y) l).0 ((and_iff (all (λ y. ltb x y) l) (ascending l)).0 s).0 (get_or l j 0) (get_d_mem l j (omega arith)))
ascending_lt (x ∷ l) (suc i) (suc j) s h k = ascending_lt l i j ((and_iff (all (λ y. ltb x y) l) (ascending l)).0 s).1 (omega arith) (omega arith)

pub cut_get_d : (ws : List ℕ) (at k i : ℕ) → at ≤ i → i < at + k → get_or (cut ws at k) (i - at) 0 ≡ get_or ws i 0
cut_get_d ws at k i a b = get_or-take k _ (i - at) 0 (omega arith) ∙ get_or-drop at ws (i - at) 0 ∙ ap (λ x. get_or ws x 0) (let q : at + (i - at) ≡ i = omega arith in q)

-- the k words from `at` ascend
abbrev pub Rises : List ℕ → ℕ → ℕ → Type 0
Rises ws at k = (i j : ℕ) → at ≤ i → i < j → j < at + k → get_or ws i 0 < get_or ws j 0

module _ (ws : List ℕ) (n at k : ℕ) (fits : at + k ≤ length ws) (o : Ordered n (cut ws at k)) where
  ordered_rises : Rises ws at k
  ordered_rises i j a b c =
      subst (λ x. x < get_or ws j 0) (cut_get_d ws at k i a (omega arith))
      (subst (λ x. get_or (cut ws at k) (i - at) 0 < x) (cut_get_d ws at k j (omega arith) c)
      (ascending_lt (cut ws at k) (i - at) (j - at) o.ascends (omega arith) (omega (arith, cut_length ws at k fits))))

  ordered_below : (i : ℕ) → at ≤ i → i < at + k → get_or ws i 0 < n
  ordered_below i a b = subst (λ x. x < n) (cut_get_d ws at k i a b) (o.below _ (get_d_mem (cut ws at k) (i - at) (omega (arith, cut_length ws at k fits))))

-- ---- a clause by its first word

pub record Good (ws : List ℕ) (n at : ℕ) : Type 0 where
  pub fits : next_at ws at ≤ length ws
  pub below : (i : ℕ) → head_at at ≤ i → i < next_at ws at → get_or ws i 0 < n
  pub head_rises : Rises ws (head_at at) (get_or ws at 0)
  pub pos_rises : Rises ws (pos_at ws at) (get_or ws (at + 1) 0)
  pub neg_rises : Rises ws (neg_at ws at) (get_or ws (at + 2) 0)

pub sound_good : (ws : List ℕ) (n at : ℕ) → Sound ws n at → Good ws n at
sound_good ws n at s =
    let f : next_at ws at ≤ length ws = s.fits in
    let o = s.ordered in
    record {
      fits = f;
      below = λ i a b. by_cases (dec_lt i (pos_at ws at)) (λ l. ordered_below ws n (at + 3) (get_or ws at 0) (omega arith) o.head i a l)
          (λ l. by_cases (dec_lt i (neg_at ws at)) (λ r. ordered_below ws n (pos_at ws at) (get_or ws (at + 1) 0) (omega arith) o.pos i (omega arith) r)
          (λ r. ordered_below ws n (neg_at ws at) (get_or ws (at + 2) 0) (omega arith) o.neg i (omega arith) b));
      head_rises = ordered_rises ws n (at + 3) (get_or ws at 0) (omega arith) o.head;
      pos_rises = ordered_rises ws n (pos_at ws at) (get_or ws (at + 1) 0) (omega arith) o.pos;
      neg_rises = ordered_rises ws n (neg_at ws at) (get_or ws (at + 2) 0) (omega arith) o.neg;
    }

-- ---- clauses by their numbers

clauses_sound : (ws : List ℕ) (n m at e t : ℕ) → at ≤ length ws → clauses_from ws n m at ≡ Ok e → t < m → Sound ws n (start_from ws at t)
unfolding clauses_from start_from
clauses_sound ws n zero at e t l h k = absurd (omega arith)
clauses_sound ws n (suc m) at e zero l h k = let (d, a, h1) = on_inv _ _ e h in (clause_inv ws n at d l a).0
clauses_sound ws n (suc m) at e (suc t) l h k =
    let (d, a, h1) = on_inv _ _ e h in
    let (g, q) = clause_inv ws n at d l a in
    clauses_sound ws n m (next_at ws at) e t g.fits (subst (λ x. clauses_from ws n m x ≡ Ok e) q h1) (omega arith)

pub passed_sound : (ws : List ℕ) → Passed ws → (t : ℕ) → t < get_or ws 1 0 → Sound ws (get_or ws 0 0) (start_of ws t)
passed_sound ws p t h = let l = passed_limits ws p in clauses_sound ws (get_or ws 0 0) (get_or ws 1 0) 2 l.end t l.long l.clauses h

pub passed_good : (ws : List ℕ) → Passed ws → (t : ℕ) → t < get_or ws 1 0 → Good ws (get_or ws 0 0) (start_of ws t)
passed_good ws p t h = sound_good ws (get_or ws 0 0) (start_of ws t) (passed_sound ws p t h)

-- one clause on
pub start_suc : (ws : List ℕ) (at t : ℕ) → start_from ws at (suc t) ≡ next_at ws (start_from ws at t)
unfolding start_from
start_suc ws at zero = refl
start_suc ws at (suc t) = start_suc ws (next_at ws at) t
