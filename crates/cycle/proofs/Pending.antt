-- An atom's places in heads: clauses by their numbers, and from one place to the one before.
use Prim.Native.Nat.{ℕ, zero, suc, ◌+◌, ◌-◌, ◌<◌}
use mathlib.Core.Path.{◌≡◌, refl, sym, subst, ◌∙◌}
use mathlib.Core.Logic.{⊎_elim, by_cases}
use mathlib.Core.List.Memᴰ
use mathlib.Core.List.{List, ◌∷◌, []}
use native.Mathlib.Omega.{arith}
use native.Mathlib.Decide.{dec_lt}
use lib.ListN.{length, get_or}
use Rattle.semantics.specs.Lists.{◌∈◌}
use Rattle.semantics.specs.Programs.{Clause}
use Rattle.table.specs.Questions.{Passed}
use Rattle.table.specs.Places.{head_at, next_at, start_from, start_of}
use Rattle.table.specs.Programs.{clause_of, clauses_of, program_of}
use Rattle.table.proofs.Encoding.{passed_within, cut_length}
use Rattle.table.proofs.Places.{get_d_mem, cut_get_d, passed_sound}
use Rattle.step_parts.specs.declared.Part.TheVariants.{Head}
use Rattle.step_parts.specs.Parts.{Stands, owner_at, Latest}
use Rattle.step_parts.proofs.Index.{stands_clause, stands_small}
use Rattle.dependency.specs.Chains.{Link}
use Rattle.cycle.specs.Search.{numbered, Pending}

-- atoms are below n
pub link_below : (ws : List ℕ) → Passed ws → {a b : ℕ} → Link (program_of ws).clauses a b → b < get_or ws 0 0
unfolding program_of
link_below ws p {a} {b} l = ((passed_within ws p).ordered l.via l.member).pos.below b l.into

-- ---- clauses by their numbers

from_number : (ws : List ℕ) (m at c : ℕ) → c < m → clause_of ws (start_from ws at c) ∈ clauses_of ws m at
unfolding clauses_of start_from
from_number ws zero at c h = absurd (omega arith)
from_number ws (suc m) at zero h = Memᴰ.head refl
from_number ws (suc m) at (suc c) h = Memᴰ.tail (from_number ws m (next_at ws at) c (omega arith))

to_number : (ws : List ℕ) (m at : ℕ) (d : Clause) → d ∈ clauses_of ws m at → (c : ℕ) × (c < m) × (clause_of ws (start_from ws at c) ≡ d)
unfolding clauses_of start_from
to_number ws zero at d q = absurd (Memᴰ.not-nil q)
to_number ws (suc m) at d q = ⊎_elim (λ e. (0, omega arith, sym e))
    (λ r. let (c, l, e) = to_number ws m (next_at ws at) d r in (suc c, omega arith, e)) (Memᴰ.cases_cons q)

pub numbered_in_lem : (ws : List ℕ) (c : ℕ) → c < get_or ws 1 0 → numbered ws c ∈ (program_of ws).clauses
unfolding program_of
numbered_in_lem ws c h = from_number ws (get_or ws 1 0) 2 c h

-- ---- atoms of heads by their places

place_of : (l : List ℕ) (a : ℕ) → a ∈ l → (i : ℕ) × (i < length l) × (get_or l i 0 ≡ a)
place_of [] a x' = elim x' [ ]
place_of (x ∷ l) a (Memᴰ.head e) = (0, omega arith, sym e)
place_of (x ∷ l) a (Memᴰ.tail m) = let (i, h, e) = place_of l a m in (suc i, omega arith, e)

module _ {ws : List ℕ} (p : Passed ws) where
  head_size : (c : ℕ) → c < get_or ws 1 0 → length (numbered ws c).head ≡ get_or ws (start_of ws c) 0
  head_size c h = let f = (passed_sound ws p c h).fits in cut_length ws (head_at (start_of ws c)) (get_or ws (start_of ws c) 0) (omega arith)

  pub stands_head : {a c j : ℕ} → Stands ws Head a c j → a ∈ (numbered ws c).head
  stands_head {a} {c} {j} s =
      let e = cut_get_d ws (head_at (start_of ws c)) (get_or ws (start_of ws c) 0) j s.from s.to in
      subst (λ b. b ∈ (numbered ws c).head) (e ∙ s.atom) (get_d_mem (numbered ws c).head (j - head_at (start_of ws c)) (omega (arith, head_size c s.clause, s.from, s.to)))

  head_stands : (a : ℕ) (d : Clause) → d ∈ (program_of ws).clauses → a ∈ d.head → (c : ℕ) × (j : ℕ) × Stands ws Head a c j × (0 < j) × (numbered ws c ≡ d)
  unfolding program_of
  head_stands a d m h =
      let (c, l, e) = to_number ws (get_or ws 1 0) 2 d m in
      let (i, k, q) = place_of (numbered ws c).head a (subst (λ (x : Clause). a ∈ x.head) (sym e) h) in
      let at = head_at (start_of ws c) in
      let z : at + i - at ≡ i = omega arith in
      let r : i < get_or ws (start_of ws c) 0 = omega (arith, head_size c l) in
      let w = cut_get_d ws at (get_or ws (start_of ws c) 0) (at + i) (omega arith) (omega arith) in
      (c, at + i, record { clause = l; from = omega arith; to = omega arith; atom = sym w ∙ subst (λ x. get_or (numbered ws c).head x 0 ≡ a) (sym z) q }, omega arith, e)

  module _ {index : List ℕ} {D : Clause → Type 0} {a w : ℕ} where
    -- from the last place of all
    pub pending_start : Latest ws index Head a (length ws) w → Pending ws index D a w
    pending_start l = record { here = λ h. (l.some h).1; later = λ c j s h. absurd (l.none c j s h (stands_small p s).1) }

    -- past the first: every clause with the atom in its head is done with
    pub pending_end : w ≡ 0 → Pending ws index D a w → (d : Clause) → d ∈ (program_of ws).clauses → a ∈ d.head → D d
    pending_end z q d m h = let (c, j, s, l, e) = head_stands a d m h in subst D e (q.later c j s (omega arith))

-- the place before, where the clause of this one is done with
pub pending_next : {ws index : List ℕ} {D : Clause → Type 0} {a w v : ℕ} → 0 < w → Pending ws index D a w → Latest ws index Head a w v → D (numbered ws (get_or index (owner_at w) 0)) → Pending ws index D a v
pending_next {ws} {index} {D} {a} {w} {v} n q l d = record {
  here = λ h. (l.some h).1;
  later = λ c j s h. by_cases (dec_lt j w) (λ k. absurd (l.none c j s h k))
      (λ k. by_cases (dec_lt w j) (q.later c j s)
      (λ i. let e : j ≡ w = omega arith in subst (λ x. D (numbered ws x)) (sym (stands_clause (subst (Stands ws Head a c) e s) (q.here n))) d));
}

pub pending_on : {ws index : List ℕ} {D E : Clause → Type 0} {a w : ℕ} → ((c : Clause) → D c → E c) → Pending ws index D a w → Pending ws index E a w
pending_on f p = record { here = p.here; later = λ c j s l. f _ (p.later c j s l) }
