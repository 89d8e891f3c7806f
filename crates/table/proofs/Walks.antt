-- The walk along the clauses of a table that passed: each fits, its parts are in order, the walk comes to the next, and ends with the table.
use Prim.Native.Nat.{ℕ, zero, suc, ◌+◌, ◌-◌, ◌≤◌, ◌<◌}
use mathlib.Core.Path.{◌≡◌, refl, sym, ap, subst, ◌∙◌}
use mathlib.Core.List.{List, [], ◌∷◌}
use mathlib.Core.Bool.{Bool, true, false, ◌&&◌}
use native.Mathlib.Omega.{arith}
use native.Mathlib.Numerals.{add-one}
use native.Mathlib.Nat.{sub-zero}
use lib.ListN.{length, get_or}
use Rattle.semantics.specs.Lists.{all}
use Rattle.semantics.specs.Programs.{Clause}
use Rattle.std.specs.Prelude.{Ok}
use Rattle.table.specs.Questions.{clauses_from, Passed}
use Rattle.table.specs.Encoding.{OrderedClause}
use Rattle.table.specs.Places.{next_at, start_from, start_of}
use Rattle.table.specs.Programs.{clause_of, clauses_of, program_of}
use Rattle.table.proofs.Laws.{one_left, on_inv}
use Rattle.table.proofs.Encoding.{clause_inv, passed_limits}
use Rattle.table.proofs.Places.{passed_sound, start_suc}

-- ---- where a clause starts

clauses_to : (ws : List ℕ) (n m at e : ℕ) → at ≤ length ws → clauses_from ws n m at ≡ Ok e → (e ≡ start_from ws at m) × (e ≤ length ws)
unfolding clauses_from start_from
clauses_to ws n zero at e l h = let q : at ≡ e = cc in (sym q, omega arith)
clauses_to ws n (suc m) at e l h =
    let (d, a, h1) = on_inv _ _ e h in
    let (g, q) = clause_inv ws n at d l a in
    clauses_to ws n m (next_at ws at) e g.fits (subst (λ x. clauses_from ws n m x ≡ Ok e) q h1)

-- the last clause of a table that passed ends with its last word
pub passed_end : (ws : List ℕ) → Passed ws → start_of ws (get_or ws 1 0) ≡ length ws
passed_end ws p =
    let l = passed_limits ws p in
    let (a, b) = clauses_to ws (get_or ws 0 0) (get_or ws 1 0) 2 l.end l.long l.clauses in
    omega (arith, l.used)

pub start_within : (ws : List ℕ) → Passed ws → (t : ℕ) → t ≤ get_or ws 1 0 → start_of ws t ≤ length ws
unfolding start_from
start_within ws p zero h = (passed_limits ws p).long
start_within ws p (suc t) h = rw (start_suc ws 2 t) (passed_sound ws p t (omega arith)).fits

pub next_start : (ws : List ℕ) (k at : ℕ) → at ≡ start_of ws k → next_at ws at ≡ start_of ws (k + 1)
next_start ws k at e = ap (next_at ws) e ∙ sym (start_suc ws 2 k) ∙ ap (start_of ws) (sym (add-one k))

-- ---- from clause to clause

-- k clauses of the table are passed, and the next, if there is one, starts at `at`
pub record Along (ws : List ℕ) (k at : ℕ) : Type 0 where
  pub most : k ≤ get_or ws 1 0
  pub place : at ≡ start_of ws k

pub along_start : (ws : List ℕ) → Along ws 0 2
unfolding start_from
along_start ws = record { most = omega arith; place = refl }

module _ (ws : List ℕ) (k at : ℕ) (p : Passed ws) (a : Along ws k at) where
  pub along_within : at ≤ length ws
  along_within = rw a.place (start_within ws p k a.most)

  pub along_end : get_or ws 1 0 ≤ k → at ≡ length ws
  along_end h = let q : k ≡ get_or ws 1 0 = omega (arith, a.most) in a.place ∙ ap (start_of ws) q ∙ passed_end ws p

module _ (ws : List ℕ) (k at : ℕ) (p : Passed ws) (h : k < get_or ws 1 0) (a : Along ws k at) where
  pub along_fits : next_at ws at ≤ length ws
  along_fits = rw a.place (passed_sound ws p k h).fits

  pub along_ordered : OrderedClause (get_or ws 0 0) (clause_of ws at)
  along_ordered = rw a.place (passed_sound ws p k h).ordered

pub along_next : (ws : List ℕ) (k at : ℕ) → k < get_or ws 1 0 → Along ws k at → Along ws (k + 1) (next_at ws at)
along_next ws k at h a = record { most = omega arith; place = next_start ws k at a.place }

-- ---- the clauses from here on: this one and those from the next

pub clauses_more : (ws : List ℕ) (k m at : ℕ) → k < m → clauses_of ws (m - k) at ≡ clause_of ws at ∷ clauses_of ws (m - (k + 1)) (next_at ws at)
unfolding clauses_of
clauses_more ws k m at h = rw (one_left k m h)

pub clauses_none : (ws : List ℕ) (k m at : ℕ) → m ≤ k → clauses_of ws (m - k) at ≡ []
unfolding clauses_of
clauses_none ws k m at h = let z : m - k ≡ 0 = omega arith in rw z

pub clauses_all : (ws : List ℕ) → clauses_of ws (get_or ws 1 0 - 0) 2 ≡ (program_of ws).clauses
unfolding program_of
clauses_all ws = ap (λ k. clauses_of ws k 2) (sub-zero (get_or ws 1 0))

-- ---- a test of every clause, asked of one clause after the other

-- t is what the first k clauses say; those from `at` on are still to be asked
abbrev pub AskedTo : (Clause → Bool) → List ℕ → ℕ → ℕ → Bool → Type 0
AskedTo f ws k at t = (t && all f (clauses_of ws (get_or ws 1 0 - k) at)) ≡ all f (program_of ws).clauses

swap : (a b d : Bool) → ((a && b) && d) ≡ (b && (a && d))
swap true b d = refl
swap false true d = refl
swap false false d = refl

and_true : (a : Bool) → (a && true) ≡ a
and_true true = refl
and_true false = refl

module _ (f : Clause → Bool) (ws : List ℕ) where
  pub asked_start : AskedTo f ws 0 2 true
  asked_start = ap (λ cs. all f cs) (clauses_all ws)

  module _ (k at : ℕ) (t : Bool) (a : AskedTo f ws k at t) where
    pub asked_next : k < get_or ws 1 0 → (u : Bool) → u ≡ (f (clause_of ws at) && t) → AskedTo f ws (k + 1) (next_at ws at) u
    asked_next h u e =
        ap (λ b. b && all f (clauses_of ws (get_or ws 1 0 - (k + 1)) (next_at ws at))) e
        ∙ swap (f (clause_of ws at)) t _
        ∙ ap (λ cs. t && all f cs) (sym (clauses_more ws k (get_or ws 1 0) at h))
        ∙ a

    pub asked_end : get_or ws 1 0 ≤ k → t ≡ all f (program_of ws).clauses
    asked_end h = sym (and_true t) ∙ ap (λ cs. t && all f cs) (sym (clauses_none ws k (get_or ws 1 0) at h)) ∙ a
