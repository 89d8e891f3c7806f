-- Questions 1 to 8, one step at a time in the code's own terms.
use Prim.Native.Nat.{ℕ, ◌≤◌, ◌<◌, ◌-◌, ◌+◌}
use mathlib.Core.Path.{◌≡◌, ap}
use mathlib.Core.List.{List}
use borrow.Author.Tests.{le-ltb, lt-ltb, le-leb, lt-leb}
use native.Mathlib.Omega.{arith}
use lib.ListN.{length, get_or}
use Rattle.answers.specs.declared.Refusal.{Refusal}
use Rattle.table.specs.Questions.{Walk}
use Rattle.std.specs.Prelude.{Ok, Err}
use Rattle.table.specs.Questions.{atoms_from, on_walk, clause_from, clauses_from, all_used, table_of}
use Rattle.answers.specs.Answers.{ask}
use Rattle.table.proofs.Laws.{one_left}

-- ---- questions 6 and 7, and 20 and 21

module _ (below above : ℕ → Refusal) (ws : List ℕ) (n low i e : ℕ) where
  pub atoms_on : i < e → get_or ws i 0 < n → low ≤ get_or ws i 0 → atoms_from below above ws n low i (e - i) ≡ atoms_from below above ws n (get_or ws i 0 + 1) (i + 1) (e - (i + 1))
  unfolding atoms_from ask
  atoms_on h a b = rw (one_left i e h) (simp (lt-ltb _ _ a, le-leb _ _ b))

  pub atoms_below : i < e → n ≤ get_or ws i 0 → atoms_from below above ws n low i (e - i) ≡ Err (below i)
  unfolding atoms_from ask
  atoms_below h a = rw (one_left i e h) (simp (le-ltb _ _ a))

  pub atoms_above : i < e → get_or ws i 0 < n → get_or ws i 0 < low → atoms_from below above ws n low i (e - i) ≡ Err (above i)
  unfolding atoms_from ask
  atoms_above h a b = rw (one_left i e h) (simp (lt-ltb _ _ a, lt-leb _ _ b))

  pub atoms_end : e ≤ i → i ≤ e → atoms_from below above ws n low i (e - i) ≡ Ok e
  unfolding atoms_from
  atoms_end h h' = let z : e - i ≡ 0 = omega arith in let q : i ≡ e = omega arith in rw z (ap Ok q)

-- ---- clause by clause, and the whole

-- one clause more
module _ (ws : List ℕ) (n k m at : ℕ) (h : k < m) where
  pub clauses_on : (e : ℕ) → clause_from ws n at ≡ Ok e → clauses_from ws n (m - k) at ≡ clauses_from ws n (m - (k + 1)) e
  unfolding clauses_from on_walk
  clauses_on e q = rw (one_left k m h, q)

  pub clauses_bad : (r : Refusal) → clause_from ws n at ≡ Err r → clauses_from ws n (m - k) at ≡ Err r
  unfolding clauses_from on_walk
  clauses_bad r q = rw (one_left k m h, q)

pub clauses_end : (ws : List ℕ) (n k m at : ℕ) → m ≤ k → clauses_from ws n (m - k) at ≡ Ok at
unfolding clauses_from on_walk
clauses_end ws n k m at h = let z : m - k ≡ 0 = omega arith in rw z

-- past the first three questions, the answer is the walk's
pub table_on : (ws : List ℕ) (w : Walk) → 2 ≤ length ws → length ws ≤ 8192 → get_or ws 0 0 ≤ 1024 → get_or ws 1 0 ≤ 2048
    → clauses_from ws (get_or ws 0 0) (get_or ws 1 0) 2 ≡ w → table_of ws ≡ all_used ws w
unfolding table_of ask
table_on ws w a b c d h = rw (le-leb _ _ a, le-leb _ _ b, le-leb _ _ c, le-leb _ _ d, h)
