-- Which refusals a table can have: those of questions 1 to 8, at a place within its words.
use Prim.Native.Nat.{ℕ, zero, suc, ◌≤◌, ◌-◌, ◌+◌}
use mathlib.Core.Path.{◌≡◌, refl}
use mathlib.Core.List.{List}
use mathlib.Core.Bool.{Bool, true, false}
use borrow.Author.Tests.{leb-true}
use native.Mathlib.Omega.{arith}
use lib.Dec.{leb}
use lib.ListN.{length, get_or}
use Rattle.semantics.proofs.Tests.{and_iff}
use Rattle.answers.specs.declared.WordQuestion.TheVariants.{AtomBelow, Ascending}
use Rattle.answers.specs.declared.Refusal.{Refusal}
use Rattle.answers.specs.declared.Refusal.TheVariants.{Word}
use Rattle.table.specs.Questions.{Walk}
use Rattle.std.specs.Prelude.{Ok, Err}
use Rattle.table.specs.Questions.{Checked}
use Rattle.answers.specs.Refusals.{refusal_number, refusal_place}
use Rattle.table.specs.Questions.{on_walk, atoms_from, part_from, parts_from, clause_from, clauses_from, all_used, table_of, on_table, Passed}
use Rattle.answers.specs.Answers.{ask, Small}
use Rattle.answers.specs.Answers.{Answer}
use Rattle.table.proofs.Encoding.{valid_passed}

-- ---- walks over words, whatever is said of a refusal

module _ (Q : Refusal → Type 0) (b : ℕ) where
  -- a walk comes to a place of at most b, or is refused as Q says
  abbrev pub Near : Walk → Type 0
  Near (Ok e) = e ≤ b
  Near (Err r) = Q r

  pub near_ask : (t : Bool) (r : Refusal) (w : Walk) → Q r → (t ≡ true → Near w) → Near (ask Err t r w)
  unfolding ask
  near_ask true r w h y = y refl
  near_ask false r w h y = h

  near_on : (w : Walk) (f : ℕ → Walk) → Near w → ((e : ℕ) → e ≤ b → Near (f e)) → Near (on_walk Err w f)
  unfolding on_walk
  near_on (Ok e) f h k = k e h
  near_on (Err r) f h k = h

  -- atoms asked one by one
  pub atoms_near : (below above : ℕ → Refusal) → ((i : ℕ) → i ≤ b → Q (below i)) → ((i : ℕ) → i ≤ b → Q (above i)) → (ws : List ℕ) (n low at k : ℕ) → at + k ≤ b → Near (atoms_from below above ws n low at k)
  unfolding atoms_from
  atoms_near below above f g ws n low at zero h = omega arith
  atoms_near below above f g ws n low at (suc k) h =
      near_ask _ _ _ (f at (omega arith)) (λ _. near_ask _ _ _ (g at (omega arith)) (λ _. atoms_near below above f g ws n (get_or ws at 0 + 1) (at + 1) k (omega arith)))

-- ---- a table

abbrev Among : ℕ → Refusal → Type 0
Among b r = (refusal_number r ≤ 8) × (refusal_place r ≤ b)

module _ (ws : List ℕ) where
  abbrev Walks : Walk → Type 0
  Walks w = Near (Among (length ws)) (length ws) w

  part_near : (n at k : ℕ) → at + k ≤ length ws → Walks (part_from ws n 0 at k)
  part_near n at k h = atoms_near (Among (length ws)) (length ws) (Word AtomBelow) (Word Ascending) (λ i l. (omega arith, l)) (λ i l. (omega arith, l)) ws n 0 at k h

  clause_near : (n at : ℕ) → at ≤ length ws → Walks (clause_from ws n at)
  unfolding clause_from parts_from
  clause_near n at h =
      near_ask _ _ _ _ _ (omega arith, h) (λ t. let l = leb-true 3 (length ws - at) t in
      near_ask _ _ _ _ _ (omega arith, h) (λ u. let k = leb-true (get_or ws at 0 + get_or ws (at + 1) 0 + get_or ws (at + 2) 0) (length ws - at - 3) u in
      near_on _ _ _ _ (part_near n _ _ (omega arith)) (λ _ _. near_on _ _ _ _ (part_near n _ _ (omega arith)) (λ _ _. part_near n _ _ (omega arith)))))

  clauses_near : (n m at : ℕ) → at ≤ length ws → Walks (clauses_from ws n m at)
  unfolding clauses_from
  clauses_near n zero at h = h
  clauses_near n (suc m) at h = near_on _ _ _ _ (clause_near n at h) (λ e l. clauses_near n m e l)

  abbrev Checks : Checked → Type 0
  Checks (Ok t) = Unit {0}
  Checks (Err r) = Among 8192 r

  checks_ask : (t : Bool) (r : Refusal) (c : Checked) → Among 8192 r → (t ≡ true → Checks c) → Checks (ask Err t r c)
  unfolding ask
  checks_ask true r c h y = y refl
  checks_ask false r c h y = h

  used_checks : (w : Walk) → length ws ≤ 8192 → Walks w → Checks (all_used ws w)
  unfolding all_used on_walk
  used_checks (Ok e) l h = checks_ask _ _ _ (omega arith, omega arith) (λ _. tt)
  used_checks (Err r) l h = (h.0, omega (arith, h.1))

  table_checks : Checks (table_of ws)
  unfolding table_of
  table_checks =
      checks_ask _ _ _ (omega arith, omega arith) (λ t. let (a, b) = (and_iff (leb 2 (length ws)) (leb (length ws) 8192)).0 t in
      checks_ask _ _ _ (omega arith, omega arith) (λ _.
      checks_ask _ _ _ (omega arith, omega arith) (λ _. used_checks _ (leb-true (length ws) 8192 b) (clauses_near _ _ 2 (leb-true _ _ a)))))

  pub table_refused : (r : Refusal) → table_of ws ≡ Err r → (refusal_number r ≤ 8) × (refusal_place r ≤ 8192)
  table_refused r q = rw q at table_checks

-- ---- values and places that leave room for a number

-- a walk comes to a place of at most b, or is refused at one
abbrev pub NearBy : ℕ → Walk → Type 0
NearBy b w = Near (λ r. refusal_place r ≤ b) b w

pub small_walk : (b : ℕ) → b ≤ 65536 → (w : Walk) (f : ℕ → Answer) → NearBy b w → ((e : ℕ) → Small (f e)) → Small (on_walk Err w f)
unfolding on_walk
small_walk b l (Ok e) f h k = k e
small_walk b l (Err r) f h k = omega arith

pub small_table : (ws : List ℕ) (a : Answer) → (Passed ws → Small a) → Small (on_table Err (table_of ws) a)
unfolding on_table
small_table ws a k = go (table_of ws) refl
  where
    go : (c : Checked) → table_of ws ≡ c → Small (on_table Err c a)
    go (Ok t) q = k (valid_passed ws t q).0
    go (Err r) q = omega (arith, (table_refused ws r q).1)
