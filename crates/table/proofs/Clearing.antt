-- Clearing the marks of kind 9 is the step's effect on the program.
use mathlib.Core.Path.{◌≡◌, refl, ◌∙◌}
use mathlib.Core.Logic.{◌≢◌, ◌⊎◌, inl, inr}
use mathlib.Core.Bool.{Bool, true, false, cond}
use mathlib.Core.List.{List, ◌∷◌, map}
use Prim.Native.Nat.{ℕ, zero, suc, ◌+◌, ◌≤◌, ◌<◌}
use native.Mathlib.Omega.{arith}
use lib.Dec.{eqb}
use lib.ListN.{length, get_or, set, length-set}
use lib.Seq.{get_or-set_same, get_or-set_other}
use Rattle.semantics.specs.Lists.{mem, without}
use Rattle.rewriting.specs.Marked.{Entry, deleted}
use Rattle.table.specs.Questions.{Passed}
use Rattle.table.specs.Places.{head_at, pos_at, neg_at, next_at, start_from}
use Rattle.table.specs.View.{part, entry_at, entries_from, view}
use Rattle.table.proofs.Places.{passed_good}
use Rattle.rewriting.specs.Exclusion.{lacking_of, removal}
use Rattle.table.specs.Clearing.{clear_part, clear_clause, clear_from, marks_without}

-- ---- marks that are the same somewhere

-- the marks from `at` up to `end` are the same
abbrev pub Agree : List ℕ → List ℕ → ℕ → ℕ → Type 0
Agree ms ks at end = (i : ℕ) → at ≤ i → i < end → get_or ms i 0 ≡ get_or ks i 0

pub part_agree : (ws ms ks : List ℕ) (at k : ℕ) → Agree ms ks at (at + k) → part ws ms at k ≡ part ws ks at k
unfolding part
part_agree ws ms ks at zero o = refl
part_agree ws ms ks at (suc k) o = rw (o at (omega arith) (omega arith), part_agree ws ms ks (suc at) k (λ i a b. o i (omega arith) (omega arith)))

pub entry_agree : (ws ms ks : List ℕ) (at : ℕ) → Agree ms ks at (next_at ws at) → entry_at ws ms at ≡ entry_at ws ks at
unfolding entry_at
entry_agree ws ms ks at o = rw (
  o at (omega arith) (omega arith),
  part_agree ws ms ks (head_at at) (get_or ws at 0) (λ i a b. o i (omega arith) (omega arith)),
  part_agree ws ms ks (pos_at ws at) (get_or ws (at + 1) 0) (λ i a b. o i (omega arith) (omega arith)),
  part_agree ws ms ks (neg_at ws at) (get_or ws (at + 2) 0) (λ i a b. o i (omega arith) b),
)

pub entries_agree : (ws ms ks : List ℕ) (m at : ℕ) → ((i : ℕ) → at ≤ i → get_or ms i 0 ≡ get_or ks i 0) → entries_from ws ms m at ≡ entries_from ws ks m at
unfolding entries_from
entries_agree ws ms ks zero at o = refl
entries_agree ws ms ks (suc m) at o = rw (entry_agree ws ms ks at (λ i a b. o i a), entries_agree ws ms ks m (next_at ws at) (λ i a. o i (omega arith)))

-- ---- a part

pick_other : (ms : List ℕ) (j i : ℕ) (t : Bool) → i ≢ j → get_or (cond t (set ms j 0) ms) i 0 ≡ get_or ms i 0
pick_other ms j i true d = get_or-set_other ms j i 0 0 d
pick_other ms j i false d = refl

pick_length : (ms : List ℕ) (j : ℕ) (t : Bool) → length (cond t (set ms j 0) ms) ≡ length ms
pick_length ms j true = simp length-set
pick_length ms j false = refl

part_length : (ws : List ℕ) (a at k : ℕ) (ms : List ℕ) → length (clear_part ws a at k ms) ≡ length ms
unfolding clear_part
part_length ws a at zero ms = refl
part_length ws a at (suc k) ms = part_length ws a (suc at) k _ ∙ pick_length ms at (eqb a (get_or ws at 0))

part_other : (ws : List ℕ) (a at k : ℕ) (ms : List ℕ) (i : ℕ) → (i < at) ⊎ (at + k ≤ i) → get_or (clear_part ws a at k ms) i 0 ≡ get_or ms i 0
unfolding clear_part
part_other ws a at zero ms i h = refl
part_other ws a at (suc k) ms i (inl h) = part_other ws a (suc at) k _ i (inl (omega arith)) ∙ pick_other ms at i (eqb a (get_or ws at 0)) (λ e. omega arith)
part_other ws a at (suc k) ms i (inr h) = part_other ws a (suc at) k _ i (inr (omega arith)) ∙ pick_other ms at i (eqb a (get_or ws at 0)) (λ e. omega arith)

-- the atom is taken out of the part
part_cleared : (ws : List ℕ) (a at k : ℕ) (ms : List ℕ) → at + k ≤ length ms → part ws (clear_part ws a at k ms) at k ≡ without a (part ws ms at k)
unfolding clear_part part
part_cleared ws a at zero ms h = refl
part_cleared ws a at (suc k) ms h =
    let t = eqb a (get_or ws at 0) in
    let ks = cond t (set ms at 0) ms in
    rw (
      part_other ws a (suc at) k ks at (inl (omega arith)),
      part_cleared ws a (suc at) k ks (omega (arith, pick_length ms at t)),
      part_agree ws ks ms (suc at) k (λ i x y. pick_other ms at i t (λ e. omega arith)),
    ) (go t refl (eqb (get_or ms at 0) 1) refl)
  where
    rest : List ℕ
    rest = part ws ms (suc at) k

    go : (t : Bool) → eqb a (get_or ws at 0) ≡ t → (b : Bool) → eqb (get_or ms at 0) 1 ≡ b
        → cond (eqb (get_or (cond t (set ms at 0) ms) at 0) 1) (get_or ws at 0 ∷ without a rest) (without a rest) ≡ without a (cond b (get_or ws at 0 ∷ rest) rest)
    go true e true q = rw (get_or-set_same ms at 0 0 (omega arith), e)
    go true e false q = rw (get_or-set_same ms at 0 0 (omega arith))
    go false e true q = rw (q, e)
    go false e false q = rw q

-- ---- a clause

pub clause_other : (ws : List ℕ) (a at : ℕ) (ms : List ℕ) (i : ℕ) → (i < at) ⊎ (next_at ws at ≤ i) → get_or (clear_clause ws a at ms) i 0 ≡ get_or ms i 0
unfolding clear_clause
clause_other ws a at ms i h = go (eqb (get_or ms at 0) 1) (mem a (part ws ms (pos_at ws at) (get_or ws (at + 1) 0))) h
  where
    hs : List ℕ
    hs = clear_part ws a (head_at at) (get_or ws at 0) ms

    go : (k t : Bool) → (i < at) ⊎ (next_at ws at ≤ i) → get_or (cond k (cond t (set ms at 0) (clear_part ws a (neg_at ws at) (get_or ws (at + 2) 0) hs)) ms) i 0 ≡ get_or ms i 0
    go true true (inl h) = get_or-set_other ms at i 0 0 (λ e. omega arith)
    go true true (inr h) = get_or-set_other ms at i 0 0 (λ e. omega arith)
    go true false (inl h) = part_other ws a (neg_at ws at) (get_or ws (at + 2) 0) hs i (inl (omega arith)) ∙ part_other ws a (head_at at) (get_or ws at 0) ms i (inl (omega arith))
    go true false (inr h) = part_other ws a (neg_at ws at) (get_or ws (at + 2) 0) hs i (inr (omega arith)) ∙ part_other ws a (head_at at) (get_or ws at 0) ms i (inr (omega arith))
    go false t h = refl

clause_cleared : (ws : List ℕ) (a at : ℕ) (ms : List ℕ) → next_at ws at ≤ length ms → entry_at ws (clear_clause ws a at ms) at ≡ lacking_of a (entry_at ws ms at)
unfolding clear_clause entry_at
clause_cleared ws a at ms l = go (eqb (get_or ms at 0) 1) (mem a (part ws ms (pos_at ws at) (get_or ws (at + 1) 0))) refl
  where
    e : Entry
    e = entry_at ws ms at

    hs : List ℕ
    hs = clear_part ws a (head_at at) (get_or ws at 0) ms

    ns : List ℕ
    ns = clear_part ws a (neg_at ws at) (get_or ws (at + 2) 0) hs

    past : (i : ℕ) → pos_at ws at ≤ i → get_or hs i 0 ≡ get_or ms i 0
    past i h = part_other ws a (head_at at) (get_or ws at 0) ms i (inr h)

    until : (i : ℕ) → i < neg_at ws at → get_or ns i 0 ≡ get_or hs i 0
    until i h = part_other ws a (neg_at ws at) (get_or ws (at + 2) 0) hs i (inl h)

    deletes : Agree (set ms at 0) ms (at + 1) (next_at ws at)
    deletes i x y = get_or-set_other ms at i 0 0 (λ e. omega arith)

    go : (k t : Bool) → eqb (get_or ms at 0) 1 ≡ k → entry_at ws (cond k (cond t (set ms at 0) ns) ms) at ≡ cond k (cond t (deleted e.clause) (record { kept = true; clause = record { head = without a e.clause.head; pos = e.clause.pos; neg = without a e.clause.neg } })) e
    go true true q = rw (
      get_or-set_same ms at 0 0 (omega arith),
      part_agree ws (set ms at 0) ms (head_at at) (get_or ws at 0) (λ i x y. deletes i (omega arith) (omega arith)),
      part_agree ws (set ms at 0) ms (pos_at ws at) (get_or ws (at + 1) 0) (λ i x y. deletes i (omega arith) (omega arith)),
      part_agree ws (set ms at 0) ms (neg_at ws at) (get_or ws (at + 2) 0) (λ i x y. deletes i (omega arith) (omega arith)),
    )
    go true false q = rw (
      until at (omega arith) ∙ part_other ws a (head_at at) (get_or ws at 0) ms at (inl (omega arith)),
      q,
      part_agree ws ns hs (head_at at) (get_or ws at 0) (λ i x y. until i (omega arith)) ∙ part_cleared ws a (head_at at) (get_or ws at 0) ms (omega arith),
      part_agree ws ns ms (pos_at ws at) (get_or ws (at + 1) 0) (λ i x y. until i y ∙ past i x),
      part_cleared ws a (neg_at ws at) (get_or ws (at + 2) 0) hs (omega (arith, part_length ws a (head_at at) (get_or ws at 0) ms)),
      part_agree ws hs ms (neg_at ws at) (get_or ws (at + 2) 0) (λ i x y. past i (omega arith)),
    )
    go false t q = refl

pub clause_length : (ws : List ℕ) (a at : ℕ) (ms : List ℕ) → length (clear_clause ws a at ms) ≡ length ms
unfolding clear_clause
clause_length ws a at ms = go (eqb (get_or ms at 0) 1) (mem a (part ws ms (pos_at ws at) (get_or ws (at + 1) 0)))
  where
    go : (k t : Bool) → length (cond k (cond t (set ms at 0) (clear_part ws a (neg_at ws at) (get_or ws (at + 2) 0) (clear_part ws a (head_at at) (get_or ws at 0) ms))) ms) ≡ length ms
    go true true = simp length-set
    go true false = part_length ws a (neg_at ws at) (get_or ws (at + 2) 0) _ ∙ part_length ws a (head_at at) (get_or ws at 0) ms
    go false t = refl

-- ---- a table

from_before : (ws : List ℕ) (a m at : ℕ) (ms : List ℕ) (i : ℕ) → i < at → get_or (clear_from ws a m at ms) i 0 ≡ get_or ms i 0
unfolding clear_from
from_before ws a zero at ms i h = refl
from_before ws a (suc m) at ms i h = from_before ws a m (next_at ws at) (clear_clause ws a at ms) i (omega arith) ∙ clause_other ws a at ms i (inl h)

from_cleared : (ws : List ℕ) (a m at : ℕ) (ms : List ℕ) → ((t : ℕ) → t < m → next_at ws (start_from ws at t) ≤ length ms) → entries_from ws (clear_from ws a m at ms) m at ≡ map (lacking_of a) (entries_from ws ms m at)
unfolding clear_from entries_from start_from
from_cleared ws a zero at ms g = refl
from_cleared ws a (suc m) at ms g =
    let ks = clear_clause ws a at ms in rw (
      entry_agree ws (clear_from ws a m (next_at ws at) ks) ks at (λ i x y. from_before ws a m (next_at ws at) ks i y),
      clause_cleared ws a at ms (g zero (omega arith)),
      from_cleared ws a m (next_at ws at) ks (λ t h. omega (arith, g (suc t) (omega arith), clause_length ws a at ms)),
      entries_agree ws ks ms m (next_at ws at) (λ i x. clause_other ws a at ms i (inr x)),
    )

-- Clearing the marks of kind 9 is the step's effect on the program.
pub view_without : (ws ms : List ℕ) (a : ℕ) → Passed ws → length ws ≤ length ms → view ws (marks_without ws ms a) ≡ removal a (view ws ms)
unfolding view marks_without removal
view_without ws ms a p l = from_cleared ws a (get_or ws 1 0) 2 ms (λ t h. omega (arith, (passed_good ws p t h).fits))
