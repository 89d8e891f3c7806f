-- The kept clauses of a marked program, by their numbers; and one clause put for another.
use mathlib.Core.Path.{◌≡◌, refl, sym, subst}
use mathlib.Core.Logic.{◌↔◌}
use mathlib.Core.Bool.{Bool, true, false, cond, So, false≢true}
use mathlib.Core.List.Memᴰ
use mathlib.Core.List.{List, [], ◌∷◌}
use Prim.Native.Nat.{ℕ, zero, suc, ◌≤◌, ◌<◌}
use native.Mathlib.Omega.{arith}
use lib.ListN.{length, set}
use Rattle.semantics.specs.Lists.{◌∈◌}
use Rattle.semantics.specs.Programs.{Clause, Atoms}
use Rattle.semantics.proofs.Models.{Holds, Models, All, Closed}
use Rattle.rewriting.specs.Marked.{Entry, Marked, entry, left, whole}

-- what holds of every kept clause holds of every number whose clause is kept
pub left_each : (Q : Clause → Type 0) (P : Marked) → ((c : Clause) → c ∈ left P → Q c) ↔ ((i : ℕ) → So (entry P i).kept → Q (entry P i).clause)
unfolding left
left_each Q P = (to P, from P)
  where
    here : (e : Entry) (P : Marked) (t : Bool) → e.kept ≡ t → So t → ((c : Clause) → c ∈ cond t (e.clause ∷ left P) (left P) → Q c) → Q e.clause
    here e P true q k h = h e.clause (Memᴰ.head refl)
    here e P false q k h = absurd (false≢true k)

    there : (e : Entry) (P : Marked) (t : Bool) → ((c : Clause) → c ∈ cond t (e.clause ∷ left P) (left P) → Q c) → (c : Clause) → c ∈ left P → Q c
    there e P true h c m = h c (Memᴰ.tail m)
    there e P false h c m = h c m

    to : (P : Marked) → ((c : Clause) → c ∈ left P → Q c) → (i : ℕ) → So (entry P i).kept → Q (entry P i).clause
    to [] h i k = absurd (false≢true k)
    to (e ∷ P) h zero k = here e P e.kept refl k h
    to (e ∷ P) h (suc i) k = to P (there e P e.kept h) i k

    join : (e : Entry) (P : Marked) (t : Bool) → (So t → Q e.clause) → ((c : Clause) → c ∈ left P → Q c) → (c : Clause) → c ∈ cond t (e.clause ∷ left P) (left P) → Q c
    join e P true q h c (Memᴰ.head d) = subst Q (sym d) (q refl)
    join e P true q h c (Memᴰ.tail m) = h c m
    join e P false q h c m = h c m

    from : (P : Marked) → ((i : ℕ) → So (entry P i).kept → Q (entry P i).clause) → (c : Clause) → c ∈ left P → Q c
    from [] h c m = absurd (mathlib.Core.List.Memᴰ.not-nil m)
    from (e ∷ P) h c m = join e P e.kept (h zero) (from P (λ i. h (suc i))) c m

pub kept_lt : (P : Marked) (i : ℕ) → So (entry P i).kept → i < length P
kept_lt [] i k = absurd (false≢true k)
kept_lt (e ∷ P) zero k = omega arith
kept_lt (e ∷ P) (suc i) k = omega (arith, kept_lt P i k)

-- no more clauses are left than there were
pub left_le : (P : Marked) → length (left P) ≤ length P
unfolding left
left_le [] = omega arith
left_le (e ∷ P) = go e.kept (left_le P)
  where
    go : (t : Bool) → length (left P) ≤ length P → length (cond t (e.clause ∷ left P) (left P)) ≤ suc (length P)
    go true h = omega arith
    go false h = omega arith

pub left_whole : (cs : List Clause) → left (whole cs) ≡ cs
unfolding left
left_whole [] = refl
left_whole (c ∷ cs) = rw (left_whole cs)

-- ---- one entry put for another

module _ (Q : Entry → Type 0) where
  pub each_set : (P : Marked) (t : ℕ) (e : Entry) → Q e → ((i : ℕ) → Q (entry P i)) → (i : ℕ) → Q (entry (set P t e) i)
  each_set [] t e q h i = h i
  each_set (d ∷ P) zero e q h zero = q
  each_set (d ∷ P) zero e q h (suc i) = h (suc i)
  each_set (d ∷ P) (suc t) e q h zero = h zero
  each_set (d ∷ P) (suc t) e q h (suc i) = each_set P t e q (λ j. h (suc j)) i

  pub each_unset : (P : Marked) (t : ℕ) (e : Entry) → Q (entry P t) → ((i : ℕ) → Q (entry (set P t e) i)) → (i : ℕ) → Q (entry P i)
  each_unset [] t e q h i = h i
  each_unset (d ∷ P) zero e q h zero = q
  each_unset (d ∷ P) zero e q h (suc i) = h (suc i)
  each_unset (d ∷ P) (suc t) e q h zero = h zero
  each_unset (d ∷ P) (suc t) e q h (suc i) = each_unset P t e q (λ j. h (suc j)) i

-- a kept clause has a place
pub set_kept : (P : Marked) (t : ℕ) (e : Entry) → So (entry P t).kept → entry (set P t e) t ≡ e
set_kept [] t e k = absurd (false≢true k)
set_kept (d ∷ P) zero e k = refl
set_kept (d ∷ P) (suc t) e k = set_kept P t e k

-- ---- models and closed sets of what is left

abbrev pub HoldsAt : Atoms → Atoms → Entry → Type 0
HoldsAt M X e = So e.kept → Holds M X e.clause

abbrev pub ModelsAt : Atoms → Atoms → Marked → Type 0
ModelsAt M X P = (i : ℕ) → HoldsAt M X (entry P i)

pub models_left : (M X : Atoms) (P : Marked) → Models M X (left P) ↔ ModelsAt M X P
models_left M X P = left_each (Holds M X) P

abbrev pub ClosedAt : Atoms → Entry → Type 0
ClosedAt R e = So e.kept → All R e.clause.pos → All R e.clause.head

pub closed_left : (R : Atoms) (P : Marked) → Closed R (left P) ↔ ((i : ℕ) → ClosedAt R (entry P i))
closed_left R P = left_each (λ c. All R c.pos → All R c.head) P
