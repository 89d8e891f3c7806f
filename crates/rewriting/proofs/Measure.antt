-- What every applicable step takes from kept clauses plus literals: exactly one, but for kind 9, which takes one for each kept clause in which the atom occurs, or more.
use mathlib.Core.Path.{◌≡◌, refl, subst}
use mathlib.Core.Logic.{by_cases}
use mathlib.Core.Bool.{Bool, true, false, cond, ◌&&◌, ◌||◌, So, false≢true}
use mathlib.Core.List.{List, [], ◌∷◌}
use Prim.Native.Nat.{ℕ, zero, suc, ◌+◌, ◌≤◌, ◌<◌}
use native.Mathlib.Omega.{arith}
use lib.Dec.{eqb}
use lib.ListN.{length, set}
use Rattle.semantics.specs.Lists.{bit, mem, without, ascending, count}
use Rattle.semantics.proofs.Tests.{bit_true, bit_bound, any_iff, count_none, length_without, ascending_without, so_dec, so_false}
use Rattle.rewriting.specs.Marked.{Entry, Marked, entry, left}
use Rattle.rewriting.specs.Steps.{Step, condition, applies, left_by, effect}
use Rattle.rewriting.specs.Exclusion.{occurs, excludes, lacking_of, removal}
use Rattle.rewriting.specs.Kinds.{Deed, deletes, drops_pos, drops_neg, removes, at_target, row_of, on_target, excluded}
use Rattle.rewriting.specs.Measure.{weight, measure}
use Rattle.rewriting.proofs.Rows.{There, drops_there, not_on_target}
use Rattle.rewriting.proofs.Left.{each_set}
use Rattle.rewriting.proofs.Exclusion.{entry_removal, excludes_iff}
use Rattle.rewriting.proofs.Sound.{applies_ask}
use Rattle.rewriting.proofs.Effect.{effect_on, effect_off}

measure_set : (P : Marked) (t : ℕ) (e : Entry) → So (entry P t).kept → measure (set P t e) + weight (entry P t) ≡ measure P + weight e
unfolding measure
measure_set [] t e k = absurd (false≢true k)
measure_set (d ∷ P) zero e k = omega arith
measure_set (d ∷ P) (suc t) e k = omega (arith, measure_set P t e k)

-- both parts of the body are ascending
abbrev pub Tidy : Entry → Type 0
Tidy e = So (ascending e.clause.pos) × So (ascending e.clause.neg)

-- ---- kinds 1 to 8

weight_left : (x : Deed) (a : ℕ) (e : Entry) → So (at_target x) → Tidy e → So e.kept → There x a e.clause → suc (weight (left_by x a e.clause)) ≡ weight e
unfolding weight
weight_left deletes a e o u k m = omega (arith, bit_true _ k)
weight_left drops_pos a e o u k m = omega (arith, bit_true _ k, length_without a e.clause.pos u.0 m)
weight_left drops_neg a e o u k m = omega (arith, bit_true _ k, length_without a e.clause.neg u.1 m)
weight_left removes a e o u k m = absurd (false≢true o)

-- An applicable step of kinds 1 to 8 takes exactly one from the measure.
pub step_measure : (n : ℕ) (P : Marked) (s : Step) → So (on_target s.kind) → ((i : ℕ) → Tidy (entry P i)) → So (applies n P s) → suc (measure (effect P s)) ≡ measure P
step_measure n P s o u h =
    let w = applies_ask n P s h in
    let c = entry P s.target in
    let x = (row_of s.kind).deed in
    rw (effect_on P s o) (omega (arith, measure_set P s.target (left_by x s.atom c.clause) w.0, weight_left x s.atom c o (u s.target) w.0 (drops_there _ c.clause (entry P s.partner).clause s.atom s.kind w.2)))

-- ---- kind 9

length_without_le : (a : ℕ) (l : List ℕ) → length (without a l) + bit (mem a l) ≤ length l
length_without_le a [] = omega arith
length_without_le a (x ∷ l) = go (eqb a x) (length_without_le a l)
  where
    go : (t : Bool) → length (without a l) + bit (mem a l) ≤ length l → length (cond t (without a l) (x ∷ without a l)) + bit (t || mem a l) ≤ length (x ∷ l)
    go true h = omega arith
    go false h = omega arith

bit_or : (s t : Bool) → bit (s || t) ≤ bit s + bit t
bit_or true t = omega arith
bit_or false t = omega arith

weight_lacking : (a : ℕ) (e : Entry) → weight (lacking_of a e) + bit (e.kept && occurs a e.clause) ≤ weight e
unfolding weight
weight_lacking a e = go e.kept (mem a e.clause.pos) refl refl
  where
    go : (k t : Bool) → e.kept ≡ k → mem a e.clause.pos ≡ t → weight (lacking_of a e) + bit (e.kept && occurs a e.clause) ≤ weight e
    go true true q r = rw (q, r) (omega (arith, bit_bound (mem a e.clause.head || true)))
    go true false q r = rw (q, r) (omega (arith, bit_or (mem a e.clause.head) (mem a e.clause.neg), length_without_le a e.clause.head, length_without_le a e.clause.neg))
    go false t q r = rw q (omega arith)

-- one for each kept clause in which the atom occurs
pub measure_removal : (a : ℕ) (P : Marked) → measure (removal a P) + count (occurs a) (left P) ≤ measure P
unfolding measure removal left
measure_removal a [] = omega arith
measure_removal a (e ∷ P) = omega (arith, weight_lacking a e, one e.kept, measure_removal a P)
  where
    one : (k : Bool) → count (occurs a) (cond k (e.clause ∷ left P) (left P)) ≡ bit (k && occurs a e.clause) + count (occurs a) (left P)
    one true = refl
    one false = omega arith

-- and there is one
pub removal_less : (n : ℕ) (P : Marked) (s : Step) → s.kind ≡ excluded → So (applies n P s) → measure (removal s.atom P) < measure P
unfolding condition
removal_less n P s k h =
    let x : So (excludes (left P) (entry P s.target).clause s.atom) = subst (λ j. So (condition j (left P) (entry P s.target).clause (entry P s.partner).clause s.atom)) k (applies_ask n P s h).2 in
    let v = (any_iff (occurs s.atom) (left P)).0 ((excludes_iff (left P) (entry P s.target).clause s.atom).0 x).there in
    let c : ¬ (count (occurs s.atom) (left P) ≤ 0) = λ z. count_none (occurs s.atom) (left P) z v.0 v.1 v.2 in
    omega (arith, measure_removal s.atom P)

-- ---- every kind

-- An applicable step takes at least one from the measure.
pub step_less : (n : ℕ) (P : Marked) (s : Step) → ((i : ℕ) → Tidy (entry P i)) → So (applies n P s) → suc (measure (effect P s)) ≤ measure P
step_less n P s u h = by_cases (so_dec (on_target s.kind))
    (λ o. omega (arith, step_measure n P s o u h))
    (λ o. let e = so_false _ o in rw (effect_off P s e) (omega (arith, removal_less n P s (not_on_target s.kind e) h)))

tidy_left : (x : Deed) (a : ℕ) (e : Entry) → So (at_target x) → Tidy e → Tidy (left_by x a e.clause)
tidy_left deletes a e o u = u
tidy_left drops_pos a e o u = (ascending_without a e.clause.pos u.0, u.1)
tidy_left drops_neg a e o u = (u.0, ascending_without a e.clause.neg u.1)
tidy_left removes a e o u = absurd (false≢true o)

tidy_lacking : (a : ℕ) (e : Entry) → Tidy e → Tidy (lacking_of a e)
tidy_lacking a e u = go e.kept (mem a e.clause.pos) refl refl
  where
    go : (k t : Bool) → e.kept ≡ k → mem a e.clause.pos ≡ t → Tidy (lacking_of a e)
    go true true q r = rw (q, r) u
    go true false q r = rw (q, r) (u.0, ascending_without a e.clause.neg u.1)
    go false t q r = rw q u

pub tidy_effect : (P : Marked) (s : Step) → ((i : ℕ) → Tidy (entry P i)) → (i : ℕ) → Tidy (entry (effect P s) i)
tidy_effect P s u i = by_cases (so_dec (on_target s.kind))
    (λ o. let x = (row_of s.kind).deed in
    rw (effect_on P s o) (each_set Tidy P s.target (left_by x s.atom (entry P s.target).clause) (tidy_left x s.atom (entry P s.target) o (u s.target)) u i))
    (λ o. rw (effect_off P s (so_false _ o), entry_removal s.atom P i) (tidy_lacking s.atom (entry P i) (u i)))
