-- The marks that an accepted list leaves pass question 10, so that the reduced table of the reducer's marks is never refused but by 18.
use mathlib.Core.Path.{◌≡◌, refl, sym, subst, ◌∙◌}
use mathlib.Core.Logic.{◌⊎◌, inl, inr, by_cases}
use mathlib.Core.Bool.{Bool, true, false, cond, ◌&&◌, ◌||◌, So}
use mathlib.Core.List.{List, [], ◌∷◌}
use Prim.Native.Nat.{ℕ, zero, suc, ◌+◌, ◌≤◌, ◌<◌}
use native.Mathlib.Omega.{arith}
use native.Mathlib.Decide.{ℕ_discrete, dec_lt}
use lib.Dec.{eqb, leb, ltb}
use lib.ListN.{length, get_or, set, length-set, get_or-eq_default}
use lib.Seq.{get_or-set_same, get_or-set_other}
use borrow.Author.Tests.{eq-eqb, le-leb, lt-ltb}
use Rattle.semantics.specs.Lists.{mem}
use Rattle.semantics.proofs.Tests.{or_left, or_right, and_iff, so_dec, so_false}
use Rattle.rewriting.specs.Steps.{Step, applies}
use Rattle.rewriting.specs.Runs.{accepted}
use Rattle.rewriting.specs.Kinds.{Deed, deletes, drops_pos, drops_neg, removes, row_of, on_target}
use Rattle.table.specs.Questions.{Passed}
use Rattle.table.specs.Places.{head_at, pos_at, neg_at, next_at, start_from, start_of}
use Rattle.table.specs.View.{part, view, all_kept}
use Rattle.table.specs.Clearing.{clear_part, clear_clause, clear_from, marks_without}
use Rattle.table.specs.Effects.{find, cleared_by, clears, marks_after, marks_after_all}
use Rattle.table.proofs.View.{at_step_lem, view_after, length_after, after_on, after_off}
use Rattle.table.proofs.Parts.{all_kept_one, length_all_kept, view_all_kept}
use Rattle.std.specs.Prelude.{Ok}
use Rattle.reduced_table.specs.Reduced.{reduced_answer}
use Rattle.reduced_sizes.specs.Leaves.{reduced}
use Rattle.reduced_marks.specs.Allowed.{clearable_in, clearable_from, allowed}
use Rattle.reducer_results.specs.Reductions.{steps_of, reduction}
use Rattle.reducer_results.proofs.Taken.{reducer_taken, steps_accepted, lengths_kept}
use Rattle.claims.proofs.Reduced.{reduced_fits}

-- ---- the places that a step clears

find_from : (ws : List ℕ) (a at k : ℕ) → at ≤ find ws a at k
unfolding find
find_from ws a at zero = omega arith
find_from ws a at (suc k) = go (eqb (get_or ws at 0) a) (find_from ws a (suc at) k)
  where
    go : (t : Bool) → suc at ≤ find ws a (suc at) k → at ≤ cond t at (find ws a (suc at) k)
    go true h = omega arith
    go false h = omega arith

clears_where : (ws : List ℕ) (x : Deed) (at a : ℕ) → (cleared_by ws x at a ≡ at) ⊎ (head_at at ≤ cleared_by ws x at a)
clears_where ws deletes at a = inl refl
clears_where ws drops_pos at a = inr (omega (arith, find_from ws a (pos_at ws at) (get_or ws (at + 1) 0)))
clears_where ws drops_neg at a = inr (omega (arith, find_from ws a (neg_at ws at) (get_or ws (at + 2) 0)))
clears_where ws removes at a = inl refl

clearable_in_lem : (ws : List ℕ) (at i : ℕ) → (i ≡ at) ⊎ (head_at at ≤ i) → i < next_at ws at → So (clearable_in ws at i)
clearable_in_lem ws at i (inl e) h = or_left (eqb i at) _ (eq-eqb i at e)
clearable_in_lem ws at i (inr e) h = or_right (eqb i at) _ ((and_iff (leb (head_at at) i) (ltb i (next_at ws at))).1 (le-leb _ _ e, lt-ltb _ _ h))

clearable_at : (ws : List ℕ) (m at t i : ℕ) → t < m → So (clearable_in ws (start_from ws at t) i) → So (clearable_from ws m at i)
unfolding clearable_from start_from
clearable_at ws zero at t i l h = absurd (omega arith)
clearable_at ws (suc m) at zero i l h = or_left (clearable_in ws at i) _ h
clearable_at ws (suc m) at (suc t) i l h = or_right (clearable_in ws at i) _ (clearable_at ws m (next_at ws at) t i (omega arith) h)

-- ---- marks that pass question 10

abbrev Allowed : List ℕ → List ℕ → Type 0
Allowed ws ms = (i : ℕ) → i < length ws → So (allowed ws ms i)

one_allowed : (ws ms : List ℕ) (i : ℕ) → get_or ms i 0 ≡ 1 → So (allowed ws ms i)
one_allowed ws ms i e = or_left (eqb (get_or ms i 0) 1) _ (eq-eqb _ 1 e)

zero_allowed : (ws ms : List ℕ) (i : ℕ) → get_or ms i 0 ≡ 0 → So (clearable_from ws (get_or ws 1 0) 2 i) → So (allowed ws ms i)
zero_allowed ws ms i e h = or_right (eqb (get_or ms i 0) 1) _ ((and_iff (eqb (get_or ms i 0) 0) (clearable_from ws (get_or ws 1 0) 2 i)).1 (eq-eqb _ 0 e, h))

-- ---- the places that kind 9 clears

-- a mark is as it was, or is cleared where F says
abbrev Cleared : (ℕ → Type 0) → List ℕ → List ℕ → ℕ → Type 0
Cleared F ms ks i = (get_or ks i 0 ≡ get_or ms i 0) ⊎ ((get_or ks i 0 ≡ 0) × F i)

cleared_trans : (F : ℕ → Type 0) (ms ks js : List ℕ) (i : ℕ) → Cleared F ms ks i → Cleared F ks js i → Cleared F ms js i
cleared_trans F ms ks js i f (inr g) = inr g
cleared_trans F ms ks js i (inl e) (inl d) = inl (d ∙ e)
cleared_trans F ms ks js i (inr f) (inl d) = inr (d ∙ f.0, f.1)

cleared_more : (F G : ℕ → Type 0) (ms ks : List ℕ) (i : ℕ) → (F i → G i) → Cleared F ms ks i → Cleared G ms ks i
cleared_more F G ms ks i f (inl e) = inl e
cleared_more F G ms ks i f (inr w) = inr (w.0, f w.1)

set_cleared : (F : ℕ → Type 0) (ms : List ℕ) (j i : ℕ) → F j → Cleared F ms (set ms j 0) i
set_cleared F ms j i h = by_cases (ℕ_discrete i j)
    (λ e. by_cases (dec_lt j (length ms)) (λ l. inr (rw e (get_or-set_same ms j 0 0 l, h))) (λ l. inl (rw e (set_past ms j (omega arith)))))
    (λ e. inl (get_or-set_other ms j i 0 0 e))
  where
    set_past : (ms : List ℕ) (j : ℕ) → length ms ≤ j → get_or (set ms j 0) j 0 ≡ get_or ms j 0
    set_past ms j l = get_or-eq_default (set ms j 0) 0 (simp length-set l) ∙ sym (get_or-eq_default ms 0 l)

part_places : (F : ℕ → Type 0) (ws : List ℕ) (a at k : ℕ) (ms : List ℕ) (i : ℕ) → ((j : ℕ) → at ≤ j → j < at + k → F j) → Cleared F ms (clear_part ws a at k ms) i
unfolding clear_part
part_places F ws a at zero ms i f = inl refl
part_places F ws a at (suc k) ms i f =
    let ks = cond (eqb a (get_or ws at 0)) (set ms at 0) ms in
    cleared_trans F ms ks (clear_part ws a (suc at) k ks) i (go (eqb a (get_or ws at 0))) (part_places F ws a (suc at) k ks i (λ j x y. f j (omega arith) (omega arith)))
  where
    go : (t : Bool) → Cleared F ms (cond t (set ms at 0) ms) i
    go true = set_cleared F ms at i (f at (omega arith) (omega arith))
    go false = inl refl

clause_places : (ws : List ℕ) (a at : ℕ) (ms : List ℕ) (i : ℕ) → Cleared (λ j. So (clearable_in ws at j)) ms (clear_clause ws a at ms) i
unfolding clear_clause
clause_places ws a at ms i = go (eqb (get_or ms at 0) 1) (mem a (part ws ms (pos_at ws at) (get_or ws (at + 1) 0)))
  where
    F : ℕ → Type 0
    F j = So (clearable_in ws at j)

    hs : List ℕ
    hs = clear_part ws a (head_at at) (get_or ws at 0) ms

    go : (k t : Bool) → Cleared F ms (cond k (cond t (set ms at 0) (clear_part ws a (neg_at ws at) (get_or ws (at + 2) 0) hs)) ms) i
    go true true = set_cleared F ms at i (clearable_in_lem ws at at (inl refl) (omega arith))
    go true false = cleared_trans F ms hs (clear_part ws a (neg_at ws at) (get_or ws (at + 2) 0) hs) i
        (part_places F ws a (head_at at) (get_or ws at 0) ms i (λ j x y. clearable_in_lem ws at j (inr x) (omega arith)))
        (part_places F ws a (neg_at ws at) (get_or ws (at + 2) 0) hs i (λ j x y. clearable_in_lem ws at j (inr (omega arith)) (omega arith)))
    go false t = inl refl

from_places : (ws : List ℕ) (a m at : ℕ) (ms : List ℕ) (i : ℕ) → Cleared (λ j. So (clearable_from ws m at j)) ms (clear_from ws a m at ms) i
unfolding clear_from clearable_from
from_places ws a zero at ms i = inl refl
from_places ws a (suc m) at ms i =
    let ks = clear_clause ws a at ms in
    let F : ℕ → Type 0 = λ j. So (clearable_in ws at j || clearable_from ws m (next_at ws at) j) in
    cleared_trans F ms ks (clear_from ws a m (next_at ws at) ks) i
    (cleared_more (λ j. So (clearable_in ws at j)) F ms ks i (λ h. or_left (clearable_in ws at i) _ h) (clause_places ws a at ms i))
    (cleared_more (λ j. So (clearable_from ws m (next_at ws at) j)) F ks (clear_from ws a m (next_at ws at) ks) i (λ h. or_right (clearable_in ws at i) _ h) (from_places ws a m (next_at ws at) ks i))

without_allowed : (ws ms : List ℕ) (a : ℕ) → Allowed ws ms → Allowed ws (marks_without ws ms a)
unfolding marks_without
without_allowed ws ms a o i b = go (from_places ws a (get_or ws 1 0) 2 ms i)
  where
    go : Cleared (λ j. So (clearable_from ws (get_or ws 1 0) 2 j)) ms (clear_from ws a (get_or ws 1 0) 2 ms) i → So (allowed ws (clear_from ws a (get_or ws 1 0) 2 ms) i)
    go (inl e) = subst (λ q. So (eqb q 1 || (eqb q 0 && clearable_from ws (get_or ws 1 0) 2 i))) (sym e) (o i b)
    go (inr w) = zero_allowed ws (clear_from ws a (get_or ws 1 0) 2 ms) i w.0 w.1

-- ---- a list

one_cleared : (ws ms : List ℕ) → Passed ws → length ws ≤ length ms → (s : Step) → So (on_target s.kind) → So (applies (get_or ws 0 0) (view ws ms) s) → Allowed ws ms → Allowed ws (set ms (clears ws s) 0)
unfolding clears
one_cleared ws ms p l s on h o i b =
    let (x, y, z, v, u, w) = at_step_lem ws ms p l (get_or ws 0 0) s on h in
    let j = clears ws s in
    by_cases (ℕ_discrete i j)
    (λ e. subst (λ q. So (allowed ws (set ms j 0) q)) (sym e) (zero_allowed ws (set ms j 0) j (get_or-set_same ms j 0 0 (omega arith))
    (clearable_at ws (get_or ws 1 0) 2 s.target j x (clearable_in_lem ws (start_of ws s.target) j (clears_where ws (row_of s.kind).deed (start_of ws s.target) s.atom) v))))
    (λ e. subst (λ q. So (eqb q 1 || (eqb q 0 && clearable_from ws (get_or ws 1 0) 2 i))) (sym (get_or-set_other ms j i 0 0 e)) (o i b))

step_allowed : (ws ms : List ℕ) → Passed ws → length ws ≤ length ms → (s : Step) → So (applies (get_or ws 0 0) (view ws ms) s) → Allowed ws ms → Allowed ws (marks_after ws ms s)
step_allowed ws ms p l s h o = by_cases (so_dec (on_target s.kind))
    (λ q. subst (Allowed ws) (sym (after_on ws ms s q)) (one_cleared ws ms p l s q h o))
    (λ q. subst (Allowed ws) (sym (after_off ws ms s (so_false _ q))) (without_allowed ws ms s.atom o))

list_allowed : (ws : List ℕ) → Passed ws → (l : List Step) (ms : List ℕ) → length ws ≤ length ms → So (accepted (get_or ws 0 0) (view ws ms) l) → Allowed ws ms → Allowed ws (marks_after_all ws ms l)
unfolding marks_after_all accepted
list_allowed ws p [] ms b h o = o
list_allowed ws p (s ∷ l) ms b h o =
    let w = (and_iff (applies (get_or ws 0 0) (view ws ms) s) _).0 h in
    list_allowed ws p l (marks_after ws ms s) (omega (arith, length_after ws ms s)) (subst (λ P. So (accepted (get_or ws 0 0) P l)) (sym (view_after ws ms p b (get_or ws 0 0) s w.0)) w.1) (step_allowed ws ms p b s w.0 o)

-- The reduced table of the reducer's marks is written wherever it fits.
pub reducer_compacts : (ws ms ls out : List ℕ) (s : ℕ) → (reduction ws ms ls).answer ≡ Ok s → length (reduced ws (reduction ws ms ls).marks) ≤ length out
    → reduced_answer ws (reduction ws ms ls).marks out ≡ Ok (length (reduced ws (reduction ws ms ls).marks))
reducer_compacts ws ms ls out s h f =
    let t = reducer_taken ws ms ls s h in
    let p = t.passed in
    let a = list_allowed ws p (steps_of ws) (all_kept ws ms) (omega (arith, length_all_kept ws ms t.marked, t.marked))
    (subst (λ P. So (accepted (get_or ws 0 0) P (steps_of ws))) (sym (view_all_kept ws ms p)) (steps_accepted ws p)) (λ i b. one_allowed ws (all_kept ws ms) i (all_kept_one ws ms i b)) in
    let b : length ws ≤ length (reduction ws ms ls).marks = omega (arith, (lengths_kept ws ms ls s t).0, t.marked) in
    reduced_fits ws (reduction ws ms ls).marks out (record { passed = p; marked = b; marks = rw t.marks a }) f
