-- The marks of a table's words after a list of steps depend on the marks of these words alone.
use mathlib.Core.Path.{sym, ◌∙◌}
use mathlib.Core.Logic.{by_cases}
use mathlib.Core.Bool.{Bool, true, false, cond}
use mathlib.Core.List.{List, [], ◌∷◌}
use Prim.Native.Nat.{ℕ, zero, suc, ◌+◌, ◌≤◌, ◌<◌}
use native.Mathlib.Omega.{arith}
use native.Mathlib.Decide.{ℕ_discrete}
use lib.Dec.{eqb}
use lib.ListN.{length, get_or, set, length-set}
use lib.Seq.{get_or-set_same, get_or-set_other}
use Rattle.semantics.specs.Lists.{mem}
use Rattle.semantics.proofs.Tests.{so_dec, so_false}
use Rattle.rewriting.specs.Kinds.{on_target}
use Rattle.rewriting.specs.Steps.{Step}
use Rattle.table.specs.Questions.{Passed}
use Rattle.table.specs.Places.{head_at, pos_at, neg_at, next_at, start_from}
use Rattle.table.specs.View.{part}
use Rattle.table.specs.Clearing.{clear_part, clear_clause, clear_from, marks_without}
use Rattle.table.specs.Effects.{clears, marks_after, marks_after_all}
use Rattle.table.proofs.Places.{passed_good}
use Rattle.table.proofs.Clearing.{Agree, part_agree}
use Rattle.table.proofs.View.{length_after, after_on, after_off}

set_agree : (ms ks : List ℕ) (n j v : ℕ) → n ≤ length ms → n ≤ length ks → Agree ms ks 0 n → Agree (set ms j v) (set ks j v) 0 n
set_agree ms ks n j v a b o i x y = by_cases (ℕ_discrete i j)
    (λ e. rw e (get_or-set_same ms j v 0 (omega arith) ∙ sym (get_or-set_same ks j v 0 (omega arith))))
    (λ e. get_or-set_other ms j i v 0 e ∙ o i x y ∙ sym (get_or-set_other ks j i v 0 e))

-- ---- kind 9

-- both lists of marks are long enough, and agree before n
record Alike (n : ℕ) (ms ks : List ℕ) : Type 0 where
  pub left : n ≤ length ms
  pub right : n ≤ length ks
  pub same : Agree ms ks 0 n

set_alike : (n : ℕ) (ms ks : List ℕ) (j : ℕ) → Alike n ms ks → Alike n (set ms j 0) (set ks j 0)
set_alike n ms ks j r = record { left = simp length-set r.left; right = simp length-set r.right; same = set_agree ms ks n j 0 r.left r.right r.same }

part_alike : (ws : List ℕ) (a n at k : ℕ) (ms ks : List ℕ) → Alike n ms ks → Alike n (clear_part ws a at k ms) (clear_part ws a at k ks)
unfolding clear_part
part_alike ws a n at zero ms ks r = r
part_alike ws a n at (suc k) ms ks r = part_alike ws a n (suc at) k _ _ (go (eqb a (get_or ws at 0)))
  where
    go : (t : Bool) → Alike n (cond t (set ms at 0) ms) (cond t (set ks at 0) ks)
    go true = set_alike n ms ks at r
    go false = r

clause_alike : (ws : List ℕ) (a n at : ℕ) (ms ks : List ℕ) → next_at ws at ≤ n → Alike n ms ks → Alike n (clear_clause ws a at ms) (clear_clause ws a at ks)
unfolding clear_clause
clause_alike ws a n at ms ks l r =
    rw (r.same at (omega arith) (omega arith), part_agree ws ms ks (pos_at ws at) (get_or ws (at + 1) 0) (λ i x y. r.same i (omega arith) (omega arith)))
    (go (eqb (get_or ks at 0) 1) (mem a (part ws ks (pos_at ws at) (get_or ws (at + 1) 0))))
  where
    go : (k t : Bool) → Alike n
        (cond k (cond t (set ms at 0) (clear_part ws a (neg_at ws at) (get_or ws (at + 2) 0) (clear_part ws a (head_at at) (get_or ws at 0) ms))) ms)
        (cond k (cond t (set ks at 0) (clear_part ws a (neg_at ws at) (get_or ws (at + 2) 0) (clear_part ws a (head_at at) (get_or ws at 0) ks))) ks)
    go true true = set_alike n ms ks at r
    go true false = part_alike ws a n (neg_at ws at) (get_or ws (at + 2) 0) _ _ (part_alike ws a n (head_at at) (get_or ws at 0) ms ks r)
    go false t = r

from_alike : (ws : List ℕ) (a n m at : ℕ) (ms ks : List ℕ) → ((t : ℕ) → t < m → next_at ws (start_from ws at t) ≤ n) → Alike n ms ks → Alike n (clear_from ws a m at ms) (clear_from ws a m at ks)
unfolding clear_from start_from
from_alike ws a n zero at ms ks g r = r
from_alike ws a n (suc m) at ms ks g r = from_alike ws a n m (next_at ws at) (clear_clause ws a at ms) (clear_clause ws a at ks) (λ t h. g (suc t) (omega arith)) (clause_alike ws a n at ms ks (g zero (omega arith)) r)

without_agree : (ws ms ks : List ℕ) (a : ℕ) → Passed ws → length ws ≤ length ms → length ws ≤ length ks → Agree ms ks 0 (length ws) → Agree (marks_without ws ms a) (marks_without ws ks a) 0 (length ws)
unfolding marks_without
without_agree ws ms ks a p x y o = (from_alike ws a (length ws) (get_or ws 1 0) 2 ms ks (λ t h. (passed_good ws p t h).fits) (record { left = x; right = y; same = o })).same

-- ---- a list

after_agree : (ws ms ks : List ℕ) (s : Step) → Passed ws → length ws ≤ length ms → length ws ≤ length ks → Agree ms ks 0 (length ws) → Agree (marks_after ws ms s) (marks_after ws ks s) 0 (length ws)
after_agree ws ms ks s p a b o = by_cases (so_dec (on_target s.kind))
    (λ q. rw (after_on ws ms s q, after_on ws ks s q) (set_agree ms ks (length ws) (clears ws s) 0 a b o))
    (λ q. let e = so_false _ q in rw (after_off ws ms s e, after_off ws ks s e) (without_agree ws ms ks s.atom p a b o))

-- Marks that agree on the table's words agree there after every list.
pub after_all_agree : (ws : List ℕ) → Passed ws → (l : List Step) (ms ks : List ℕ) → length ws ≤ length ms → length ws ≤ length ks
    → Agree ms ks 0 (length ws) → Agree (marks_after_all ws ms l) (marks_after_all ws ks l) 0 (length ws)
unfolding marks_after_all
after_all_agree ws p [] ms ks a b o = o
after_all_agree ws p (s ∷ l) ms ks a b o =
    after_all_agree ws p l (marks_after ws ms s) (marks_after ws ks s) (omega (arith, length_after ws ms s)) (omega (arith, length_after ws ks s)) (after_agree ws ms ks s p a b o)
