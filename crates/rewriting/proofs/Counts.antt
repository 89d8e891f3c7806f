-- The numbers that the reducer keeps: the kept clauses with an atom in their head; and "is a fact" by the literals left.
use mathlib.Core.Path.{◌≡◌, refl, ap}
use mathlib.Core.Bool.{Bool, not, ◌&&◌, So, true, false, cond, false≢true}
use mathlib.Core.List.{List, [], ◌∷◌}
use Prim.Native.Nat.{ℕ, zero, suc, ◌+◌, ◌<◌}
use native.Mathlib.Omega.{arith}
use lib.ListN.{length, set}
use Rattle.semantics.specs.Lists.{mem, count, bit}
use Rattle.semantics.specs.Programs.{Clause}
use Rattle.rewriting.specs.Marked.{Entry, Marked, entry, left}
use Rattle.rewriting.specs.Steps.{Step, applies, left_by, effect}
use Rattle.rewriting.specs.Kinds.{Deed, deletes, drops_pos, drops_neg, removes, at_target, row_of, on_target}
use Rattle.rewriting.specs.Uses.{dropping, drops}
use Rattle.rewriting.proofs.Left.{kept_lt}
use Rattle.rewriting.proofs.Effect.{target_kept_lem, effect_on}

-- ---- kept heads of an atom

unfoldable pub heads : Marked → ℕ → ℕ
heads P a = count (λ c. mem a c.head) (left P)

-- one clause put for another
count_left : (f : Clause → Bool) (P : Marked) (t : ℕ) (e : Entry) → t < length P
    → count f (left (set P t e)) + bit ((entry P t).kept && f (entry P t).clause) ≡ count f (left P) + bit (e.kept && f e.clause)
unfolding left
count_left f [] t e l = absurd (omega arith)
count_left f (d ∷ P) zero e l = omega (arith, one d.kept d, one e.kept e)
  where
    one : (b : Bool) (x : Entry) → count f (cond b (x.clause ∷ left P) (left P)) ≡ bit (b && f x.clause) + count f (left P)
    one true x = refl
    one false x = omega arith
count_left f (d ∷ P) (suc t) e l = omega (arith, one d.kept (left (set P t e)), one d.kept (left P), count_left f P t e (omega arith))
  where
    one : (b : Bool) (cs : List Clause) → count f (cond b (d.clause ∷ cs) cs) ≡ bit (b && f d.clause) + count f cs
    one true cs = refl
    one false cs = omega arith

-- One head less of each head atom of a clause deleted, and nothing else changes.
pub heads_effect : (n : ℕ) (P : Marked) (s : Step) → So (applies n P s) → So (on_target s.kind) → (a : ℕ)
    → heads (effect P s) a + bit (not (drops s.kind) && mem a (entry P s.target).clause.head) ≡ heads P a
unfolding heads
heads_effect n P s h o a =
    let c = entry P s.target in
    let e = left_by (row_of s.kind).deed s.atom c.clause in
    omega (arith, ap (λ Q. count (λ d. mem a d.head) (left Q)) (effect_on P s o), count_left (λ d. mem a d.head) P s.target e (kept_lt P s.target (target_kept_lem n P s h)), at (row_of s.kind).deed s.atom c o (target_kept_lem n P s h))
  where
    at : (x : Deed) (b : ℕ) (c : Entry) → So (at_target x) → So c.kept
        → bit ((left_by x b c.clause).kept && mem a (left_by x b c.clause).clause.head) + bit (not (dropping x) && mem a c.clause.head) ≡ bit (c.kept && mem a c.clause.head)
    at deletes b c o q = rw q (omega arith)
    at drops_pos b c o q = rw q (omega arith)
    at drops_neg b c o q = rw q (omega arith)
    at removes b c o q = absurd (false≢true o)
