-- Every step of kinds 1 to 8 keeps the guards' work, whatever clause it targets; and the work is that the reach holds the context's heads.
use mathlib.Core.Path.{◌≡◌, refl, sym, subst}
use mathlib.Core.Logic.{◌↔◌, ⊎_elim}
use mathlib.Core.Bool.{So}
use mathlib.Core.List.Memᴰ
use mathlib.Core.List.{List, [], ◌∷◌}
use Prim.Native.Nat.{ℕ, ◌≤◌, ◌<◌}
use lib.Dec.{ltb}
use borrow.Author.Tests.{lt-ltb, ltb-true}
use Rattle.semantics.specs.Lists.{◌∈◌, all, mem}
use Rattle.semantics.specs.Programs.{Clause, Atoms}
use Rattle.semantics.proofs.Tests.{and_iff, all_iff, mem_iff, keep_iff, so_dec}
use Rattle.semantics.proofs.Models.{Models}
use Rattle.rewriting.specs.Marked.{Entry, Marked, entry, left}
use Rattle.rewriting.specs.Reaches.{reach}
use Rattle.rewriting.specs.Steps.{Step, fact, applies, effect}
use Rattle.rewriting.specs.Kinds.{on_target}
use Rattle.rewriting.proofs.Left.{left_each}
use Rattle.rewriting.proofs.Subclauses.{Subclause}
use Rattle.rewriting.proofs.Effect.{reach_fires, effect_below}
use Rattle.shell_choices.specs.Translation.{OverClause}
use Rattle.shell_choices.proofs.Below.{low_or_high}
use Rattle.shell_guards.specs.Guards.{head_below, clauses_below}
use Rattle.shell_guards.proofs.Steps.{NoBody, no_body_below, fact_pos, fact_neg, fact_below, HasFact, fact_stays}

-- A guard of h, or what is left to do its work: a kept fact of h and a fresh atom, which is in no kept head without h. It is "h | fresh <-", the
-- fact h, or the empty clause.
pub record Guard (P : Marked) (h : ℕ) : Type 0 where
  pub fresh : ℕ
  pub stands : HasFact P (h ∷ fresh ∷ [])
  pub beside : (i : ℕ) → So (entry P i).kept → fresh ∈ (entry P i).clause.head → h ∈ (entry P i).clause.head

-- Each atom of H has a guard, or is one of U, which no body has; the clauses with heads below n are over n atoms, and the others are facts.
pub record Guarded (n : ℕ) (H U : Atoms) (P : Marked) : Type 0 where
  pub guard : (h : ℕ) → So (H h) → ¬ So (U h) → Guard P h
  pub bodies : NoBody U P
  pub over : (i : ℕ) → So (entry P i).kept → So (head_below n (entry P i).clause) → OverClause n (entry P i).clause
  pub other : (i : ℕ) → So (entry P i).kept → ¬ So (head_below n (entry P i).clause) → So (fact (entry P i).clause)

-- ---- heads below n

pub head_below_iff : (n : ℕ) (c : Clause) → So (head_below n c) ↔ ((a : ℕ) → a ∈ c.head → a < n)
head_below_iff n c = (λ h a m. ltb-true a n ((all_iff (λ a. ltb a n) c.head).0 h a m), λ h. (all_iff (λ a. ltb a n) c.head).1 (λ a m. lt-ltb a n (h a m)))

-- a head that is not below n has an atom from n on
pub head_high : (n : ℕ) (l : List ℕ) → ¬ So (all (λ a. ltb a n) l) → (a : ℕ) × (a ∈ l) × (n ≤ a)
head_high n [] h = absurd (h refl)
head_high n (x ∷ l) h = ⊎_elim
    (λ k. let w = head_high n l (λ r. h ((and_iff _ _).1 (lt-ltb x n k, r))) in (w.0, Memᴰ.tail w.1, w.2))
    (λ k. (x, Memᴰ.head refl, k)) (low_or_high x n)

-- no step of kinds 1 to 8 changes a head
pub head_before : (n : ℕ) (d c : Entry) → Subclause d c → head_below n d.clause ≡ head_below n c.clause
head_before n d c b = rw b.head

pub over_below : (n : ℕ) (d c : Entry) → Subclause d c → OverClause n c.clause → OverClause n d.clause
over_below n d c b o = record { head = λ a m. o.head a (subst (λ l. a ∈ l) b.head m); pos = λ a m. o.pos a (b.pos a m); neg = λ a m. o.neg a (b.neg a m) }

-- ---- a step

-- Every step of kinds 1 to 8 keeps the guards' work.
pub guarded_step : (m : ℕ) (P : Marked) (s : Step) → So (applies m P s) → So (on_target s.kind) → (n : ℕ) (H U : Atoms) → Guarded n H U P → Guarded n H U (effect P s)
guarded_step m P s h on n H U g = record {
  guard = λ x k u. let w = g.guard x k u in record {
    fresh = w.fresh;
    stands = fact_stays m P s h on (x ∷ w.fresh ∷ []) w.stands;
    beside = λ i q z. subst (λ l. x ∈ l) (sym (b i).head) (w.beside i ((b i).kept q) (subst (λ l. w.fresh ∈ l) (b i).head z));
  };
  bodies = no_body_below U P (effect P s) b g.bodies;
  over = λ i q o. over_below n (entry (effect P s) i) (entry P i) (b i) (g.over i ((b i).kept q) (subst So (head_before n (entry (effect P s) i) (entry P i) (b i)) o));
  other = λ i q o. fact_below (entry (effect P s) i) (entry P i) (b i)
      (g.other i ((b i).kept q) (λ k. o (subst So (sym (head_before n (entry (effect P s) i) (entry P i) (b i))) k)));
}
  where
    b : (i : ℕ) → Subclause (entry (effect P s) i) (entry P i)
    b = effect_below m P s h on

-- ---- what the guards are for

-- Where a set models the clauses without the guards, the empty clause is not kept, and the reach holds the heads that are guarded.
pub heads_reached : (n : ℕ) (H U : Atoms) (P : Marked) (M X : Atoms) → Guarded n H U P → Models M X (clauses_below n (left P)) → (a : ℕ) → So (H a) → ¬ So (U a) → So (reach (left P) a)
unfolding clauses_below
heads_reached n H U P M X g k a q u = go w.stands.place w.stands.kept w.stands.is_fact w.stands.head
  where
    w : Guard P a
    w = g.guard a q u

    has : (i : ℕ) → So (entry P i).kept → ((b : ℕ) → b ∈ (entry P i).clause.head → b ∈ a ∷ w.fresh ∷ []) → (b : ℕ) → b ∈ (entry P i).clause.head → a ∈ (entry P i).clause.head
    has i kept h b m = ⊎_elim (λ e. subst (λ x. x ∈ (entry P i).clause.head) e m)
        (λ r. w.beside i kept (subst (λ x. x ∈ (entry P i).clause.head) (Memᴰ.eq_of_singleton r) m)) (Memᴰ.cases_cons (h b m))

    go : (i : ℕ) → So (entry P i).kept → So (fact (entry P i).clause) → ((b : ℕ) → b ∈ (entry P i).clause.head → b ∈ a ∷ w.fresh ∷ []) → So (reach (left P) a)
    go i kept f h = pick (so_dec (mem a (entry P i).clause.head))
      where
        c : Clause
        c = (entry P i).clause

        pick : Dec (So (mem a c.head)) → So (reach (left P) a)
        pick (yes x) = reach_fires P i kept (λ b m. absurd (fact_pos c f b m)) a ((mem_iff _ _).0 x)
        pick (no x) =
            let none : (b : ℕ) → ¬ (b ∈ c.head) = λ b m. x ((mem_iff _ _).1 (has i kept h b m)) in
            let v = k c ((keep_iff (head_below n) (left P) c).1 ((left_each (λ c. c ∈ left P) P).0 (λ c m. m) i kept, (head_below_iff n c).1 (λ b m. absurd (none b m))))
            (λ u. fact_neg c f u.0 u.1) (λ b m. absurd (fact_pos c f b m)) in
            absurd (none v.0 v.1)
