-- Kinds 5 and 8: a clause that an earlier one subsumes has no eligible target but those of the earlier one.
use mathlib.Core.Path.{◌≡◌, refl, sym, subst}
use mathlib.Core.Bool.{not, cond, ◌&&◌, So}
use mathlib.Core.List.Memᴰ
use mathlib.Core.List.{List}
use Prim.Native.Nat.{ℕ, ◌<◌}
use native.Mathlib.Omega.{arith}
use lib.Dec.{eqb, ltb}
use borrow.Author.Tests.{eqb-true}
use Rattle.semantics.specs.Lists.{◌∈◌, null, within}
use Rattle.semantics.specs.Programs.{Clause}
use Rattle.semantics.proofs.Tests.{and_iff, not_iff, null_iff, within_iff}
use Rattle.rewriting.specs.Marked.{Marked, entry, left}
use Rattle.rewriting.specs.Steps.{step, condition, condition_holds, applies}
use Rattle.rewriting.specs.Kinds.{Kind, subsumed, uses_atom}
use Rattle.rewriting.specs.Reducer.{spares, passed_over, eligible}
use Rattle.rewriting.proofs.Rows.{kinds_spares}
use Rattle.rewriting.proofs.Equal.{null_within, Ascends, equal_within, passed_by, passed_iff, eligible_iff, eligible_ask, spares_partner}

within_trans : (k l m : List ℕ) → So (within k l) → So (within l m) → So (within k m)
within_trans k l m a b = (within_iff k m).1 (λ x y. (within_iff l m).0 b x ((within_iff k l).0 a x y))

-- what is nothing is within everything
within_null : (k l : List ℕ) → So (null k) → So (within k l)
within_null k l h = (within_iff k l).1 (λ x m. absurd (Memᴰ.not-nil (subst (λ j. x ∈ j) ((null_iff k).0 h) m)))

-- ---- two clauses, e within d

-- a target c that d serves as a partner e serves too
serves : (cs : List Clause) (c d e : Clause) → So (condition subsumed cs d e 0) → (k : Kind) → So (spares k) → So (condition k cs c d 0) → So (condition k cs c e 0)
unfolding condition
serves cs c d e y =
    let b = simp and_iff at y in
    kinds_spares (λ k. So (condition k cs c d 0) → So (condition k cs c e 0))
    (λ x. let a = simp (and_iff, null_iff) at x in
    (and_iff _ _).1 ((and_iff _ _).1 (null_within e.pos d.pos b.1.0 a.0.0, null_within e.neg d.neg b.1.1 a.0.1), within_trans e.head d.head c.neg b.0 a.1))
    (λ x. let a = simp and_iff at x in
    (and_iff _ _).1 (
      within_trans e.head d.head c.head b.0 a.0,
      (and_iff _ _).1 (within_trans e.pos d.pos c.pos b.1.0 a.1.0, within_trans e.neg d.neg c.neg b.1.1 a.1.1),
    ))

-- where d serves e itself, d is within e too
serves_back : (cs : List Clause) (d e : Clause) → So (condition subsumed cs d e 0) → (k : Kind) → So (spares k) → So (condition k cs e d 0) → So (condition subsumed cs e d 0)
unfolding condition
serves_back cs d e y =
    let b = simp and_iff at y in
    kinds_spares (λ k. So (condition k cs e d 0) → So (condition subsumed cs e d 0))
    (λ x. let a = simp (and_iff, null_iff) at x in
    let h = null_within d.head d.neg (within_trans d.head e.neg d.neg a.1 b.1.1) a.0.1 in
    (and_iff _ _).1 (within_null d.head e.head h, (and_iff _ _).1 (within_null d.pos e.pos ((null_iff _).1 a.0.0), within_null d.neg e.neg ((null_iff _).1 a.0.1))))
    (λ x. x)

-- ---- clause q stands before x and subsumes it

-- kinds 5 and 8 have no atom
spares_alone : (n : ℕ) (k : Kind) → So (spares k) → So (cond (uses_atom k) (ltb 0 n) (eqb 0 0))
spares_alone n = kinds_spares (λ k. So (cond (uses_atom k) (ltb 0 n) (eqb 0 0))) refl refl

module _ (n : ℕ) (P : Marked) (asc : (i : ℕ) → Ascends (entry P i).clause) (x q : ℕ) (less : q < x) (kept : So (entry P q).kept) (holds : So (condition subsumed (left P) (entry P x).clause (entry P q).clause 0))
    (k : Kind) (sp : So (spares k)) where
  -- a step with x at a clause before it that is equal to q is passed over
  both_passed : (t : ℕ) → t < x → (entry P t).clause ≡ (entry P q).clause → So (condition k (left P) (entry P t).clause (entry P x).clause 0) → So (passed_over P (step k t x 0))
  both_passed t l e h =
      let w = subst (λ c. So (condition subsumed (left P) (entry P x).clause c 0)) (sym e) holds in
      passed_by P (step k t x 0) sp l (equal_within (left P) (entry P t).clause (entry P x).clause 0 0 (asc t) (asc x) (serves_back (left P) (entry P x).clause (entry P t).clause w k sp h) w)

  -- What x serves as a partner, q does too; and no step with x is eligible at q itself.
  pub subsumer_eligible : (t : ℕ) → So (eligible n P (step k t x 0)) → So (eligible n P (step k t q 0))
  unfolding applies condition_holds
  subsumer_eligible t h =
      let w = eligible_ask n P (step k t x 0) h in
      let out = ((eligible_iff P (step k t x 0) n).0 h).1 in
      let other = (and_iff (entry P q).kept (not (eqb q t))).1 (kept, (not_iff _).1 (λ e. let d : t ≡ q = sym (eqb-true q t e) in out (both_passed t (omega arith) (subst (λ i. (entry P i).clause ≡ (entry P q).clause) (sym d) refl) w.2))) in
      (eligible_iff P (step k t q 0) n).1 (
        (and_iff _ _).1 (
          w.0,
          (and_iff _ _).1 (
            subst (λ b. So (cond b ((entry P q).kept && not (eqb q t)) (eqb q 0))) (sym (spares_partner k sp)) other,
            (and_iff _ _).1 (spares_alone n k sp, serves (left P) (entry P t).clause (entry P x).clause (entry P q).clause holds k sp w.2),
          ),
        ),
        λ o. let r = (passed_iff P (step k t q 0)).0 o in out (both_passed t (omega (arith, r.lower, less)) r.equal w.2),
      )
