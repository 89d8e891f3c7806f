-- Kind 9 keeps the stable models: no stable model of either program has the atom, and below a set without it the models are the same. And it takes at least one from
-- kept clauses plus literals, one for each kept clause in which the atom occurs.
use mathlib.Core.Path.{◌≡◌, refl, sym, subst}
use mathlib.Core.Logic.{◌↔◌, ◌≢◌}
use mathlib.Core.Bool.{Bool, true, false, So, false≢true}
use mathlib.Core.List.Memᴰ
use mathlib.Core.List.{List, [], ◌∷◌}
use Prim.Native.Nat.{ℕ, zero, suc}
use lib.ListN.{length}
use Rattle.semantics.specs.Lists.{◌∈◌, any, null, single, keep, mem, without}
use Rattle.semantics.specs.Programs.{Clause, Atoms, Stable, program}
use Rattle.semantics.proofs.Tests.{and_iff, all_iff, mem_iff, null_iff, keep_iff, not_so, without_sub, without_keeps, without_out}
use Rattle.semantics.proofs.Models.{All, Any, Models, Same, same_stable, same_sym, stable_iff, stable_within, Closed}
use Rattle.rewriting.specs.Marked.{Entry, Marked, entry, left, deleted}
use Rattle.rewriting.specs.Consequences.{definite, consequences}
use Rattle.rewriting.specs.Exclusion.{plain_constraint, occurs, excludes, lacking_of, removal}
use Rattle.rewriting.proofs.Left.{left_each, HoldsAt, models_left}
use Rattle.rewriting.proofs.Reach.{all_but, others_closed, others_not, in_no_head_iff}
use Rattle.rewriting.proofs.Consequences.{consequences_least, consequences_within}

-- ---- what is left, by the clauses' numbers

pub entry_removal : (a : ℕ) (P : Marked) (i : ℕ) → entry (removal a P) i ≡ lacking_of a (entry P i)
unfolding removal
entry_removal a [] i = refl
entry_removal a (e ∷ P) zero = refl
entry_removal a (e ∷ P) (suc i) = entry_removal a P i

pub length_removal : (a : ℕ) (P : Marked) → length (removal a P) ≡ length P
unfolding removal
length_removal a [] = refl
length_removal a (e ∷ P) = rw (length_removal a P)

-- an entry without the atom: it was kept, and has the atom in none of its parts
pub record Lacks (a : ℕ) (d e : Entry) : Type 0 where
  pub kept : So e.kept
  pub body_free : ¬ (a ∈ e.clause.pos)
  pub head : d.clause.head ≡ without a e.clause.head
  pub pos : d.clause.pos ≡ e.clause.pos
  pub neg : d.clause.neg ≡ without a e.clause.neg

pub lacks : (a : ℕ) (e : Entry) → So (lacking_of a e).kept → Lacks a (lacking_of a e) e
lacks a e = go e.kept (mem a e.clause.pos) refl refl
  where
    go : (k t : Bool) → e.kept ≡ k → mem a e.clause.pos ≡ t → So (lacking_of a e).kept → Lacks a (lacking_of a e) e
    go true true q r h = absurd (false≢true (rw (q, r) at h))
    go true false q r h = rw (q, r) (record { kept = refl; body_free = λ m. not_so r ((mem_iff _ _).1 m); head = refl; pos = refl; neg = refl })
    go false t q r h = absurd (false≢true (rw q at h))

-- a kept clause without the atom in its positive body stays
pub stays : (a : ℕ) (e : Entry) → So e.kept → ¬ (a ∈ e.clause.pos) → So (lacking_of a e).kept
stays a e k f = go (mem a e.clause.pos) refl
  where
    go : (t : Bool) → mem a e.clause.pos ≡ t → So (lacking_of a e).kept
    go true r = absurd (f ((mem_iff _ _).0 r))
    go false r = rw (k, r) refl

-- and one with it there is deleted
pub goes : (a : ℕ) (e : Entry) → So e.kept → a ∈ e.clause.pos → lacking_of a e ≡ deleted e.clause
goes a e k m = rw (k, (mem_iff _ _).1 m)

-- ---- below a set without the atom

module _ (M X : Atoms) (sub : (a : ℕ) → So (X a) → So (M a)) (a : ℕ) (o : ¬ So (M a)) (e : Entry) where
  other : (b : ℕ) → So (M b) → b ≢ a
  other b h z = o (subst (λ x. So (M x)) z h)

  holds_on : HoldsAt M X e → HoldsAt M X (lacking_of a e)
  holds_on h k g p =
      let w = lacks a e k in
      let v = h w.kept (λ y. g (y.0, subst (λ l. y.0 ∈ l) (sym w.neg) (without_keeps _ _ _ y.1 (other _ y.2)), y.2)) (λ b m. p b (subst (λ l. b ∈ l) (sym w.pos) m)) in
      (v.0, subst (λ l. v.0 ∈ l) (sym w.head) (without_keeps _ _ _ v.1 (other _ (sub _ v.2))), v.2)

  holds_back : HoldsAt M X (lacking_of a e) → HoldsAt M X e
  holds_back h k g p =
      let s = stays a e k (λ m. o (sub a (p a m))) in
      let w = lacks a e s in
      let v = h s (λ y. g (y.0, without_sub _ _ _ (subst (λ l. y.0 ∈ l) w.neg y.1), y.2)) (λ b m. p b (subst (λ l. b ∈ l) w.pos m)) in
      (v.0, without_sub _ _ _ (subst (λ l. v.0 ∈ l) w.head v.1), v.2)

-- Below a set without the atom nothing changes.
pub same_removal : (M : Atoms) (a : ℕ) → ¬ So (M a) → (P : Marked) → Same M (left P) (left (removal a P))
same_removal M a o P X sub = (
  λ h. (models_left M X (removal a P)).1 (λ i. subst (HoldsAt M X) (sym (entry_removal a P i)) (holds_on M X sub a o (entry P i) ((models_left M X P).0 h i))),
  λ h. (models_left M X P).1 (λ i. holds_back M X sub a o (entry P i) (subst (HoldsAt M X) (entry_removal a P i) ((models_left M X (removal a P)).0 h i))),
)

-- ---- no stable model has the atom

null_none : (X : Atoms) (l : List ℕ) → So (null l) → ¬ Any X l
null_none X l h w = Memᴰ.not-nil (subst (λ k. w.0 ∈ k) ((null_iff l).0 h) w.1)

-- one of one is all
single_all : (X : Atoms) (l : List ℕ) → So (single (λ _. true) l) → Any X l → All X l
single_all X [] h w b m = absurd (false≢true h)
single_all X (x ∷ []) h w b m = rw (Memᴰ.eq_of_singleton m, ← Memᴰ.eq_of_singleton w.1) w.2
single_all X (x ∷ y ∷ l) h w b m = absurd (false≢true h)

-- what kind 9 asks
pub record Excludes (cs : List Clause) (c : Clause) (a : ℕ) : Type 0 where
  pub constraint : So (plain_constraint c)
  pub there : So (any (occurs a) cs)
  pub follows : All (consequences cs a) c.pos

pub excludes_iff : (cs : List Clause) (c : Clause) (a : ℕ) → So (excludes cs c a) ↔ Excludes cs c a
unfolding excludes
excludes_iff cs c a = (
  λ h. let w = (and_iff (plain_constraint c) _).0 h in let v = (and_iff (any (occurs a) cs) _).0 w.1 in record { constraint = w.0; there = v.0; follows = (all_iff _ _).0 v.1 },
  λ w. (and_iff (plain_constraint c) _).1 (w.constraint, (and_iff (any (occurs a) cs) _).1 (w.there, (all_iff _ _).1 w.follows)),
)

-- A set that models the clauses and has the atom has all its consequences, and so breaks the constraint.
pub model_out : (M : Atoms) (cs : List Clause) (c : Clause) (a : ℕ) → c ∈ cs → So (excludes cs c a) → Models M M cs → ¬ So (M a)
model_out M cs c a m h f s =
    let w = (excludes_iff cs c a).0 h in
    let x = (and_iff (null c.head) _).0 w.constraint in
    null_none M c.head x.0 (f c m (null_none M c.neg ((and_iff (null c.neg) _).0 x.1).0) (λ b k. consequences_least M cs a s one_head b (w.follows b k)))
  where
    one_head : Closed M (keep definite cs)
    one_head d k p =
        let (q, t) = (keep_iff definite cs d).0 k in let u = (and_iff _ _).0 t in
        single_all M d.head u.0 (f d q (null_none M d.neg u.1) p)

-- the atom is in no head any more
removal_closed : (a : ℕ) (P : Marked) → Closed (all_but a) (left (removal a P))
removal_closed a P = others_closed (left (removal a P)) a ((in_no_head_iff _ _).1 ((left_each (λ c. ¬ (a ∈ c.head)) (removal a P)).1
    (λ i k m. let e = entry_removal a P i in without_out a (entry P i).clause.head (subst (λ l. a ∈ l) (lacks a (entry P i) (subst (λ d. So d.kept) e k)).head (subst (λ d. a ∈ d.clause.head) e m)))))

-- Kind 9 keeps the stable models.
pub removal_sound : (n : ℕ) (P : Marked) (t a : ℕ) → So (entry P t).kept → So (excludes (left P) (entry P t).clause a) → (M : Atoms) → Stable (program n (left P)) M ↔ Stable (program n (left (removal a P))) M
removal_sound n P t a k h M = (
  λ s. same_stable _ _ _ _ (same_removal M a (model_out M (left P) (entry P t).clause a ((left_each (λ c. c ∈ left P) P).0 (λ c m. m) t k) h ((stable_iff _ _).0 s).1) P) s,
  λ s. same_stable _ _ _ _ (same_sym (same_removal M a (λ x. others_not a (stable_within (program n (left (removal a P))) M (all_but a) (removal_closed a P) s a x)) P)) s,
)

-- ---- the search by atoms

-- Where a constraint excludes a consequence of an atom that occurs, it excludes the atom.
pub excludes_within : (cs : List Clause) (c : Clause) (a b : ℕ) → So (any (occurs a) cs) → So (consequences cs a b) → So (excludes cs c b) → So (excludes cs c a)
excludes_within cs c a b o h x = let w = (excludes_iff cs c b).0 x in
    (excludes_iff cs c a).1 (record { constraint = w.constraint; there = o; follows = λ d m. consequences_within cs a b h d (w.follows d m) })
