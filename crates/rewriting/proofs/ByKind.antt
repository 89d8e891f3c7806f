-- The steps at the clause that they change. Kinds 1, 2, 3, 5 and 8 keep the models below every M; 4, 6 and 7 below an M without the atom.
use mathlib.Core.Path.{◌≡◌, subst}
use mathlib.Core.Logic.{◌≢◌, by_cases}
use mathlib.Core.Bool.{So, false≢true}
use mathlib.Core.List.Memᴰ
use mathlib.Core.List.{[], ◌∷◌}
use Prim.Native.Nat.{ℕ}
use native.Mathlib.Decide.{ℕ_discrete}
use lib.ListN.{set}
use lib.Seq.{get_or-set_other}
use Rattle.semantics.specs.Lists.{◌∈◌}
use Rattle.semantics.specs.Programs.{Clause, Atoms, Subset}
use Rattle.semantics.proofs.Tests.{without_sub, without_keeps}
use Rattle.semantics.proofs.Models.{Same}
use Rattle.rewriting.specs.Marked.{Entry, Marked, gone, entry, left, deleted}
use Rattle.rewriting.specs.Steps.{drop_pos, drop_neg}
use Rattle.rewriting.proofs.Left.{each_set, each_unset, set_kept, HoldsAt, ModelsAt, models_left}

-- two directions, at the clause that a step changes
same_set : (M : Atoms) (P : Marked) (t : ℕ) (e : Entry)
    → ((X : Atoms) → Subset X M → ModelsAt M X P → HoldsAt M X e)
    → ((X : Atoms) → Subset X M → ModelsAt M X (set P t e) → HoldsAt M X (entry P t))
    → Same M (left P) (left (set P t e))
same_set M P t e to from X sub = (
  λ h. let a = (models_left M X P).0 h in (models_left M X (set P t e)).1 (each_set (HoldsAt M X) P t e (to X sub a) a),
  λ h. let a = (models_left M X (set P t e)).0 h in (models_left M X P).1 (each_unset (HoldsAt M X) P t e (from X sub a) a),
)

-- the partner is as it was
other : (M X : Atoms) (P : Marked) (t p : ℕ) (e : Entry) → p ≢ t → ModelsAt M X (set P t e) → HoldsAt M X (entry P p)
other M X P t p e d h = subst (HoldsAt M X) (get_or-set_other P t p e gone d) (h p)

-- the target as the step leaves it
target : (M X : Atoms) (P : Marked) (t : ℕ) (e : Entry) → So (entry P t).kept → ModelsAt M X (set P t e) → HoldsAt M X e
target M X P t e k h = subst (HoldsAt M X) (set_kept P t e k) (h t)

module _ (M : Atoms) (P : Marked) (t : ℕ) where
  abbrev the : Clause
  the = (entry P t).clause

  abbrev Deleted : Type 0
  Deleted = Same M (left P) (left (set P t (deleted the)))

  -- to delete the target: it holds wherever the rest does
  same_delete : ((X : Atoms) → Subset X M → ModelsAt M X (set P t (deleted the)) → HoldsAt M X (entry P t)) → Deleted
  same_delete from = same_set M P t (deleted the) (λ X _ _ k. absurd (false≢true k)) from

  pub same_tautology : (a : ℕ) → a ∈ the.head → a ∈ the.pos → Deleted
  same_tautology a h q = same_delete (λ X sub r k g p. (a, h, p a q))

  pub same_contradiction : (a : ℕ) → a ∈ the.pos → a ∈ the.neg → Deleted
  same_contradiction a q m = same_delete (λ X sub r k g p. absurd (g (a, m, sub a (p a q))))

  -- an atom outside M
  pub same_outside : (a : ℕ) → ¬ So (M a) → a ∈ the.pos → Deleted
  same_outside a o q = same_delete (λ X sub r k g p. absurd (o (sub a (p a q))))

  pub same_drop_neg : (a : ℕ) → So (entry P t).kept → ¬ So (M a) → Same M (left P) (left (set P t (drop_neg a the)))
  same_drop_neg a kt o = same_set M P t (drop_neg a the)
      (λ X sub r k g p. r t kt (λ w. g (w.0, without_keeps _ _ _ w.1 (λ e. o (subst (λ b. So (M b)) e w.2)), w.2)) p)
      (λ X sub r k g p. target M X P t (drop_neg a the) k r mathlib.Core.Path.refl (λ w. g (w.0, without_sub _ _ _ w.1, w.2)) p)

  module _ (p : ℕ) (p≢t : p ≢ t) (kept : So (entry P p).kept) where
    abbrev by : Clause
    by = (entry P p).clause

    pub same_blocked : by.pos ≡ [] → by.neg ≡ [] → ((a : ℕ) → a ∈ by.head → a ∈ the.neg) → Deleted
    same_blocked e f h = same_delete (λ X sub r k g q.
        let w = other M X P t p (deleted the) p≢t r kept (λ v. Memᴰ.not-nil (rw f at v.1)) (λ a m. absurd (Memᴰ.not-nil (rw e at m))) in
        absurd (g (w.0, h w.0 w.1, sub w.0 w.2)))

    pub same_subsumed : ((a : ℕ) → a ∈ by.head → a ∈ the.head) → ((a : ℕ) → a ∈ by.pos → a ∈ the.pos)
        → ((a : ℕ) → a ∈ by.neg → a ∈ the.neg) → Deleted
    same_subsumed h e f = same_delete (λ X sub r k g q.
        let w = other M X P t p (deleted the) p≢t r kept (λ v. g (v.0, f v.0 v.1, v.2)) (λ a m. q a (e a m)) in
        (w.0, h w.0 w.1, w.2))

    pub same_success : (b : ℕ) → So (entry P t).kept → by.pos ≡ [] → by.neg ≡ [] → by.head ≡ b ∷ [] → Same M (left P) (left (set P t (drop_pos b the)))
    same_success b kt e f h = same_set M P t (drop_pos b the)
        (λ X sub r k g q.
        let w = r p kept (λ v. Memᴰ.not-nil (rw f at v.1)) (λ a m. absurd (Memᴰ.not-nil (rw e at m))) in
        let x : So (X b) = subst (λ a. So (X a)) (Memᴰ.eq_of_singleton (rw h at w.1)) w.2 in
        r t kt g (λ a m. by_cases (ℕ_discrete a b) (λ y. rw y x) (λ y. q a (without_keeps _ _ _ m y))))
        (λ X sub r k g q. target M X P t (drop_pos b the) k r mathlib.Core.Path.refl g (λ a m. q a (without_sub _ _ _ m)))
