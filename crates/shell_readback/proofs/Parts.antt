-- What a list of the nine kinds leaves of a clause: head atoms of it, in their order, and no other body atoms.
use mathlib.Core.Path.{◌≡◌, refl, sym, ap, subst, ◌∙◌}
use mathlib.Core.Logic.{by_cases}
use mathlib.Core.Bool.{Bool, true, false, not, cond, ◌&&◌, So}
use mathlib.Core.List.{List, [], ◌∷◌}
use Prim.Native.Nat.{ℕ}
use lib.Dec.{eqb}
use Rattle.semantics.specs.Lists.{◌∈◌, keep, without}
use Rattle.semantics.specs.Programs.{Atoms}
use Rattle.semantics.proofs.Tests.{without_sub, so_dec, so_false}
use Rattle.rewriting.specs.Marked.{Entry, Marked, entry}
use Rattle.rewriting.specs.Exclusion.{lacking_of, removal}
use Rattle.rewriting.specs.Kinds.{on_target}
use Rattle.rewriting.specs.Steps.{Step, applies, effect}
use Rattle.rewriting.specs.Runs.{leaves}
use Rattle.rewriting.proofs.Exclusion.{lacks, entry_removal}
use Rattle.rewriting.proofs.Effect.{effect_off, effect_below}

-- d is what is left of c: some test tells which head atoms
pub record Part (d c : Entry) : Type 0 where
  pub kept : So c.kept
  pub test : Atoms
  pub head : d.clause.head ≡ keep test c.clause.head
  pub pos : (a : ℕ) → a ∈ d.clause.pos → a ∈ c.clause.pos
  pub neg : (a : ℕ) → a ∈ d.clause.neg → a ∈ c.clause.neg

-- each clause that Q keeps is what is left of that of P
abbrev pub Shrunk : Marked → Marked → Type 0
Shrunk Q P = (i : ℕ) → So (entry Q i).kept → Part (entry Q i) (entry P i)

-- ---- heads

keep_all : (l : List ℕ) → keep (λ a. true) l ≡ l
keep_all [] = refl
keep_all (x ∷ l) = rw (keep_all l)

keep_twice : (f g : Atoms) (l : List ℕ) → keep f (keep g l) ≡ keep (λ a. g a && f a) l
keep_twice f g [] = refl
keep_twice f g (x ∷ l) = go (g x) refl (keep_twice f g l)
  where
    go : (t : Bool) → g x ≡ t → keep f (keep g l) ≡ keep (λ a. g a && f a) l → keep f (cond t (x ∷ keep g l) (keep g l)) ≡ cond (t && f x) (x ∷ keep (λ a. g a && f a) l) (keep (λ a. g a && f a) l)
    go true e r = ap (λ k. cond (f x) (x ∷ k) k) r
    go false e r = r

without_keep : (a : ℕ) (l : List ℕ) → without a l ≡ keep (λ x. not (eqb a x)) l
without_keep a [] = refl
without_keep a (x ∷ l) = go (eqb a x) (without_keep a l)
  where
    go : (t : Bool) → without a l ≡ keep (λ x. not (eqb a x)) l → cond t (without a l) (x ∷ without a l) ≡ cond (not t) (x ∷ keep (λ x. not (eqb a x)) l) (keep (λ x. not (eqb a x)) l)
    go true r = r
    go false r = ap (λ k. x ∷ k) r

-- ---- steps

part_trans : {e d c : Entry} → Part e d → Part d c → Part e c
part_trans {c = c} x y = record {
  kept = y.kept;
  test = λ a. y.test a && x.test a;
  head = x.head ∙ (ap (keep x.test) y.head ∙ keep_twice x.test y.test c.clause.head);
  pos = λ a m. y.pos a (x.pos a m);
  neg = λ a m. y.neg a (x.neg a m);
}

pub shrunk_same : (P : Marked) → Shrunk P P
shrunk_same P i k = record { kept = k; test = λ a. true; head = sym (keep_all (entry P i).clause.head); pos = λ a m. m; neg = λ a m. m }

shrunk_trans : (R Q P : Marked) → Shrunk R Q → Shrunk Q P → Shrunk R P
shrunk_trans R Q P f g i k = let x = f i k in part_trans x (g i x.kept)

-- kind 9 takes the atom out of heads and negative bodies
shrunk_removal : (a : ℕ) (P : Marked) → Shrunk (removal a P) P
shrunk_removal a P i k = subst (λ d. So d.kept → Part d (entry P i)) (sym (entry_removal a P i)) one k
  where
    one : So (lacking_of a (entry P i)).kept → Part (lacking_of a (entry P i)) (entry P i)
    one h = let w = lacks a (entry P i) h in record {
      kept = w.kept;
      test = λ x. not (eqb a x);
      head = w.head ∙ without_keep a (entry P i).clause.head;
      pos = λ b m. subst (λ l. b ∈ l) w.pos m;
      neg = λ b m. without_sub a b (entry P i).clause.neg (subst (λ l. b ∈ l) w.neg m);
    }

pub shrunk_step : (m : ℕ) (P : Marked) (s : Step) → So (applies m P s) → Shrunk (effect P s) P
shrunk_step m P s h = by_cases (so_dec (on_target s.kind))
    (λ o i k. let b = effect_below m P s h o i in record {
      kept = b.kept k;
      test = λ a. true;
      head = b.head ∙ sym (keep_all (entry P i).clause.head);
      pos = b.pos;
      neg = b.neg;
    })
    (λ o. subst (λ Q. Shrunk Q P) (sym (effect_off P s (so_false _ o))) (shrunk_removal s.atom P))

-- A list of steps of the nine kinds leaves parts of the clauses, up to the first step that is refused.
pub shrunk_list : (m : ℕ) (P : Marked) (l : List Step) → Shrunk (leaves m P l) P
unfolding leaves
shrunk_list m P [] = shrunk_same P
shrunk_list m P (s ∷ l) = go (applies m P s) refl (shrunk_list m (effect P s) l)
  where
    go : (t : Bool) → applies m P s ≡ t → Shrunk (leaves m (effect P s) l) (effect P s) → Shrunk (cond t (leaves m (effect P s) l) P) P
    go true e r = shrunk_trans (leaves m (effect P s) l) (effect P s) P r (shrunk_step m P s e)
    go false e r = shrunk_same P
