-- A step of kinds 1 to 8 on the table with the guards keeps the stable models, within the context, of the clauses without them; and so does every list without kind 9.
use mathlib.Core.Path.{◌≡◌, refl, sym, subst}
use mathlib.Core.Logic.Iff
use mathlib.Core.Logic.{◌↔◌, by_cases}
use mathlib.Core.Bool.{Bool, true, false, cond, ◌||◌, So}
use mathlib.Core.List.Memᴰ
use mathlib.Core.List.{List, [], ◌∷◌, ◌++◌}
use Prim.Native.Nat.{ℕ}
use Rattle.semantics.specs.Lists.{◌∈◌}
use Rattle.semantics.specs.Programs.{Clause, Atoms, Subset}
use Rattle.semantics.proofs.Tests.{keep_iff, or_iff, or_left, so_dec, so_by}
use Rattle.semantics.proofs.Models.{All, Models, Same, same_sym}
use Rattle.rewriting.specs.Marked.{Marked, entry, left}
use Rattle.rewriting.specs.Reaches.{reach}
use Rattle.rewriting.specs.Steps.{Step, applies, effect}
use Rattle.rewriting.specs.Runs.{leaves, without_nine}
use Rattle.rewriting.specs.Kinds.{on_target}
use Rattle.rewriting.proofs.Left.{left_each}
use Rattle.rewriting.proofs.Reach.{reach_closed}
use Rattle.rewriting.proofs.Subclauses.{Subclause, below_same}
use Rattle.rewriting.proofs.Effect.{reach_fires, effect_below}
use Rattle.rewriting.proofs.BeforeNine.{without_nine_lem}
use Rattle.shell_choices.specs.Stable.{Context, StableIn}
use Rattle.shell_choices.specs.Translation.{OverClause}
use Rattle.shell_choices.proofs.Members.{in_iff}
use Rattle.shell_choices.proofs.Below.{agree_sym, models_agree, split, split_low, split_high, split_within}
use Rattle.shell_guards.specs.Guards.{HeadsIn, head_below, clauses_below}
use Rattle.shell_guards.proofs.Within.{same_in, in_within}
use Rattle.shell_guards.proofs.Steps.{step_same, reach_back, fact_pos}
use Rattle.shell_guards.proofs.Guards.{Guarded, head_high, head_before, guarded_step, heads_reached}

pub below_of : (n : ℕ) (ds : List Clause) (c : Clause) → (c ∈ clauses_below n ds) ↔ ((c ∈ ds) × So (head_below n c))
unfolding clauses_below
below_of n ds c = keep_iff (head_below n) ds c

-- the clauses without the guards are over n atoms
pub guarded_over : (n : ℕ) (H U : Atoms) (P : Marked) → Guarded n H U P → (c : Clause) → c ∈ clauses_below n (left P) → OverClause n c
guarded_over n H U P g c m = let w = (below_of n (left P) c).0 m in (left_each (λ c. So (head_below n c) → OverClause n c) P).1 g.over c w.0 w.1

-- ---- the guards are satisfied by the fresh atoms of the reach

module _ (n : ℕ) (R : Atoms) (ds : List Clause) (o : (c : Clause) → c ∈ clauses_below n ds → OverClause n c) (f : (c : Clause) → c ∈ ds → ¬ So (head_below n c) → All R c.head) where
  -- with the atoms of R from n on the clauses ask of a set what those with heads below n do
  models_below : (M X : Atoms) → Models (split n M R) (split n X R) ds ↔ Models M X (clauses_below n ds)
  models_below M X = (
    λ h. models_agree n (clauses_below n ds) (split n M R) M (split n X R) X o (split_low n M R) (split_low n X R) (λ c m. h c ((below_of n ds c).0 m).0),
    λ h c m. by_cases (so_dec (head_below n c))
        (λ k. models_agree n (clauses_below n ds) M (split n M R) X (split n X R) o (agree_sym n (split n M R) M (split_low n M R)) (agree_sym n (split n X R) X (split_low n X R)) h c ((below_of n ds c).1 (m, k)))
        (λ k g p. let w = head_high n c.head k in (w.0, w.1, subst So (sym (split_high n X R w.0 w.2)) (f c m k w.0 w.1))),
  )

-- the guards that stand in Q stood in P
guards_reached : (n : ℕ) (H U : Atoms) (P Q : Marked) → Guarded n H U P → ((i : ℕ) → Subclause (entry Q i) (entry P i))
    → (c : Clause) → c ∈ left Q → ¬ So (head_below n c) → All (reach (left P)) c.head
guards_reached n H U P Q g b = (left_each (λ c. ¬ So (head_below n c) → All (reach (left P)) c.head) Q).1 (λ i k x. subst (All (reach (left P))) (sym (b i).head)
    (reach_fires P i ((b i).kept k) (λ a m. absurd (fact_pos (entry P i).clause
    (g.other i ((b i).kept k) (λ y. x (subst So (sym (head_before n (entry Q i) (entry P i) (b i))) y))) a m))))

-- ---- a step

module _ (n : ℕ) (H U : Atoms) (sat : Context) (hi : HeadsIn H sat) where
  -- a stable model's atoms are in the reach, or in no body
  reached : (P : Marked) → Guarded n H U P → (M : Atoms) → StableIn n (clauses_below n (left P)) sat M → Subset M (λ a. reach (left P) a || U a)
  reached P g M st = in_within n sat H (λ a. reach (left P) a || U a) (clauses_below n (left P)) M hi
      (λ a q. (or_iff _ _).1 (λ x. so_by _ (λ y. x (heads_reached n H U P M M g ((in_iff n (clauses_below n (left P)) sat M).0 st).1 a q y))))
      (λ c m p a q. or_left _ _ (reach_closed (left P) c ((below_of n (left P) c).0 m).0
      (λ b k. so_by _ (λ x. bodies c ((below_of n (left P) c).0 m).0 b (Memᴰ.append_left c.neg k) ((or_iff _ _).0 (p b k) x))) a q)) st
    where
      bodies : (c : Clause) → c ∈ left P → (a : ℕ) → a ∈ c.pos ++ c.neg → ¬ So (U a)
      bodies = (left_each (λ c. (a : ℕ) → a ∈ c.pos ++ c.neg → ¬ So (U a)) P).1 g.bodies

  module _ (m : ℕ) (P : Marked) (g : Guarded n H U P) (s : Step) (h : So (applies m P s)) (on : So (on_target s.kind)) where
    abbrev Q : Marked
    Q = effect P s

    abbrev R : Atoms
    R = reach (left P)

    same_below : (M : Atoms) → Subset M (λ a. R a || U a) → Same M (clauses_below n (left P)) (clauses_below n (left Q))
    same_below M sub X part = Iff.trans
        (Iff.symm (models_below n R (left P) (guarded_over n H U P g) (guards_reached n H U P P g (λ i. below_same refl)) M X))
        (Iff.trans
        (step_same m P s h on U g.bodies (split n M R) (split_within n M R (λ a. R a || U a) (λ a l q. sub a q) (λ a l q. or_left _ _ q)) (split n X R) more)
        (models_below n R (left Q) (guarded_over n H U Q (guarded_step m P s h on n H U g)) (guards_reached n H U P Q g (effect_below m P s h on)) M X))
      where
        more : Subset (split n X R) (split n M R)
        more = split_within n X R (split n M R)
            (λ a l q. subst So (sym (split_low n M R a l)) (part a q)) (λ a l q. subst So (sym (split_high n M R a l)) q)

    back : (a : ℕ) → So (reach (left Q) a || U a) → So (R a || U a)
    back a y = (or_iff _ _).1 (λ x. (or_iff _ _).0 y (λ r. x (reach_back m P s h on a r)))

    -- An applicable step of kinds 1 to 8, whatever its target, keeps the stable models of the clauses without the guards, within the context.
    pub step_in : (M : Atoms) → StableIn n (clauses_below n (left P)) sat M ↔ StableIn n (clauses_below n (left Q)) sat M
    step_in M = (
      λ st. same_in n sat (clauses_below n (left P)) (clauses_below n (left Q)) M (same_below M (reached P g M st)) st,
      λ st. same_in n sat (clauses_below n (left Q)) (clauses_below n (left P)) M
          (same_sym (same_below M (λ a y. back a (reached Q (guarded_step m P s h on n H U g) M st a y)))) st,
    )

  -- Every list of steps without kind 9 keeps them, up to the first step that is refused.
  pub list_in : (m : ℕ) (P : Marked) (l : List Step) → So (without_nine l) → Guarded n H U P → (M : Atoms)
      → StableIn n (clauses_below n (left P)) sat M ↔ StableIn n (clauses_below n (left (leaves m P l))) sat M
  unfolding leaves
  list_in m P [] w g M = Iff.rfl
  list_in m P (s ∷ l) w g M = let v = without_nine_lem s l w in go v.0 (applies m P s) refl (λ k. list_in m (effect P s) l v.1 k M)
    where
      go : So (on_target s.kind) → (t : Bool) → applies m P s ≡ t
          → (Guarded n H U (effect P s) → StableIn n (clauses_below n (left (effect P s))) sat M ↔ StableIn n (clauses_below n (left (leaves m (effect P s) l))) sat M)
          → StableIn n (clauses_below n (left P)) sat M ↔ StableIn n (clauses_below n (left (cond t (leaves m (effect P s) l) P))) sat M
      go o true e r = Iff.trans (step_in m P g s e o M) (r (guarded_step m P s e o n H U g))
      go o false e r = Iff.rfl
