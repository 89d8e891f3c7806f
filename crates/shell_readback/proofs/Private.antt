-- Clauses "fresh <- body" whose fresh atoms nothing else mentions may be left out: restricted to the other atoms, the stable models are the same, each once.
use mathlib.Core.Path.{◌≡◌, refl, sym, ap, subst, ◌∙◌, fun_ext}
use mathlib.Core.Logic.{◌↔◌, by_cases}
use mathlib.Core.Bool.{Bool, not, ◌&&◌, So}
use mathlib.Core.List.Memᴰ
use mathlib.Core.List.{List, [], ◌∷◌}
use Prim.Native.Nat.{ℕ, ◌≤◌, ◌<◌}
use native.Mathlib.Omega.{arith}
use Rattle.semantics.specs.Lists.{◌∈◌, any, all, mem}
use Rattle.semantics.specs.Programs.{Clause, Atoms, Subset, Stable, program}
use Rattle.semantics.proofs.Tests.{and_iff, not_iff, all_iff, any_iff, mem_iff, so_dec, so_ext}
use Rattle.semantics.proofs.Models.{All, Any, Models, models_iff, stable_iff}
use Rattle.shell_choices.specs.Translation.{Exact}
use Rattle.shell_choices.proofs.Members.{any_one, in_iff, free_iff}
use Rattle.shell_choices.proofs.Below.{AgreeBelow, agree_restrict}
use Rattle.shell_guards.specs.Contexts.{Clauses}
use Rattle.shell_guards.proofs.Contexts.{clauses_heads}
use Rattle.shell_readback.specs.Beside.{Apart}
use Rattle.shell_readback.proofs.Apart.{join, join_on, join_off, join_within, off, off_iff, AgreeOff, agree_off_sym, NoneOf, all_off, any_off, models_off, part_off}

-- "fresh <- body" with a fresh atom of G, below top, and no atom of G in its body
pub record Private (top : ℕ) (G : Atoms) (c : Clause) : Type 0 where
  pub fresh : ℕ
  pub head : c.head ≡ fresh ∷ []
  pub own : So (G fresh)
  pub high : fresh < top
  pub pos : NoneOf G c.pos
  pub neg : NoneOf G c.neg

-- ---- the fresh atoms of the clauses whose bodies hold

abbrev holds : Atoms → Clause → Bool
holds N c = all N c.pos && not (any N c.neg)

unfoldable fired : List Clause → Atoms → Atoms
fired fs N a = any (λ c. mem a c.head && holds N c) fs

fired_iff : (fs : List Clause) (N : Atoms) (a : ℕ) → So (fired fs N a) ↔ ((c : Clause) × (c ∈ fs) × (a ∈ c.head) × All N c.pos × (¬ Any N c.neg))
unfolding fired
fired_iff fs N a = (
  λ h. let w = (any_iff test fs).0 h in let v = (and_iff (mem a w.0.head) (holds N w.0)).0 w.2 in let u = (and_iff (all N w.0.pos) _).0 v.1 in
      (w.0, w.1, (mem_iff _ _).0 v.0, (all_iff N _).0 u.0, λ y. (not_iff _).0 u.1 ((any_iff N _).1 y)),
  λ h. (any_iff test fs).1 (
    h.0,
    h.1,
    (and_iff (mem a h.0.head) (holds N h.0)).1
        ((mem_iff _ _).1 h.2, (and_iff (all N h.0.pos) _).1 ((all_iff N _).1 h.3, (not_iff _).1 (λ y. h.4 ((any_iff N _).0 y)))),
  ),
)
  where
    test : Clause → Bool
    test c = mem a c.head && holds N c

-- ds is es, without atoms of G, and fs, which define the atoms of G
module _ (n top : ℕ) (G : Atoms) (ds es fs : List Clause) (splits : (M X : Atoms) → Models M X ds ↔ (Models M X es × Models M X fs))
    (apart : (c : Clause) → c ∈ es → Apart G c) (private : (c : Clause) → c ∈ fs → Private top G c) (low : (a : ℕ) → So (G a) → n ≤ a) where
  -- a set with the atoms that are defined from it
  abbrev grown : Atoms → Atoms
  grown N = join G (fired fs N) N

  grown_off : (N : Atoms) → AgreeOff G N (grown N)
  grown_off N a h = sym (join_off G (fired fs N) N a h)

  off_agree : (M : Atoms) → AgreeOff G (off G M) M
  off_agree M a h = join_off G _ M a h

  -- the one head atom
  is_fresh : (c : Clause) (m : c ∈ fs) (X : Atoms) (a : ℕ) → a ∈ c.head → Any X c.head → So (X a)
  is_fresh c m X a q w = go (private c m).head
    where
      go : c.head ≡ (private c m).fresh ∷ [] → So (X a)
      go e = subst (λ x. So (X x)) (sym (Memᴰ.eq_of_singleton (subst (λ l. a ∈ l) e q))) (any_one X (private c m).fresh (subst (Any X) e w))

  fresh_in : (c : Clause) (m : c ∈ fs) → (private c m).fresh ∈ c.head
  fresh_in c m = let w = private c m in subst (λ l. w.fresh ∈ l) (sym w.head) (Memᴰ.head refl)

  -- Where N models es, the grown set models all, by the reduct of any set that is N off G.
  grown_models : (N M : Atoms) → AgreeOff G N M → Models N N es → Models M (grown N) ds
  grown_models N M e h = (splits M (grown N)).1 (
    models_off G es apart N M N (grown N) e (grown_off N) h,
    λ c m g p. let w = private c m in (
      w.fresh,
      fresh_in c m,
      subst So (sym (join_on G (fired fs N) N w.fresh w.own)) ((fired_iff fs N w.fresh).1 (
        c,
        m,
        fresh_in c m,
        all_off G (grown N) N c.pos w.pos (agree_off_sym G N (grown N) (grown_off N)) p,
        λ y. g (any_off G N M c.neg w.neg e y),
      )),
    ),
  )

  -- a stable model grows to one
  grown_stable : (N : Atoms) → Stable (program top es) N → Stable (program top ds) (grown N)
  grown_stable N s = (stable_iff (program top ds) (grown N)).1 (
    bound,
    grown_models N (grown N) (grown_off N) z.1,
    λ X sub h. let w = (splits (grown N) X).0 h in whole X (old X sub w.0) w.1,
  )
    where
      z : ((a : ℕ) → So (N a) → a < top) × Models N N es × ((X : Atoms) → Subset X N → Models N X es → Subset N X)
      z = (stable_iff (program top es) N).0 s

      bound : (a : ℕ) → So (grown N a) → a < top
      bound a h = by_cases (so_dec (G a))
          (λ y. let w = (fired_iff fs N a).0 (subst So (join_on G (fired fs N) N a y) h) in let p = private w.0 w.1 in
          omega (arith, p.high, Memᴰ.eq_of_singleton (subst (λ l. a ∈ l) p.head w.2)))
          (λ y. z.0 a (subst So (join_off G (fired fs N) N a y) h))

      old : (X : Atoms) → Subset X (grown N) → Models (grown N) X es → Subset N X
      old X sub h a m = ((off_iff G X a).0 (z.2 (off G X)
          (λ b q. let v = (off_iff G X b).0 q in subst So (join_off G (fired fs N) N b v.0) (sub b v.1))
          (models_off G es apart (grown N) N X (off G X) (agree_off_sym G N (grown N) (grown_off N)) (agree_off_sym G (off G X) X (off_agree X)) h) a m)).1

      whole : (X : Atoms) → Subset N X → Models (grown N) X fs → Subset (grown N) X
      whole X f h = join_within G (fired fs N) N X
          (λ a y q. let w = (fired_iff fs N a).0 q in is_fresh w.0 w.1 X a w.2 (h w.0 w.1
          (λ u. w.4 (any_off G (grown N) N w.0.neg (private w.0 w.1).neg (agree_off_sym G N (grown N) (grown_off N)) u)) (λ b r. f b (w.3 b r))))
          (λ a y q. f a q)

  -- and a stable model is grown from one
  part_stable : (M : Atoms) → Stable (program top ds) M → Stable (program top es) (off G M)
  part_stable M s = (free_iff top es (off G M)).0 (part_off top es [] G apart (λ k m. absurd (Memᴰ.not-nil m)) (Clauses fs)
      (clauses_heads G fs (λ c m a q. let w = private c m in subst (λ x. So (G x)) (sym (Memᴰ.eq_of_singleton (subst (λ l. a ∈ l) w.head q))) w.own)) M
      ((in_iff top es (Clauses fs) M).1 (z.0, ((splits M M).0 z.1).0, (models_iff M M fs).1 ((splits M M).0 z.1).1, λ X sub h k. z.2 X sub ((splits M X).1 (h, (models_iff M X fs).0 k)))))
    where
      z : ((a : ℕ) → So (M a) → a < top) × Models M M ds × ((X : Atoms) → Subset X M → Models M X ds → Subset M X)
      z = (stable_iff (program top ds) M).0 s

  forced : (M : Atoms) → Stable (program top ds) M → M ≡ grown (off G M)
  forced M s = fun_ext (λ a. so_ext (M a) (grown (off G M) a)
      (z.2 (grown (off G M)) sub (grown_models (off G M) M (off_agree M) ((stable_iff (program top es) (off G M)).0 (part_stable M s)).1) a) (sub a))
    where
      z : ((a : ℕ) → So (M a) → a < top) × Models M M ds × ((X : Atoms) → Subset X M → Models M X ds → Subset M X)
      z = (stable_iff (program top ds) M).0 s

      sub : Subset (grown (off G M)) M
      sub = join_within G (fired fs (off G M)) (off G M) M
          (λ a y q. let w = (fired_iff fs (off G M) a).0 q in is_fresh w.0 w.1 M a w.2 (((splits M M).0 z.1).1 w.0 w.1
          (λ u. w.4 (any_off G M (off G M) w.0.neg (private w.0 w.1).neg (agree_off_sym G (off G M) M (off_agree M)) u)) (λ b r. ((off_iff G M b).0 (w.3 b r)).1)))
          (λ a y q. ((off_iff G M a).0 q).1)

  below_off : (M : Atoms) → AgreeBelow n (off G M) M
  below_off M a l = off_agree M a (λ y. omega (arith, low a y))

  below_grown : (N : Atoms) → AgreeBelow n (grown N) N
  below_grown N a l = join_off G (fired fs N) N a (λ y. omega (arith, low a y))

  -- What is exact without the definitions is exact with them.
  pub private_exact : (B : Atoms → Type 0) → Exact n (Stable (program top es)) B → Exact n (Stable (program top ds)) B
  private_exact B e = record {
    into = λ M s. subst B (agree_restrict n (off G M) M (below_off M)) (e.into (off G M) (part_stable M s));
    onto = λ M h. let w = e.onto M h in (grown w.0, grown_stable w.0 w.1, agree_restrict n (grown w.0) w.0 (below_grown w.0) ∙ w.2);
    once = λ M N s t q. forced M s ∙ (ap grown (e.once (off G M) (off G N) (part_stable M s) (part_stable N t)
        (agree_restrict n (off G M) M (below_off M) ∙ (q ∙ sym (agree_restrict n (off G N) N (below_off N))))) ∙ sym (forced N t));
  }
