-- What contexts have their heads in H: rules whose bodies are monotone once M is fixed, clauses and weight bodies among them; externals; two as one.
use mathlib.Core.Path.{refl}
use mathlib.Core.Logic.{◌↔◌}
use mathlib.Core.Bool.{Bool, true, false, cond, So, false≢true}
use mathlib.Core.List.{List, [], ◌∷◌, ◌++◌}
use Prim.Native.Nat.{ℕ, ◌+◌, ◌≤◌}
use native.Mathlib.Omega.{arith}
use Rattle.semantics.specs.Lists.{◌∈◌, any}
use Rattle.semantics.specs.Programs.{Clause, Atoms, Subset}
use Rattle.semantics.proofs.Tests.{any_iff}
use Rattle.semantics.proofs.Models.{All, models_iff}
use Rattle.shell_choices.specs.Stable.{Choice, Context, StableWith}
use Rattle.shell_choices.proofs.Members.{models_append, with_iff}
use Rattle.shell_guards.specs.Guards.{HeadsIn}
use Rattle.shell_guards.specs.Contexts.{Rules, Clauses, Weighted, WeightRule, weight_sum, BodyHolds, Weights, WeightChoices, Externals, Both, Outside}

any_kept : (H M X : Atoms) (l : List ℕ) → All H l → ((a : ℕ) → So (H a) → So (M a) → So (X a)) → So (any M l) → So (any X l)
any_kept H M X l k f h = let w = (any_iff M l).0 h in (any_iff X l).1 (w.0, w.1, f w.0 (k w.0 w.1) w.2)

-- Rules with heads in H and bodies that hold of M where they hold of a subset.
pub rules_heads : (I : Type 0) (body : I → Context) (head : I → List ℕ) (H : Atoms)
    → ((i : I) (M X : Atoms) → Subset X M → body i M X → body i M M) → ((i : I) → All H (head i)) → HeadsIn H (Rules I body head)
rules_heads I body head H mono k M X sub f h i b = any_kept H M X (head i) (k i) f (h i (mono i M X sub b))

-- ---- clauses are such

pub clauses_heads : (H : Atoms) (ds : List Clause) → ((d : Clause) → d ∈ ds → All H d.head) → HeadsIn H (Clauses ds)
clauses_heads H ds k M X sub f h = (models_iff M X ds).1 (λ d m g p.
    let w = (models_iff M M ds).0 h d m g (λ a q. sub a (p a q)) in (w.0, w.1, f w.0 (k d m w.0 w.1) w.2))

-- Clauses beside the others or as a context are the same.
pub clauses_in : (n : ℕ) (ds cs : List Clause) (ks : List Choice) (sat : Context) (M : Atoms) → StableWith n (ds ++ cs) ks sat M ↔ StableWith n cs ks (Both (Clauses ds) sat) M
clauses_in n ds cs ks sat M = (
  λ s. let w = (with_iff n (ds ++ cs) ks sat M).0 s in let v = (models_append M M ds cs).0 w.1 in (with_iff n cs ks (Both (Clauses ds) sat) M).1
      (w.0, v.1, ((models_iff M M ds).1 v.0, w.2), λ X sub h k t. w.3 X sub ((models_append M X ds cs).1 ((models_iff M X ds).0 t.0, h)) k t.1),
  λ s. let w = (with_iff n cs ks (Both (Clauses ds) sat) M).0 s in (with_iff n (ds ++ cs) ks sat M).1 (
    w.0,
    (models_append M M ds cs).1 ((models_iff M M ds).0 w.2.0, w.1),
    w.2.1,
    λ X sub h k t. let v = (models_append M X ds cs).0 h in w.3 X sub v.1 k ((models_iff M X ds).1 v.0, t),
  ),
)

-- ---- weight bodies are such

total_more : (X M : Atoms) → Subset X M → (ws : List Weighted) → weight_sum X ws ≤ weight_sum M ws
unfolding weight_sum
total_more X M sub [] = omega arith
total_more X M sub (w ∷ ws) = go (X w.atom) (M w.atom) (sub w.atom) (total_more X M sub ws)
  where
    go : (s t : Bool) → (So s → So t) → weight_sum X ws ≤ weight_sum M ws → cond s w.weight 0 + weight_sum X ws ≤ cond t w.weight 0 + weight_sum M ws
    go true true f h = omega arith
    go true false f h = absurd (false≢true (f refl))
    go false true f h = omega arith
    go false false f h = omega arith

pub reached_more : (r : WeightRule) (M X : Atoms) → Subset X M → BodyHolds r M X → BodyHolds r M M
reached_more r M X sub b = omega (arith, b, total_more X M sub r.pos)

pub weights_heads : (H : Atoms) (rs : List WeightRule) → ((r : WeightRule) → r ∈ rs → All H r.head) → HeadsIn H (Weights rs)
weights_heads H rs k M X sub f h r m b = any_kept H M X r.head (k r m) f (h r m (reached_more r M X sub b))

pub weight_choices_heads : (H : Atoms) (rs : List WeightRule) → ((r : WeightRule) → r ∈ rs → All H r.head) → HeadsIn H (WeightChoices rs)
weight_choices_heads H rs k M X sub f h r m b a q y = f a (k r m a q) y

-- ---- externals, and two contexts as one

pub externals_heads : (H : Atoms) (allowed : Atoms → Type 0) (es : List ℕ) → All H es → HeadsIn H (Externals allowed es)
externals_heads H allowed es k M X sub f h = (h.0, λ a m y. f a (k a m) y)

pub both_heads : (H : Atoms) (sat tat : Context) → HeadsIn H sat → HeadsIn H tat → HeadsIn H (Both sat tat)
both_heads H sat tat f g M X sub k h = (f M X sub k h.0, g M X sub k h.1)

pub outside_heads : (H : Atoms) (rs ws : List WeightRule) (allowed : Atoms → Type 0) (es : List ℕ)
    → ((r : WeightRule) → r ∈ rs → All H r.head) → ((r : WeightRule) → r ∈ ws → All H r.head) → All H es → HeadsIn H (Outside rs ws allowed es)
outside_heads H rs ws allowed es f g h = both_heads H (Weights rs) (Both (WeightChoices ws) (Externals allowed es)) (weights_heads H rs f)
    (both_heads H (WeightChoices ws) (Externals allowed es) (weight_choices_heads H ws g) (externals_heads H allowed es h))
