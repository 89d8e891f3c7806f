-- Why guards: without one kind 6 is wrong within a context.
use mathlib.Core.Path.{◌≡◌, refl, sym, subst}
use mathlib.Core.Bool.{So, false≢true}
use mathlib.Core.List.Memᴰ
use mathlib.Core.List.{List, [], ◌∷◌}
use Prim.Native.Nat.{ℕ}
use native.Mathlib.Omega.{arith}
use Rattle.semantics.specs.Programs.{satisfies, reduct, models}
use Rattle.semantics.specs.Programs.{among}
use Rattle.semantics.proofs.Tests.{mem_iff, not_so, or_false}
use Rattle.rewriting.specs.Marked.{Marked, left, whole}
use Rattle.rewriting.specs.Steps.{step, in_no_head, condition, condition_holds, applies, effect}
use Rattle.rewriting.specs.Kinds.{failure}
use Rattle.shell_choices.specs.Stable.{StableIn}
use Rattle.shell_choices.proofs.Members.{when}
use Rattle.shell_guards.specs.Contexts.{WeightRule, weight_sum, Weights}

-- the context "1 <- 1 { ~0 = 1 }"
abbrev unless : WeightRule
unless = record { head = 1 ∷ []; bound = 1; pos = []; neg = record { atom = 0; weight = 1 } ∷ [] }

abbrev rules : List WeightRule
rules = unless ∷ []

abbrev bare : Marked
bare = whole (when (0 ∷ []) (1 ∷ []) [] ∷ [])

-- 0 <- 1. with no guard: kind 6 applies,
bare_applies : So (applies 2 bare (step failure 0 0 1))
unfolding left in_no_head condition condition_holds applies
bare_applies = refl

-- and the set 1 was not stable within the context, and is.
bare_before : ¬ StableIn 2 (left bare) (Weights rules) (among (1 ∷ []))
unfolding satisfies reduct models left
bare_before s = false≢true s.model

bare_after : StableIn 2 (left (effect bare (step failure 0 0 1))) (Weights rules) (among (1 ∷ []))
unfolding satisfies reduct models left effect weight_sum
bare_after = record {
  below = λ a h. omega (arith, one_in a h);
  model = refl;
  context = λ r m b. rw (Memᴰ.eq_of_singleton m) refl;
  minimal = λ X p h k. not_so p.outside (subst (λ b. So (X b)) (sym (one_in p.atom p.inside)) (rw (or_false (X 1)) at (k unless (Memᴰ.head refl) (omega arith))));
}
  where
    one_in : (a : ℕ) → So (among (1 ∷ []) a) → a ≡ 1
    one_in a h = Memᴰ.eq_of_singleton ((mem_iff a (1 ∷ [])).0 h)
