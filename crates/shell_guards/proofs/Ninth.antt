-- Why lists without kind 9: even with the guard it is wrong within a context.
use mathlib.Core.Path.{◌≡◌, refl, sym, subst}
use mathlib.Core.Logic.{◌↔◌}
use mathlib.Core.Bool.{So, false≢true}
use mathlib.Core.List.Memᴰ
use mathlib.Core.List.{[], ◌∷◌}
use Prim.Native.Nat.{ℕ}
use native.Mathlib.Omega.{arith}
use Rattle.semantics.specs.Programs.{among, satisfies, reduct, models}
use Rattle.semantics.proofs.Tests.{mem_iff, not_so}
use Rattle.rewriting.specs.Marked.{Marked, left, whole}
use Rattle.rewriting.specs.Reaches.{fire, reach_from, reach}
use Rattle.rewriting.specs.Consequences.{consequences}
use Rattle.rewriting.specs.Exclusion.{excludes, removal}
use Rattle.rewriting.specs.Steps.{Step, step, condition, condition_holds, applies, effect}
use Rattle.rewriting.specs.Kinds.{excluded}
use Rattle.shell_choices.specs.Stable.{Context, StableIn}
use Rattle.shell_choices.proofs.Members.{when}
use Rattle.shell_guards.specs.Guards.{HeadsIn, guards, guarded, clauses_below}

-- the context "0 <-"
abbrev derives : Context
derives M X = So (X 0)

-- "<- 0" with the guard "0 | 1 <-"
abbrev table : Marked
table = whole (guarded 1 (when [] (0 ∷ []) [] ∷ []) (0 ∷ []))

-- the target is the constraint, the atom 0
abbrev ninth : Step
ninth = step excluded 0 0 0

-- The context's heads are guarded and the step of kind 9 applies, yet a set is stable within the context for what is left and was not before.
pub record NinthBreaks : Type 0 where
  pub heads : HeadsIn (among (0 ∷ [])) derives
  pub applicable : So (applies 2 table ninth)
  pub before : ¬ StableIn 1 (clauses_below 1 (left table)) derives (among (0 ∷ []))
  pub after : StableIn 1 (clauses_below 1 (left (effect table ninth))) derives (among (0 ∷ []))

-- The constraint is deleted, and the set 0 becomes stable.
pub ninth_breaks : NinthBreaks
unfolding satisfies reduct models left fire reach_from reach consequences excludes removal condition condition_holds applies effect guards guarded clauses_below
ninth_breaks = record {
  heads = λ M X sub f h. f 0 refl h;
  applicable = refl;
  before = λ s. false≢true s.model;
  after = record {
    below = λ a h. omega (arith, zero_in a h);
    model = refl;
    context = refl;
    minimal = λ X p h k. not_so p.outside (subst (λ b. So (X b)) (sym (zero_in p.atom p.inside)) k);
  };
}
  where
    zero_in : (a : ℕ) → So (among (0 ∷ []) a) → a ≡ 0
    zero_in a h = Memᴰ.eq_of_singleton ((mem_iff a (0 ∷ [])).0 h)

-- So the stable models within the context are not the same.
pub ninth_differs : ¬ (StableIn 1 (clauses_below 1 (left table)) derives (among (0 ∷ [])) ↔ StableIn 1 (clauses_below 1 (left (effect table ninth))) derives (among (0 ∷ [])))
ninth_differs e = ninth_breaks.before (e.1 ninth_breaks.after)
