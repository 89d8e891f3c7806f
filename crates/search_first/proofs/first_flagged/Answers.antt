-- `first_flagged`: the kinds passed have no step.
use mathlib.Core.Path.{refl}
use native.Mathlib.Omega.{arith}
use Rattle.search_first.proofs.Searches.{kind_at, kinds_found, kinds_none, kinds_more, found_one}
use Rattle.search_first.proofs.first_flagged.Goals as goal

pub loop-kind-init : goal.loop-kind-init
loop-kind-init c = (c.requires, λ j l. absurd (omega arith))

pub loop-kind-preserved : goal.loop-kind-preserved
loop-kind-preserved c = (c.first_of_kind.ensures.state, kinds_more _ _ _ c.loop-kind.invariant.1 _ (kind_at _ _ c.loop-kind-test.true) c.in_default.ensures.found)

pub returns-in-Some-clause-found : goal.returns-in-Some-clause-found
returns-in-Some-clause-found c = kinds_found _ _ _ c.loop-kind.invariant.1 c.loop-kind-test.true _ (kind_at _ _ c.loop-kind-test.true) _ c.in-Some.ensures.found (found_one _ _ refl)

pub returns-clause-found : goal.returns-clause-found
returns-clause-found c = kinds_none _ _ _ c.loop-kind.invariant.1 (omega (arith, c.loop-kind-test.false))
