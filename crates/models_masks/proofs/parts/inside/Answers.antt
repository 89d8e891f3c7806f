-- `models_masks::parts::inside` meets its contract.
use mathlib.Core.Path.{refl, sym, ◌∙◌}
use borrow.Author.Rules.{rules}
use Rattle.semantics.specs.Lists.{mem}
use Rattle.models_masks.proofs.Search.{all_on, all_lost, all_end}
use Rattle.models_masks.proofs.parts.inside.Goals as goal

pub loop-i-init : goal.loop-i-init
loop-i-init c = (refl, (search rules, refl))

pub returns-then-not-has : goal.returns-then-not-has
returns-then-not-has c = sym (all_lost (λ x. mem x c.args.set.now) _ _ c.loop-i-test.true (sym c.has.ensures ∙ c.if-not-has.true)) ∙ c.loop-i.invariant.1.1

pub loop-i-preserved : goal.loop-i-preserved
loop-i-preserved c = (refl, (search rules, sym (all_on (λ x. mem x c.args.set.now) _ _ c.loop-i-test.true (sym c.has.ensures ∙ c.if-not-has.false)) ∙ c.loop-i.invariant.1.1))

pub returns : goal.returns
returns c = sym (all_end (λ x. mem x c.args.set.now) _ _ c.loop-i-test.false) ∙ c.loop-i.invariant.1.1
