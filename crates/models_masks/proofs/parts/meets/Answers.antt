-- `models_masks::parts::meets` meets its contract.
use mathlib.Core.Path.{refl, sym, ◌∙◌}
use borrow.Author.Rules.{rules}
use Rattle.semantics.specs.Lists.{mem}
use Rattle.models_masks.proofs.Search.{any_on, any_hit, any_end}
use Rattle.models_masks.proofs.parts.meets.Goals as goal

pub loop-i-init : goal.loop-i-init
loop-i-init c = (refl, (search rules, refl))

pub returns-then-has : goal.returns-then-has
returns-then-has c = sym (any_hit (λ x. mem x c.args.set.now) _ _ c.loop-i-test.true (sym c.has.ensures ∙ c.if-has.true)) ∙ c.loop-i.invariant.1.1

pub loop-i-preserved : goal.loop-i-preserved
loop-i-preserved c = (refl, (search rules, sym (any_on (λ x. mem x c.args.set.now) _ _ c.loop-i-test.true (sym c.has.ensures ∙ c.if-has.false)) ∙ c.loop-i.invariant.1.1))

pub returns : goal.returns
returns c = sym (any_end (λ x. mem x c.args.set.now) _ _ c.loop-i-test.false) ∙ c.loop-i.invariant.1.1
