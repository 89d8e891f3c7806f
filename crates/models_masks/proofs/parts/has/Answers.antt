-- `models_masks::parts::has` meets its contract.
use mathlib.Core.Path.{refl, sym, ◌∙◌}
use lib.Dec.{eqb}
use borrow.Author.Tests.{eq-eqb, ne_eqb}
use borrow.Author.Rules.{rules}
use Rattle.models_masks.proofs.Search.{any_on, any_hit, any_end}
use Rattle.models_masks.proofs.parts.has.Goals as goal

pub loop-i-init : goal.loop-i-init
loop-i-init c = (refl, (search rules, refl))

pub returns-then-atom-part : goal.returns-then-atom-part
returns-then-atom-part c = sym (any_hit (λ x. eqb c.args.atom x) _ _ c.loop-i-test.true (eq-eqb _ _ c.if-atom-part.true)) ∙ c.loop-i.invariant.1.1

pub loop-i-preserved : goal.loop-i-preserved
loop-i-preserved c = (refl, (search rules, sym (any_on (λ x. eqb c.args.atom x) _ _ c.loop-i-test.true (ne_eqb _ _ c.if-atom-part.false)) ∙ c.loop-i.invariant.1.1))

pub returns : goal.returns
returns c = sym (any_end (λ x. eqb c.args.atom x) _ _ c.loop-i-test.false) ∙ c.loop-i.invariant.1.1
