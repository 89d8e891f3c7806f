-- `step_parts::link_part` meets its contract. The invariant: the places passed are linked.
use native.Mathlib.Omega.{arith}
use mathlib.Core.Path.{◌≡◌, refl, sym, ap, subst, ◌∙◌}
use Rattle.step_parts.specs.Parts.{span_of, Indexed}
use Rattle.step_parts.proofs.Index.{index_fits, span_stands, span_order}
use borrow.Author.Rules.{rules}
use Rattle.step_parts.proofs.linking.link_part.Goals as goal

pub part_at-s-requires : goal.part_at-s-requires
part_at-s-requires c = (index_fits _ _ _ _ _ c.requires.indexed c.requires.clause c.requires.start).0

pub loop-i-init : goal.loop-i-init
loop-i-init c = let e = c.part_at-s.ensures in (let q = ap (λ b. b.from) e in omega arith, (omega (arith, ap (λ b. b.from) e, span_order c.args.words.now c.args.at c.args.part), (ap (λ b. b.end) e, (refl, subst (Indexed c.args.words.now c.args.index.now c.args.t) (sym (ap (λ b. b.from) e)) c.requires.indexed))))

pub link-requires : goal.link-requires
link-requires c = record { indexed = c.loop-i.invariant.1.1.1.1; stands = span_stands _ _ _ _ _ c.requires.clause c.requires.start c.loop-i.invariant.0 (omega (arith, c.loop-i.invariant.1.1.0)) }

pub loop-i-preserved : goal.loop-i-preserved
loop-i-preserved c = (search rules, (search rules, (search rules, (c.link.auto.index ∙ c.loop-i.invariant.1.1.1.0, c.link.ensures))))

pub shape_of-index : goal.shape_of-index
shape_of-index c = c.loop-i.invariant.1.1.1.0

pub returns : goal.returns
returns c = let e : c.loop-i.i ≡ (span_of c.args.words.now c.args.at c.args.part).end = omega (arith, c.loop-i.invariant.1.1.0) in subst (Indexed c.args.words.now c.loop-i.index c.args.t) e c.loop-i.invariant.1.1.1.1
