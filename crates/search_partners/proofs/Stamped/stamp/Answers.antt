-- `stamp`: the stamps so far, with what is left of the part, are those of the whole.
use Rattle.std.proofs.Common.{refl, sym, ap, ◌∙◌}
use Rattle.search_partners.specs.Stamps.{offset_of, stamped}
use Rattle.search_partners.proofs.Stamped.stamp.Goals as goal

pub loop-atom-init : goal.loop-atom-init
loop-atom-init c = (tt, tt, rw (c.into_iter-atom-iterator.ensures.into_iter_gives, c.atoms-atom-items.ensures) refl)

pub loop-atom-preserved : goal.loop-atom-preserved
unfolding stamped
loop-atom-preserved c = (tt, tt, rw c.set.ensures (sym (ap (λ l. stamped c.loop-atom.self (offset_of c.args.part) l) c.in-Some.ensures.steps) ∙ c.loop-atom.invariant.2))

pub returns : goal.returns
unfolding stamped
returns c = sym (ap (λ l. stamped c.loop-atom.self (offset_of c.args.part) l) c.in-None.ensures.steps.0) ∙ c.loop-atom.invariant.2
