-- `Indexed::last_place` meets its contract.
use native.Mathlib.Omega.{arith}
use mathlib.Core.Path.{sym, ap, subst, ◌∙◌}
use lib.ListN.{length, get_or}
use Rattle.step_parts.specs.Parts.{Latest}
use Rattle.step_parts.proofs.Index.{last_range}
use Rattle.step_parts.proofs.marked.Indexed.last_place.Goals as goal

pub offset_bounds-self-last_at : goal.offset_bounds-self-last_at
offset_bounds-self-last_at c = omega (arith, last_range c.args.part c.args.atom c.requires, c.last_at.ensures)

pub bounds-self-last_at : goal.bounds-self-last_at
bounds-self-last_at c = omega (arith, last_range c.args.part c.args.atom c.requires, c.last_at.ensures, c.args.self.now.placed.long)

pub returns : goal.returns
returns c = subst (Latest c.args.self.now.words.now c.args.self.now.index.now c.args.part c.args.atom (length c.args.self.now.words.now)) (sym (c.from.ensures ∙ ap (λ k. get_or c.args.self.now.index.now k 0) c.last_at.ensures)) (c.args.self.now.placed.last c.args.part c.args.atom c.requires)
