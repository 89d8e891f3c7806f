-- `passes`: by the kind.
use mathlib.Core.Path.{sym, ◌∙◌}
use Rattle.step_conditions.proofs.Heads.{no_head_is, loop_atom_is}
use Rattle.search_targets.proofs.Walks.{asked_heads}
use Rattle.search_targets.proofs.passes.Goals as goal

pub returns-in-Tautology : goal.returns-in-Tautology
returns-in-Tautology c = rw c.in-Tautology.is c.has.ensures

pub returns-in-Contradiction : goal.returns-in-Contradiction
returns-in-Contradiction c = rw c.in-Contradiction.is c.has-in-Contradiction.ensures

pub returns-in-Loop : goal.returns-in-Loop
returns-in-Loop c = rw c.in-Loop.is (c.loop_atom.ensures ∙ loop_atom_is _ _ _ _ _ c.requires.arrays.counted (c.requires.arrays.reached c.in-Loop.is))

pub returns-in_default : goal.returns-in_default
returns-in_default c =
    c.no_head.ensures ∙ no_head_is _ c.args.atom _ (c.requires.arrays.counted.is c.args.atom) ∙ sym (asked_heads _ _ _ _ c.requires.kind c.in_default.not-Tautology c.in_default.not-Contradiction c.in_default.not-Loop)
