-- `spread_atom`: an atom in a kept head has no step; the places of another are walked.
use mathlib.Core.Path.{sym, subst, ◌∙◌}
use Rattle.search_spreads.specs.Spreads.{Clue}
use Rattle.search_spreads.proofs.Clues.{clue_atom, spread_headed}
use Rattle.search_keys.proofs.spread_atom.Goals as goal

pub returns-then-not-no_head : goal.returns-then-not-no_head
returns-then-not-no_head c = spread_headed _ _ _ _ _ _ c.requires.kind c.requires.state.counted (sym c.no_head.ensures ∙ c.if-not-no_head.true)

pub returns : goal.returns
returns c = c.spread_along.ensures

pub spread_along-requires-clause-clue : goal.spread_along-requires-clause-clue
spread_along-requires-clause-clue c = subst (λ x. Clue c.args.facts.now.program.now.table.words.now c.args.facts.now.program.now.marks.now c.args.kind 0 c.args.atom x c.args.atom) (sym c.walked_part.ensures) (clue_atom _ _ _ _ c.requires.kind)
