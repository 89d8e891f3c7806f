-- `spread_body`: by the first positive atom, by the first negative one, or every clause.
use Prim.Native.Nat.{◌<◌}
use mathlib.Core.Path.{sym, subst, ◌∙◌}
use Rattle.rewriting.specs.Kinds.{subsumed}
use Rattle.step_parts.specs.declared.Part.TheVariants.{Pos, Neg}
use Rattle.search_spreads.specs.Spreads.{Clue}
use Rattle.search_spreads.proofs.Clues.{first_in_lem, part_small, clue_pos, clue_neg}
use Rattle.step_parts.proofs.Laws.{ready}
use Rattle.search_spreads.proofs.spread_body.Goals as goal

pub returns-then-not-empty : goal.returns-then-not-empty
returns-then-not-empty c = c.spread_along.ensures

pub returns-then-not-empty-2 : goal.returns-then-not-empty-2
returns-then-not-empty-2 c = c.spread_along-then-not-empty-2.ensures

pub returns : goal.returns
returns c = c.spread.ensures

pub spread_along-requires-clause-atom : goal.spread_along-requires-clause-atom
spread_along-requires-clause-atom c = subst (λ b. b < 1024) (sym c.first_atom-a.ensures) (part_small _ _ (ready c.args.facts.now.program.now).placed.passed _ _ Pos (first_in_lem _ (sym c.empty.ensures ∙ c.if-not-empty.true)))

pub spread_along-requires-clause-clue : goal.spread_along-requires-clause-clue
spread_along-requires-clause-clue c = subst (λ b. Clue c.args.facts.now.program.now.table.words.now c.args.facts.now.program.now.marks.now subsumed c.args.x 0 Pos b) (sym c.first_atom-a.ensures) (clue_pos _ _ _ (sym c.empty.ensures ∙ c.if-not-empty.true))

pub spread_along-requires-then-not-empty-2-clause-atom : goal.spread_along-requires-then-not-empty-2-clause-atom
spread_along-requires-then-not-empty-2-clause-atom c = subst (λ b. b < 1024) (sym c.first_atom-a-then-not-empty-2.ensures) (part_small _ _ (ready c.args.facts.now.program.now).placed.passed _ _ Neg (first_in_lem _ (sym c.empty-2.ensures ∙ c.if-not-empty-2.true)))

pub spread_along-requires-then-not-empty-2-clause-clue : goal.spread_along-requires-then-not-empty-2-clause-clue
spread_along-requires-then-not-empty-2-clause-clue c = subst (λ b. Clue c.args.facts.now.program.now.table.words.now c.args.facts.now.program.now.marks.now subsumed c.args.x 0 Neg b) (sym c.first_atom-a-then-not-empty-2.ensures) (clue_neg _ _ _ (sym c.empty-2.ensures ∙ c.if-not-empty-2.true))
