-- `spread_partner`: by the first head atom; without a head by the body for kind 8, none for kind 3, and every clause for kind 5.
use Prim.Native.Nat.{◌<◌}
use mathlib.Core.Path.{sym, subst, ◌∙◌}
use Rattle.step_parts.specs.declared.Part.TheVariants.{Head}
use Rattle.step_kinds.specs.Kinds.{target_part}
use Rattle.search_spreads.specs.Spreads.{Clue, PartnerSpread}
use Rattle.search_spreads.proofs.Clues.{first_in_lem, part_small, clue_head, spread_headless, spread_named, spread_unnamed}
use Rattle.step_parts.proofs.Laws.{ready}
use Rattle.search_spreads.proofs.spread_partner.Goals as goal

pub returns-then-not-empty : goal.returns-then-not-empty
returns-then-not-empty c = spread_named _ _ _ _ _ _ _ _ c.named_atom.ensures c.first_atom-a.ensures c.spread_along.ensures

pub returns-in-Subsumed : goal.returns-in-Subsumed
returns-in-Subsumed c = subst (λ k. PartnerSpread c.args.facts.now.program.now.table.words.now c.args.facts.now.program.now.marks.now c.args.flags.now c.spread_body.new.flags k c.args.x) (sym c.in-Subsumed.is) c.spread_body.ensures

pub returns-in-Success : goal.returns-in-Success
returns-in-Success c = spread_headless _ _ _ _ _ _ c.in-Success.is (sym c.empty.ensures ∙ c.if-not-empty.false)

pub returns-in_default : goal.returns-in_default
returns-in_default c = spread_unnamed _ _ _ _ _ _ c.requires.kind c.in_default.not-Success c.spread.ensures

pub spread_along-requires-clause-atom : goal.spread_along-requires-clause-atom
spread_along-requires-clause-atom c = subst (λ b. b < 1024) (sym c.first_atom-a.ensures) (part_small _ _ (ready c.args.facts.now.program.now).placed.passed _ _ Head (first_in_lem _ (sym c.empty.ensures ∙ c.if-not-empty.true)))

pub spread_along-requires-clause-clue : goal.spread_along-requires-clause-clue
spread_along-requires-clause-clue c =
    let w = subst (λ b. Clue c.args.facts.now.program.now.table.words.now c.args.facts.now.program.now.marks.now c.args.kind c.args.x c.named_atom.result (target_part c.args.kind) b) (sym c.first_atom-a.ensures) (clue_head _ _ _ _ _ c.requires.kind (sym c.empty.ensures ∙ c.if-not-empty.true)) in
    subst (λ x. Clue c.args.facts.now.program.now.table.words.now c.args.facts.now.program.now.marks.now c.args.kind c.args.x c.named_atom.result x c.first_atom-a.result) (sym c.target_part.ensures) w
