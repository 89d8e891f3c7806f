-- Kinds as the search takes them: those with a partner and those without, and the parts that it looks into.
use Rattle.std.specs.Prelude.{◌≡◌, false}
use Rattle.std.proofs.Math.Bool.{So}
use Rattle.step_parts.specs.declared.Part.{Part}
use Rattle.step_parts.specs.declared.Part.TheVariants.{Head, Pos, Neg}
use Rattle.rewriting.specs.Kinds.{Kind, tautology, contradiction, success, no_head, blocked, failure, loop, subsumed, excluded, uses_partner, on_target}
use Rattle.rewriting.specs.Uses.{asks_no_head}

-- a kind with a partner word: 3, 5 and 8
abbrev pub PartnerKind : Kind → Type 0
PartnerKind kind = So (uses_partner kind)

-- One without, that changes its target alone: 1, 2, 4, 6 and 7.
pub record AtomKind (kind : Kind) : Type 0 where
  pub at_target : So (on_target kind)
  pub alone : uses_partner kind ≡ false

-- kinds 4 and 6 ask for atoms "in the head of no kept clause"
abbrev pub NoHeadKind : Kind → Type 0
NoHeadKind kind = So (asks_no_head kind)

-- the part in which a target of kind 3, 5 or 8 has the partner's head atoms
abbrev pub target_part : Kind → Part
target_part tautology = Head
target_part contradiction = Head
target_part success = Pos
target_part no_head = Head
target_part blocked = Neg
target_part failure = Head
target_part loop = Head
target_part subsumed = Head
target_part excluded = Head

-- the part that the search of a kind with an atom walks
abbrev pub walked_part : Kind → Part
walked_part tautology = Head
walked_part contradiction = Pos
walked_part success = Pos
walked_part no_head = Neg
walked_part blocked = Pos
walked_part failure = Pos
walked_part loop = Pos
walked_part subsumed = Pos
walked_part excluded = Pos
