-- `walk`: the walked part, or nothing.
use Rattle.std.proofs.Common.{sym, ◌∙◌}
use Rattle.table.specs.Slices.{kept_of}
use Rattle.search_targets.proofs.Walks.{walk_kept, walk_gone}
use Rattle.search_targets.proofs.walk.Goals as goal

pub returns-then-not-kept : goal.returns-then-not-kept
unfolding kept_of
returns-then-not-kept c = walk_gone c.args.program.now c.args.t c.args.kind c.requires.kind (sym c.kept.ensures ∙ c.if-not-kept.true)

pub returns : goal.returns
returns c = rw (c.atoms.ensures, c.walked_part.ensures) (walk_kept c.args.program.now c.args.t c.args.kind c.requires.kind (sym c.kept.ensures ∙ c.if-not-kept.false))
