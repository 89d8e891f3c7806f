-- `Indexed::span` meets its contract.
use Rattle.step_parts.proofs.Laws.{spanned}
use Rattle.step_parts.proofs.marked.Indexed.span.Goals as goal

pub returns : goal.returns
returns c = spanned _ _ _ c.args.part _ c.first_word.ensures.is c.first_word.ensures.fits c.part_at.ensures
