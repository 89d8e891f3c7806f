-- `step_exclusion::clear_in` meets its contract.
use Rattle.step_exclusion.proofs.Marks.{clear_span}
use Rattle.step_exclusion.proofs.clear_in.Goals as goal

pub clear_part-requires : goal.clear_part-requires
clear_part-requires c = record { order = c.span-span.ensures.order; words = c.span-span.ensures.fits; marks = c.requires.marks }

pub returns : goal.returns
returns c = clear_span _ _ _ _ _ _ _ c.span-span.ensures c.clear_part.ensures
