-- `Marked::part` meets its contract.
use mathlib.Core.Path.{sym}
use Rattle.step_parts.proofs.Laws.{ready, part_is, part_ascends, part_marked}
use Rattle.step_parts.proofs.marked.Marked.part.Goals as goal

pub invariant_of-result : goal.invariant_of-result
invariant_of-result c = record {
  long = part_marked _ _ _ (ready c.args.self.now) _ c.requires _ _ c.span-s.ensures;
  ascends = part_ascends _ _ _ (ready c.args.self.now) _ c.requires _ _ c.span-s.ensures;
}

pub returns : goal.returns
returns c = sym (part_is _ _ _ (ready c.args.self.now) _ c.requires _ _ c.span-s.ensures)
