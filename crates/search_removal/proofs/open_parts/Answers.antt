-- `open_parts`: part by part.
use Rattle.step_parts.specs.declared.Part.TheVariants.{Head, Pos}
use Rattle.search_openings.proofs.Opens.{opened_more}
use Rattle.search_removal.proofs.Opens.{all_more, parts_all}
use Rattle.search_removal.proofs.open_parts.Goals as goal

pub returns : goal.returns
returns c =
    let one = c.open_clauses.ensures in
    let two = c.open_clauses-2.ensures in
    let three = c.open_clauses-3.ensures in
    record { opened = opened_more _ _ _ one.opened (opened_more _ _ _ two.opened three.opened); fresh = parts_all _ _ _ _ (all_more _ c.args.program.now.marks.now _ _ c.args.program.now.table.placed.passed (opened_more _ _ _ two.opened three.opened) Head _ one.fresh) (all_more _ c.args.program.now.marks.now _ _ c.args.program.now.table.placed.passed three.opened Pos _ two.fresh) three.fresh }
