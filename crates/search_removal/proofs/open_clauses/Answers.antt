-- `open_clauses`: the clauses at the places passed are flagged.
use Rattle.std.proofs.Common.{subst}
use Rattle.step_parts.specs.Reading.{program_of}
use Rattle.step_parts.proofs.Walk.{walk_start, walk_at, walk_on, walk_end}
use Rattle.search_openings.proofs.Opens.{opened_none, opened_more}
use Rattle.search_removal.specs.Removed.{OpenAt}
use Rattle.search_removal.proofs.Opens.{open_more}
use Rattle.search_removal.proofs.open_clauses.Goals as goal

pub loop-i-init : goal.loop-i-init
loop-i-init c = rw c.into_iter-i-iterator.ensures.into_iter_gives (tt, tt, opened_none _, walk_start c.args.program.now.table c.args.part c.args.atom _ _ c.places-i-items.ensures.of c.places-i-items.ensures.last)

pub owner-requires : goal.owner-requires
owner-requires c = (walk_at c.args.program.now.table c.args.part c.args.atom c.in-Some.ensures.steps _ c.loop-i.invariant.3).0

pub open_clause-requires : goal.open_clause-requires
open_clause-requires c = rw c.owner.ensures (walk_at c.args.program.now.table c.args.part c.args.atom c.in-Some.ensures.steps _ c.loop-i.invariant.3).1.clause

pub loop-i-preserved : goal.loop-i-preserved
loop-i-preserved c =
    let p = c.args.program.now in
    let here = subst (OpenAt (program_of p) c.open_clause.new.flags c.args.part) c.owner.ensures c.open_clause.ensures.fresh in
    let more = open_more _ p.marks.now _ _ p.table.placed.passed c.open_clause.ensures.opened c.args.part in
    (tt, tt, opened_more _ _ _ c.loop-i.invariant.2 c.open_clause.ensures.opened, walk_on p.table c.args.part c.args.atom c.in-Some.ensures.steps _ _ more here c.loop-i.invariant.3)

pub returns : goal.returns
returns c = record { opened = c.loop-i.invariant.2; fresh = record { each = walk_end c.args.program.now.table c.args.part c.args.atom _ _ c.in-None.ensures.steps c.loop-i.invariant.3 } }
