-- `search_closure::count_on` meets its contract.
use native.Mathlib.Omega.{arith}
use Rattle.table.proofs.Encoding.{passed_limits}
use Rattle.search_closure.proofs.count_on.Goals as goal

pub offset_bounds-missing-t : goal.offset_bounds-missing-t
offset_bounds-missing-t c = omega (arith, (passed_limits _ c.args.program.now.table.placed.passed).few_clauses, c.requires.clause, c.owner-t.ensures)

pub bounds-missing-t : goal.bounds-missing-t
bounds-missing-t c = omega (arith, (passed_limits _ c.args.program.now.table.placed.passed).few_clauses, c.requires.clause, c.requires.room, c.owner-t.ensures)

pub offset_bounds-missing-t-2 : goal.offset_bounds-missing-t-2
offset_bounds-missing-t-2 c = omega (arith, (passed_limits _ c.args.program.now.table.placed.passed).few_clauses, c.requires.clause, c.owner-t.ensures)

pub bounds-missing-t-2 : goal.bounds-missing-t-2
bounds-missing-t-2 c = omega (arith, (passed_limits _ c.args.program.now.table.placed.passed).few_clauses, c.requires.clause, c.requires.room, c.owner-t.ensures)

pub lesser-requires : goal.lesser-requires
lesser-requires c = omega (arith, (passed_limits _ c.args.program.now.table.placed.passed).few_clauses, c.requires.clause, c.requires.can, c.owner-t.ensures)
