-- `cycle::search::Trail::sweep` meets its contract.
use mathlib.Core.Path.{sym}
use native.Mathlib.Omega.{arith}
use Rattle.std.proofs.lemmas.Result.{err_from_is_err_and}
use Rattle.table.proofs.Encoding.{passed_limits}
use Rattle.dependency.proofs.Reached.{cyclic_iff}
use Rattle.cycle.proofs.Ended.{swept_start, swept_end}
use Rattle.cycle.proofs.search.Trail.sweep.Goals as goal

pub bounds-table-0 : goal.bounds-table-0
bounds-table-0 c = omega (arith, (passed_limits _ c.args.table.now.placed.passed).long)

pub loop-atom-init : goal.loop-atom-init
loop-atom-init c = swept_start c.requires

pub returns-in_err-visit : goal.returns-in_err-visit
returns-in_err-visit c =
    let p = err_from_is_err_and c.from_residual.result c.from_residual.ensures.1 in
    rw p.1 (sym ((cyclic_iff _).1 (rw c.in_err-visit.was at c.visit.ensures)))

pub returns : goal.returns
returns c = swept_end c.loop-atom.invariant c.loop-atom-test.false
