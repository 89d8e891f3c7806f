-- `spread`: the targets passed are done.
use native.Mathlib.Omega.{arith}
use Rattle.table.proofs.Encoding.{passed_limits}
use Rattle.search_spreads.proofs.Spreads.{spreading_none, spreading_on, spreading_all}
use Rattle.search_spreads.proofs.spread.Goals as goal

pub loop-t-init : goal.loop-t-init
loop-t-init c = spreading_none _ _ _ _ _ _

pub spread_one-requires-clause-target : goal.spread_one-requires-clause-target
spread_one-requires-clause-target c = omega (arith, c.loop-t-test.true, c.clause_count-t-end.ensures)

pub loop-t-preserved : goal.loop-t-preserved
loop-t-preserved c =
    let few = (passed_limits _ c.args.facts.now.program.now.table.placed.passed).few_clauses in
    spreading_on _ _ _ _ _ _ _ _ c.loop-t.invariant _ (omega (arith, c.loop-t-test.true, c.clause_count-t-end.ensures)) (omega (arith, c.loop-t-test.true, c.clause_count-t-end.ensures)) (c.spread_one.ensures.raising, c.spread_one.ensures.covered)

pub returns : goal.returns
returns c = spreading_all _ _ _ _ _ _ _ _ c.loop-t.invariant (omega (arith, c.loop-t-test.false, c.clause_count-t-end.ensures))
