-- `cycle::search::Trail::new` meets its contract.
use native.Mathlib.Omega.{arith}
use lib.ListN.{length-set}
use Rattle.table.proofs.Encoding.{passed_limits}
use Rattle.cycle.proofs.Answered.{latest_low, last_next, ready_start}
use Rattle.cycle.proofs.search.Trail.new.Goals as goal

pub bounds-table-0 : goal.bounds-table-0
bounds-table-0 c = omega (arith, (passed_limits _ c.args.table.now.placed.passed).long)

pub last_place-requires : goal.last_place-requires
last_place-requires c = omega (arith, (passed_limits _ c.args.table.now.placed.passed).few_atoms)

pub overflow_cast-places : goal.overflow_cast-places
overflow_cast-places c = omega (arith, latest_low (passed_limits _ c.args.table.now.placed.passed).short c.last_place.ensures)

pub bounds-places-from : goal.bounds-places-from
bounds-places-from c = omega (arith, (passed_limits _ c.args.table.now.placed.passed).few_atoms)

pub loop-atom-preserved : goal.loop-atom-preserved
loop-atom-preserved c = record {
  long = simp length-set c.loop-atom.invariant.long;
  last = last_next _ _ c.loop-atom.places _ _ _ c.from.ensures (omega (arith, (passed_limits _ c.args.table.now.placed.passed).few_atoms)) c.loop-atom.invariant.last c.last_place.ensures;
}

pub returns : goal.returns
returns c = ready_start c.args.table.now.placed (omega arith) (λ a h. c.loop-atom.invariant.last a (omega (arith, c.loop-atom-test.false)))
