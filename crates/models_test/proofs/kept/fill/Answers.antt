-- `models_test::kept::fill` meets its contract.
use native.Mathlib.Omega.{arith}
use Rattle.table.proofs.Encoding.{passed_limits}
use Rattle.table.proofs.Walks.{along_fits}
use Rattle.models_test.proofs.Listing.{filling_start, filling_room, filling_next, filling_end}
use Rattle.models_test.proofs.kept.fill.Goals as goal

pub bounds-words-1 : goal.bounds-words-1
bounds-words-1 c = omega (arith, (passed_limits _ c.requires.passed).long)

pub loop-k-init : goal.loop-k-init
loop-k-init c = rw c.requires.none (filling_start _ _)

pub add_clause-requires-clause-fits : goal.add_clause-requires-clause-fits
add_clause-requires-clause-fits c = along_fits _ _ _ c.requires.passed c.loop-k-test.true c.loop-k.invariant.along

pub add_clause-requires-clause-room : goal.add_clause-requires-clause-room
add_clause-requires-clause-room c = filling_room _ _ _ _ _ c.loop-k.invariant c.requires.passed c.loop-k-test.true

pub next_clause-at-requires : goal.next_clause-at-requires
next_clause-at-requires c = along_fits _ _ _ c.requires.passed c.loop-k-test.true c.loop-k.invariant.along

pub loop-k-preserved : goal.loop-k-preserved
loop-k-preserved c = rw c.next_clause-at.ensures (filling_next _ _ _ _ _ c.loop-k.invariant c.loop-k-test.true _ c.add_clause.ensures)

pub returns : goal.returns
returns c = filling_end _ _ _ _ _ c.loop-k.invariant c.loop-k-test.false
