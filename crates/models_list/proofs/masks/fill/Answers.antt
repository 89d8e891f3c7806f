-- `models_list::masks::fill` meets its contract.
use Prim.Native.Nat.{◌<◌}
use native.Mathlib.Omega.{arith}
use lib.ListN.{get_or}
use Rattle.table.proofs.Encoding.{passed_limits}
use Rattle.table.proofs.Walks.{along_fits}
use Rattle.models_list.proofs.Filling.{filling_start, filling_next, filling_end}
use Rattle.models_list.proofs.masks.fill.Goals as goal

pub bounds-words-1 : goal.bounds-words-1
bounds-words-1 c = omega (arith, (passed_limits _ c.requires.passed).long)

pub loop-k-init : goal.loop-k-init
loop-k-init c = filling_start _ _ c.requires.room

pub of-requires : goal.of-requires
of-requires c = let h : c.loop-k.k < get_or c.args.words.now 1 0 = omega (arith, c.loop-k-test.true, c.from-clauses.ensures) in along_fits _ _ _ c.requires.passed h c.loop-k.invariant.along

pub bounds-masks-k : goal.bounds-masks-k
bounds-masks-k c = let h : c.loop-k.k < get_or c.args.words.now 1 0 = omega (arith, c.loop-k-test.true, c.from-clauses.ensures) in let few = (passed_limits _ c.requires.passed).few_clauses in omega (arith, c.loop-k.invariant.room)

pub next_clause-at-requires : goal.next_clause-at-requires
next_clause-at-requires c = let h : c.loop-k.k < get_or c.args.words.now 1 0 = omega (arith, c.loop-k-test.true, c.from-clauses.ensures) in along_fits _ _ _ c.requires.passed h c.loop-k.invariant.along

pub loop-k-preserved : goal.loop-k-preserved
loop-k-preserved c = let h : c.loop-k.k < get_or c.args.words.now 1 0 = omega (arith, c.loop-k-test.true, c.from-clauses.ensures) in rw c.next_clause-at.ensures (filling_next _ _ _ _ c.requires.passed c.loop-k.invariant h _ c.of.ensures)

pub returns-clause-count : goal.returns-clause-count
returns-clause-count c = let few = (passed_limits _ c.requires.passed).few_clauses in omega (arith, c.loop-k.invariant.room, c.from-clauses.ensures)

pub returns-clause-masked : goal.returns-clause-masked
returns-clause-masked c = filling_end _ _ _ _ c.requires.passed c.loop-k.invariant _ c.from-clauses.ensures c.loop-k-test.false
