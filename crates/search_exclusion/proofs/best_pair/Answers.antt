-- `search_exclusion::best_pair` meets its contract.
use native.Mathlib.Omega.{arith}
use Prim.Native.Nat.{ℕ}
use lib.ListN.{length-replicate}
use Rattle.table.proofs.Encoding.{passed_limits}
use Rattle.search_closure.proofs.Counting.{first_settled}
use Rattle.search_exclusion.proofs.best_pair.Goals as goal

pub narrow-requires : goal.narrow-requires
narrow-requires c = omega (arith, (passed_limits _ c.args.program.now.table.placed.passed).short)

pub invariant_of-definite : goal.invariant_of-definite
invariant_of-definite c = record { long = omega (arith, (passed_limits _ c.args.program.now.table.placed.passed).short, length-replicate {A = ℕ} 8192 0, c.narrow.auto.only) }

pub new-closure-requires-clause-room : goal.new-closure-requires-clause-room
new-closure-requires-clause-room c = record { bytes = omega (arith, (passed_limits _ c.args.program.now.table.placed.passed).few_atoms, length-replicate {A = ℕ} 1024 0); counts = omega (arith, length-replicate {A = ℕ} 2048 0) }

pub by_atoms-requires-clause-first : goal.by_atoms-requires-clause-first
by_atoms-requires-clause-first c = first_settled _ _ c.args.can.now c.new-closure.ensures.settled c.first_full-full.ensures
