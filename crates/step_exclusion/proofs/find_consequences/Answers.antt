-- `step_exclusion::find_consequences` meets its contract.
use native.Mathlib.Omega.{arith}
use borrow.Author.Rules.{rules}
use Prim.Native.Nat.{ℕ}
use lib.ListN.{length-replicate}
use Rattle.table.proofs.Encoding.{passed_limits}
use Rattle.step_exclusion.proofs.Sets.{consequences_by, consequences_as}
use Rattle.step_exclusion.proofs.find_consequences.Goals as goal

pub narrow-requires : goal.narrow-requires
narrow-requires c = omega (arith, (passed_limits _ c.args.program.now.table.placed.passed).short)

pub invariant_of-definite : goal.invariant_of-definite
invariant_of-definite c = record { long = omega (arith, (passed_limits _ c.args.program.now.table.placed.passed).short, length-replicate {A = ℕ} 8192 0, c.narrow.auto.only) }

pub returns-clause-consequences : goal.returns-clause-consequences
returns-clause-consequences c = consequences_as (search rules) (consequences_by _ _ _ _ c.close_with.new.self.bytes.now c.narrow.ensures c.close_with.ensures.settled.reached)

pub invariant_of-result : goal.invariant_of-result
invariant_of-result c = record { queued = c.close_with.ensures.settled.rest.queued }
