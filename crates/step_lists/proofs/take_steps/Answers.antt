-- `step_lists::take_steps` meets its contract: what the call says of the four words is said of step k of the list.
use Prim.Native.Nat.{◌<◌, ◌/◌}
use native.Mathlib.Omega.{arith}
use lib.ListN.{length}
use Rattle.table.proofs.Encoding.{passed_limits}
use Rattle.step_lists.proofs.Walks.{stepping_start, stepping_on, stepping_no, stepping_end, taken_at}
use Rattle.step_lists.proofs.take_steps.Goals as goal

pub loop-k-init : goal.loop-k-init
loop-k-init c = let few = (passed_limits _ c.args.table.now.placed.passed).few_atoms in stepping_start _ _ _ _ _ (c.new-memory.ensures.holding _ _ (omega (arith, few)) (omega (arith, few)))

pub returns-in-Err : goal.returns-in-Err
returns-in-Err c = let l : c.loop-k.k < length c.args.list.now / 4 = omega (arith, c.loop-k-test.true, c.as_chunks.ensures.front_len) in
    stepping_no _ _ _ _ _ _ _ _ l c.loop-k.invariant _ (taken_at _ _ _ _ _ _ _ _ c.as_chunks.ensures.front l c.in-Err.ensures.taken)

pub loop-k-preserved : goal.loop-k-preserved
loop-k-preserved c = let l : c.loop-k.k < length c.args.list.now / 4 = omega (arith, c.loop-k-test.true, c.as_chunks.ensures.front_len) in
    stepping_on _ _ _ _ _ _ _ _ l c.loop-k.invariant _ (taken_at _ _ _ _ _ _ _ _ c.as_chunks.ensures.front l c.in_default.ensures.taken) c.take_step.ensures.holding

pub returns : goal.returns
returns c = stepping_end _ _ _ _ _ _ c.loop-k.k _ c.as_chunks.ensures.front_len c.loop-k-test.false c.loop-k.auto.k-end c.loop-k.invariant
