-- `settle`: the keys passed are fresh no more, and the state stays.
use Prim.Native.Nat.{◌≤◌, ◌+◌}
use mathlib.Core.Path.{sym, subst}
use native.Mathlib.Omega.{arith}
use Rattle.rewriting.specs.Kinds.{number}
use Rattle.rewriting.proofs.Rows.{target_bounds}
use Rattle.search_keys.proofs.States.{settling_none, settling_on, settling_end}
use Rattle.search_keys.proofs.settle.Goals as goal

pub loop-x-init : goal.loop-x-init
loop-x-init c =
    let r : 8 + number c.args.kind ≤ 16 = omega (arith, target_bounds c.args.kind c.requires.kind) in
    let w = c.requires.state.rows in (
      subst (λ x. x ≤ 2048) (sym c.highest-end.ensures.highest) (w.high (8 + number c.args.kind) (omega arith) r),
      settling_none _ _ _ _ _ _ _ _ _ c.requires.state (rw (c.highest-end.ensures.highest, c.lowest-low.ensures.lowest) (w.inside (8 + number c.args.kind) (omega arith) r)),
    )

pub pass_key-requires-clause-state : goal.pass_key-requires-clause-state
pass_key-requires-clause-state c = c.loop-x.invariant.1.state

pub loop-x-preserved : goal.loop-x-preserved
loop-x-preserved c = (c.loop-x.invariant.0, settling_on _ _ _ _ _ _ _ _ _ _ c.loop-x.invariant.1 _ c.pass_key.ensures)

pub returns : goal.returns
returns c = let e = settling_end _ _ _ _ _ _ _ _ _ _ c.loop-x.invariant.1 (target_bounds _ c.requires.kind).0 (target_bounds _ c.requires.kind).1 c.loop-x.invariant.0 c.loop-x-test.false c.fence.new.self c.fence.ensures in record { state = e.0; settled = e.1.0; known = e.1.1 }
