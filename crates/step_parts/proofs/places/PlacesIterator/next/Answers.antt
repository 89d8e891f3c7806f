-- `Places::next` meets its contract.
use native.Mathlib.Omega.{arith}
use Prim.Native.Nat.{◌<◌}
use Rattle.step_parts.proofs.Walk.{latest_less}
use Rattle.step_parts.proofs.places.PlacesIterator.next.Goals as goal

pub invariant_of-self : goal.invariant_of-self
invariant_of-self c =
    let here = c.args.self.now.stands (omega arith) in
    record { stands = λ h. let (l, s) = (c.place_before-self.ensures c.args.self.now.part c.args.self.now.atom _ here.1).some h in (omega (arith, l, here.0), s) }

pub returns-clause-goes : goal.returns-clause-goes
returns-clause-goes c =
    let there : 0 < c.args.self.now.at = omega arith in
    let here = c.args.self.now.stands there in
    record { on = λ _. (tt, tt, latest_less (c.place_before-self.ensures c.args.self.now.part c.args.self.now.atom _ here.1) there); keeps = tt; rests = λ _. tt }
