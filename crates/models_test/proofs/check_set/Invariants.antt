-- `models_test::check_set` meets its contract.
use Prim.Native.Nat.{◌-◌}
use mathlib.Core.Path.{◌≡◌}
use lib.ListN.{length}
use Rattle.models_test.specs.Answer.{set_from}
use Rattle.models_test.proofs.check_set.Given as goal

abbrev pub invariant-loop-i : goal.invariant-loop-i
invariant-loop-i l = set_from l.set l.atoms l.low l.i (length l.set - l.i) ≡ set_from l.set l.atoms 0 0 (length l.set)
