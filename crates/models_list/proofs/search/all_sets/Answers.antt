-- `models_list::search::all_sets` meets its contract.
use Prim.Native.Nat.{◌*◌, ◌^◌}
use mathlib.Core.Path.{◌≡◌}
use native.Mathlib.Omega.{arith}
use native.Mathlib.Nat.{one-mul, mod-eq_of_lt}
use lib.Pow.{pow_mono}
use Rattle.models_list.proofs.search.all_sets.Goals as goal

pub returns : goal.returns
returns c = let e : 1 * 2 ^ c.from.result ≡ 2 ^ c.args.atoms = rw c.from.ensures (one-mul _) in rw e (mod-eq_of_lt (omega (arith, pow_mono {i = c.args.atoms} {j = 16} c.requires)))
