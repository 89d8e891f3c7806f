-- The words of a part, whose place and count are known by other names.
use Prim.Native.Nat.{ℕ, ◌+◌, ◌-◌}
use mathlib.Core.Path.{◌≡◌}
use mathlib.Core.List.{List}
use native.Mathlib.Omega.{arith}
use lib.ListN.{take, drop}

pub part_at : (ws : List ℕ) (a b h p : ℕ) → a ≡ b → h ≡ p → take (a + h - a) (drop a ws) ≡ take p (drop b ws)
part_at ws a b h p e q = let k : a + h - a ≡ p = omega arith in rw (k, e)
