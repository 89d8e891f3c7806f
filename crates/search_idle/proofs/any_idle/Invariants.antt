-- `search_idle::any_idle` meets its contract. The invariant: no byte passed is 1 while none was found.
use mathlib.Core.Path.{◌≡◌}
use mathlib.Core.Bool.{false}
use Rattle.search_exclusion.specs.Tries.{Unset}
use Rattle.search_idle.proofs.any_idle.Given as goal

abbrev pub invariant-loop-byte : goal.invariant-loop-byte
invariant-loop-byte l = l.any ≡ false → Unset l.idle l.byte-index
