-- The bytes before are exchanged.
use Rattle.std.proofs.Common.{◌≡◌, ℕ, ◌<◌, length, get_or}
use Rattle.cases_lines.specs.Signs.{sign_of}
use Rattle.cases_lines.proofs.exchange.Given as goal

abbrev pub invariant-loop-i : goal.invariant-loop-i
invariant-loop-i l = (length l.out ≡ length l.initial.out) × ((k : ℕ) → k < l.i → get_or l.out k 0 ≡ sign_of (get_or l.text k 0))
