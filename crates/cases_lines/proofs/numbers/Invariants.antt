-- No more numbers than there is room for.
use Rattle.std.proofs.Common.{◌≡◌, ◌≤◌, length}
use Rattle.cases_lines.proofs.numbers.Given as goal

abbrev pub invariant-loop-digits : goal.invariant-loop-digits
invariant-loop-digits l = (length l.out ≡ length l.initial.out) × (l.n ≤ length l.out)
