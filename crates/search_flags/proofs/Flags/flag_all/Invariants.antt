-- `flag_all`: the places passed are flagged, and no flag is lost.
use Rattle.std.proofs.Common.{◌-◌, ◌≤◌}
use Rattle.search_flags.specs.Flags.{Raising, AllFlagged}
use Rattle.search_flags.specs.Numbers.{row_number}
use Rattle.search_flags.proofs.Flags.flag_all.Given as goal

abbrev pub invariant-loop-i : goal.invariant-loop-i
invariant-loop-i l = (l.i ≤ l.top) × (Raising l.initial.self l.self (row_number l.row) l.top × AllFlagged l.self (row_number l.row) l.i)

abbrev pub decreases-loop-i : goal.decreases-loop-i
decreases-loop-i l = l.top - l.i
