-- The rows by their numbers.
use Rattle.std.specs.Prelude.{ℕ, ◌+◌}
use Rattle.rewriting.specs.Kinds.{number}
use Rattle.search_flags.specs.declared.Row.{Row}
use Rattle.search_flags.specs.declared.Row.TheVariants.{Reach, Target, Key}

-- row k has the flags of the targets of kind k, row 8 + k those of its keys, and row 0 a single one, for the reach
abbrev pub row_number : Row → ℕ
row_number Reach = 0
row_number (Target kind) = number kind
row_number (Key kind) = 8 + number kind
