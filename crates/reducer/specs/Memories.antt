-- The state of the reducer's memory.
use Rattle.std.specs.Prelude.{List, ℕ}
use Rattle.step_parts.specs.declared.marked.Indexed.{Indexed}
use Rattle.search_keys.specs.States.{StateAt}
use Rattle.reducer.specs.declared.Memory.{Memory}

-- the memory is what a table with these marks says
abbrev pub StateIn : Indexed → List ℕ → Memory → Type 0
StateIn t ms m = StateAt t ms m.heads m.reach m.flags
