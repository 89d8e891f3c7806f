-- `first_flagged`: the kinds passed have no step.
use Prim.Native.Nat.{ℕ, suc, ◌<◌}
use mathlib.Core.Path.{◌≡◌}
use mathlib.Core.Option.{none}
use Rattle.rewriting.specs.Kinds.{kind_of}
use Rattle.rewriting.specs.Search.{first_target}
use Rattle.step_parts.specs.Reading.{atom_count, program_of}
use Rattle.search_keys.specs.States.{StateOf}
use Rattle.search_first.proofs.first_flagged.Given as goal

abbrev pub invariant-loop-kind : goal.invariant-loop-kind
invariant-loop-kind l = StateOf l.program l.heads l.reach l.flags × ((j : ℕ) → j < l.kind-index → first_target (atom_count l.program.table) (program_of l.program) (kind_of (suc j)) ≡ none)
