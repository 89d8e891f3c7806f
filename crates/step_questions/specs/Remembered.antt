-- What is remembered of a program from step to step.
use Rattle.std.specs.Prelude.{◌≡◌, true, List, ℕ, ◌≤◌, length, get_or}
use Rattle.step_reach.specs.Bytes.{Reached}
use Rattle.step_conditions.specs.Known.{Heads}
use Rattle.step_questions.specs.declared.memory.Memory.{Memory}

-- the lent arrays are the same
abbrev pub IsSameMemory : Memory → Memory → Type 0
IsSameMemory m m' = (m'.heads.ghost_name ≡ m.heads.ghost_name) × (m'.reached.ghost_name ≡ m.reached.ghost_name)

-- There is room for every atom, and what is said to be known is right.
pub record Holding (ws ms : List ℕ) (m : Memory) : Type 0 where
  pub room : (get_or ws 0 0 ≤ length m.heads.now) × (get_or ws 0 0 ≤ length m.reached.now)
  pub heads : m.known.heads ≡ true → Heads ws ms m.heads.now
  pub reached : m.known.reached ≡ true → Reached ws ms m.reached.now
