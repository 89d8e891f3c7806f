-- How sets of atoms and closures grow: the words of Counts, said of the structs.
use Rattle.std.specs.Prelude.{◌≡◌, List, ℕ, take}
use Rattle.step_parts.specs.Reading.{words_of, marks_of, program_of}
use Rattle.step_parts.specs.declared.marked.Marked.{Marked}
use Rattle.step_reach.specs.declared.set.AtomSet.{AtomSet}
use Rattle.step_reach.specs.declared.closure.Closure.{Closure}
use Rattle.step_reach.specs.Counts.{Queued, Joined, QueueSpread, Rest, CountRoom, Lowered, ReachSettled, WithSettled}

-- the lent arrays are the same
abbrev pub IsSameSet : AtomSet → AtomSet → Type 0
IsSameSet s s' = (s'.bytes.ghost_name ≡ s.bytes.ghost_name) × (s'.queue.ghost_name ≡ s.queue.ghost_name)

-- the lent arrays are the same
abbrev pub IsSameClosure : Closure → Closure → Type 0
IsSameClosure c c' = (c'.bytes.ghost_name ≡ c.bytes.ghost_name) × (c'.missing.ghost_name ≡ c.missing.ghost_name) × (c'.queue.ghost_name ≡ c.queue.ghost_name)

-- the arrays have room for a byte for each atom and a count for each clause
abbrev pub HasRoom : Marked → Closure → Type 0
HasRoom p c = CountRoom (words_of p) c.bytes.now c.missing.now

-- the queue holds the atoms of the set
abbrev pub IsQueued : Closure → Type 0
IsQueued c = Queued c.bytes.now c.queue.now c.top

-- the atoms of X have joined
abbrev pub HasJoined : (ℕ → Type 0) → AtomSet → AtomSet → Type 0
HasJoined X s s' = Joined X s.bytes.now s.queue.now s.top s'.bytes.now s'.queue.now s'.top

-- the same of a closure
abbrev pub HasGained : (ℕ → Type 0) → Closure → Closure → Type 0
HasGained X c c' = Joined X c.bytes.now c.queue.now c.top c'.bytes.now c'.queue.now c'.top

-- the closure has grown: what joined lies in every closed set that holds what was there
abbrev pub HasSpread : Marked → Closure → Closure → Type 0
HasSpread p c c' = QueueSpread (program_of p) c.bytes.now c.queue.now c.top c'.bytes.now c'.queue.now c'.top

-- of the clauses before m, with the first k atoms taken, the counts are right, and heads have joined where the count is 0
abbrev pub Leaves : Marked → ℕ → ℕ → Closure → Type 0
Leaves p m k c = Rest (words_of p) (marks_of p) m k c.bytes.now c.missing.now c.queue.now c.top

-- the atoms of the closure in the order in which they joined
abbrev pub taken : Closure → List ℕ
taken c = take c.top c.queue.now

-- place i of clause t is counted off
abbrev pub HasLowered : Marked → ℕ → ℕ → Closure → Closure → Type 0
HasLowered p t i c c' = Lowered (words_of p) (marks_of p) c.bytes.now c.missing.now c.queue.now c.top t i c'.bytes.now c'.missing.now c'.queue.now c'.top

-- the reach, with every atom of it taken
abbrev pub IsSettled : Marked → Closure → Type 0
IsSettled p c = ReachSettled (words_of p) (marks_of p) c.bytes.now c.missing.now c.queue.now c.top

-- one atom more, and all that follows from it
abbrev pub IsSettledWith : Marked → ℕ → Closure → Closure → Type 0
IsSettledWith p a c c' = WithSettled (words_of p) (marks_of p) a c.queue.now c.top c'.bytes.now c'.missing.now c'.queue.now c'.top
