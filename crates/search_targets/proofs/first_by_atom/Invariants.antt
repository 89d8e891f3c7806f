-- `first_by_atom`: targets passed have no step; in the walk, what is left of the part decides.
use Prim.Native.Nat.{◌-◌}
use mathlib.Core.Path.{◌≡◌}
use Rattle.std.specs.Prelude.{None}
use Rattle.rewriting.specs.Kinds.{number}
use Rattle.search_keys.specs.State.{Swept}
use Rattle.table.specs.Slices.{kept_of}
use Rattle.search_targets.specs.Searches.{PartWalk}
use Rattle.search_flags.specs.Flags.{Inside}
use Rattle.search_targets.proofs.first_by_atom.Given as goal

abbrev pub invariant-loop-atom : goal.invariant-loop-atom
invariant-loop-atom l =
    goal.iterator-loop-atom.can_next l.atom-iterator
    × goal.iterator-loop-atom.is_finite l.atom-iterator
    × (l.found ≡ None)
    × PartWalk l.facts.program.now l.kind l.t (kept_of l.atom-iterator.words.now l.atom-iterator.marks.now)

abbrev pub invariant-search : goal.invariant-search
invariant-search l = (l.found ≡ None) × (Swept l.facts.program.now.table.words.now l.facts.program.now.marks.now l.initial.flags l.flags l.kind × Inside l.flags (number l.kind) l.t l.end)

abbrev pub decreases-search : goal.decreases-search
decreases-search l = l.end - l.t
