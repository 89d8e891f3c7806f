-- `Atoms::within` meets its contract. The invariant: what is left of the first part is within the second exactly if the whole is, and the
-- words of the second that were passed are below all that is left of the first.
use Prim.Native.Nat.{ℕ, ◌≤◌, ◌<◌}
use mathlib.Core.Path.{◌≡◌}
use lib.ListN.{length, get_or}
use Rattle.std.proofs.Math.Bool.{So}
use Rattle.semantics.specs.Lists.{◌∈◌, within, ascending}
use Rattle.table.specs.Slices.{kept_of}
use Rattle.step_parts.proofs.atoms.Atoms.within.Given as goal

abbrev pub invariant-loop-atom : goal.invariant-loop-atom
invariant-loop-atom l =
    let rest = kept_of l.atom-iterator.words.now l.atom-iterator.marks.now in
    let others = kept_of l.other.words.now l.other.marks.now in
    goal.iterator-loop-atom.can_next l.atom-iterator
    × goal.iterator-loop-atom.is_finite l.atom-iterator
    × (l.at ≤ length l.other.words.now)
    × (within rest others ≡ within (kept_of l.self.words.now l.self.marks.now) others)
    × So (ascending rest)
    × ((a k : ℕ) → a ∈ rest → k < l.at → get_or l.other.words.now k 0 < a)
