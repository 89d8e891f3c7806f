-- The closure of the facts, grown by an atom and taken back: the counts for the atoms that are left, and the first clause that lacked no positive atom.
use Rattle.std.specs.Prelude.{◌≡◌, cond, List, ℕ, ◌+◌, ◌≤◌, ◌<◌, eqb, length, get_or, take, set}
use Rattle.std.proofs.Math.Bool.{So}
use Rattle.semantics.specs.Lists.{◌∈◌}
use Rattle.step_reach.specs.Bytes.{in_bytes}
use Rattle.step_reach.specs.Counts.{lacks}

-- Each clause's count is how many of its positive atoms are not among those taken.
pub record Counted (ws ms taken missing : List ℕ) : Type 0 where
  pub exact : (t : ℕ) → t < get_or ws 1 0 → get_or missing t 0 ≡ lacks ws ms taken t

-- clause t is asked for, by its byte, and all its positive atoms are among those taken
abbrev pub Full : List ℕ → List ℕ → List ℕ → List ℕ → ℕ → Type 0
Full ws ms can taken t = (t < get_or ws 1 0) × (So (in_bytes can t) × (lacks ws ms taken t ≡ 0))

-- r is the first below the end that is such a one, or the end.
pub record First (Is : ℕ → Type 0) (end r : ℕ) : Type 0 where
  pub within : r ≤ end
  pub hit : r < end → Is r
  pub before : (u : ℕ) → u < r → ¬ Is u

-- From more atoms to fewer: r is `first`, or a clause below it that is full with the more; and what is below r and full with the more is full with the fewer.
pub record Lowest (ws ms can more fewer : List ℕ) (first r : ℕ) : Type 0 where
  pub within : r ≤ first
  pub hit : r < first → Full ws ms can more r
  pub before : (u : ℕ) → u < r → Full ws ms can more u → Full ws ms can fewer u

-- r is the lesser of `first` and clause t where that is asked for and its count is 0; else `first`.
pub record Lesser (can : List ℕ) (t left first r : ℕ) : Type 0 where
  pub within : r ≤ first
  pub hit : r < first → (r ≡ t) × (So (in_bytes can t) × (left ≡ 0))
  pub least : So (in_bytes can t) → left ≡ 0 → r ≤ t

-- Where place i is kept, clause t lacks one atom more, and r is the lesser by what it lacked; else nothing changes.
pub record CountedOn (ms can missing : List ℕ) (t i first : ℕ) (missing' : List ℕ) (r : ℕ) : Type 0 where
  pub counts : missing' ≡ cond (eqb (get_or ms i 0) 1) (set missing t (get_or missing t 0 + 1)) missing
  pub here : get_or ms i 0 ≡ 1 → Lesser can t (get_or missing t 0) first r
  pub past : (get_or ms i 0 ≡ 1 → ⊥) → r ≡ first

-- Atom k of the queue is not among those before it.
pub record Newest (queue : List ℕ) (k : ℕ) : Type 0 where
  pub there : k < length queue
  pub below : get_or queue k 0 < 1024
  pub once : ¬ (get_or queue k 0 ∈ take k queue)

-- Atoms have left the set, none but those taken.
pub record Cleared (taken s s' : List ℕ) : Type 0 where
  pub less : (a : ℕ) → So (in_bytes s' a) → So (in_bytes s a)
  pub gone : (a : ℕ) → So (in_bytes s a) → ¬ So (in_bytes s' a) → a ∈ taken
