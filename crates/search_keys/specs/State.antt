-- What the search knows: the arrays beside the words and the marks, and which targets it need not look at. In the order in which they are used:
-- `Quiet` (`rewriting/proofs/Quiet`): of a kind, no step is eligible but at a flagged target or with a fresh key.
-- `State`, between two steps: the arrays are right, and every kind but 9 is quiet.
-- `Settled`, of a kind: no key is fresh. `Prepared`: that, and for kind 7 the reach is known; then its search can begin.
-- `Calm`, while a kind is searched: quiet with no fresh key, so that a target without a flag has no eligible step.
-- `Lifted`: a flag went up past clauses that are gone, and the kind is still calm.
-- `Swept`, after the search: calm, and nothing but the kind's own flags changed, so that it is a `State` again.
use Rattle.std.specs.Prelude.{◌≡◌, ◌≢◌, ◌⊎◌, true, List, ℕ, ◌+◌, ◌*◌, ◌≤◌, ◌<◌, length, get_or}
use Rattle.std.proofs.Math.Bool.{So}
use Rattle.rewriting.specs.Marked.{entry, left}
use Rattle.rewriting.specs.Steps.{Step, condition}
use Rattle.rewriting.specs.Reducer.{eligible}
use Rattle.rewriting.specs.Kinds.{Kind, success, loop, subsumed, number, uses_partner, on_target}
use Rattle.rewriting.proofs.Quiet.{Quiet, stale, key}
use Rattle.table.specs.View.{view}
use Rattle.step_parts.specs.Parts.{Ready}
use Rattle.step_reach.specs.Bytes.{Reached}
use Rattle.step_conditions.specs.Known.{Heads}
use Rattle.search_flags.specs.Flags.{flag_at, most, next, Covered, Inside, Rows, Raising, nexts}

-- The arrays: the clauses' starts, the number of kept heads of each atom and, for kind 7, the reach.
pub record Arrays (ws ms index hs rs : List ℕ) (kind : Kind) : Type 0 where
  pub ready : Ready ws ms index
  pub counted : Heads ws ms hs
  pub reached : kind ≡ loop → Reached ws ms rs

-- Where a kind has a partner, a target's flag is no more than one above the partner of any eligible step whose key is not fresh.
abbrev pub Least : List ℕ → List ℕ → Kind → (ℕ → ℕ) → (ℕ → ℕ) → Type 0
Least ws ms k flags fresh = So (uses_partner k) → (u : Step) → u.kind ≡ k → fresh (key u) ≡ 0 → So (eligible (get_or ws 0 0) (view ws ms) u) → flags u.target ≤ key u + 1

-- The partner of an eligible step of kind 3 whose key is not fresh is below a bound of the target.
abbrev pub Most : List ℕ → List ℕ → (ℕ → ℕ) → (ℕ → ℕ) → Type 0
Most ws ms top fresh = (u : Step) → u.kind ≡ success → fresh (key u) ≡ 0 → So (eligible (get_or ws 0 0) (view ws ms) u) → key u + 1 ≤ top u.target

-- From a clause up to its number every clause is gone.
abbrev pub Gaps : List ℕ → List ℕ → List ℕ → Type 0
Gaps ws ms flags = (p j : ℕ) → p < 2048 → p ≤ j → j < next flags p → ¬ So (entry (view ws ms) j).kept

-- A target of the kind without a flag has no eligible step.
pub record Calm (ws ms flags : List ℕ) (kind : Kind) : Type 0 where
  pub rows : Rows (get_or ws 1 0) flags
  pub least : Least ws ms kind (flag_at flags (number kind)) stale
  pub bounded : kind ≡ success → Most ws ms (most flags) stale
  pub gaps : Gaps ws ms flags
  pub quiet : Quiet (get_or ws 0 0) (view ws ms) kind (flag_at flags (number kind)) stale

-- A search of the kind changed flags of its own, and nothing else but the numbers of gone clauses.
pub record Swept (ws ms flags flags' : List ℕ) (kind : Kind) : Type 0 where
  pub calm : Calm ws ms flags' kind
  pub frame : (j : ℕ) → j < nexts → (j < number kind * 2048) ⊎ (number kind * 2048 + 2048 ≤ j) → get_or flags' j 0 ≡ get_or flags j 0

-- The clauses from q up to r are gone.
pub record Skipped (ws ms flags flags' : List ℕ) (q e r : ℕ) : Type 0 where
  pub less : r ≤ e
  pub gone : (j : ℕ) → q ≤ j → j < r → ¬ So (entry (view ws ms) j).kept
  pub gaps : Gaps ws ms flags'
  pub long : length flags' ≡ length flags
  pub same : (j : ℕ) → j < nexts → get_or flags' j 0 ≡ get_or flags j 0

-- The flag of a target of the kind went up past clauses that are gone.
pub record Lifted (ws ms flags flags' : List ℕ) (kind : Kind) (t : ℕ) : Type 0 where
  pub swept : Swept ws ms flags flags' kind
  pub flagged : flag_at flags' (number kind) t ≢ 0
  pub inside : (low end : ℕ) → Inside flags (number kind) low end → Inside flags' (number kind) low end

-- Clause q stands before x, subsumes it and is no fresh key of the kind, 5 or 8: every eligible target of x is one of q.
pub record Subsumer (ws ms flags : List ℕ) (kind : Kind) (x q : ℕ) : Type 0 where
  pub less : q < x
  pub stale : flag_at flags (8 + number kind) q ≡ 0
  pub kept : (entry (view ws ms) q).kept ≡ true
  pub holds : So (condition subsumed (left (view ws ms)) (entry (view ws ms) x).clause (entry (view ws ms) q).clause 0)

-- Every target that has an eligible step with the key is flagged; the key is what a step names beside its target, the partner or the atom.
pub record KeySpread (ws ms flags flags' : List ℕ) (kind : Kind) (x : ℕ) : Type 0 where
  pub raising : Raising flags flags' (number kind) (get_or ws 1 0)
  pub flagged : (u : Step) → u.kind ≡ kind → key u ≡ x → So (eligible (get_or ws 0 0) (view ws ms) u) → (flag_at flags' (number kind) u.target ≢ 0) × (So (uses_partner kind) → Covered flags' (number kind) u.target x)

-- no key of the kind is fresh
abbrev pub Settled : List ℕ → Kind → Type 0
Settled flags kind = (x : ℕ) → x < 2048 → flag_at flags (8 + number kind) x ≡ 0

-- the search of a kind goes by its flags: kind 9 has none, and kind 7 needs the reach
abbrev pub Flagged : Kind → List ℕ → Type 0
Flagged k flags = So (on_target k) × (k ≡ loop → flag_at flags 0 0 ≡ 0)

-- Between two steps: the arrays are what the words and the marks say, and no step of kinds 1 to 8 is eligible but those at flagged targets and fresh keys.
-- The reach is that of the program while its flag is 0.
pub record State (ws ms index hs rs flags : List ℕ) : Type 0 where
  pub ready : Ready ws ms index
  pub counted : Heads ws ms hs
  pub atoms : get_or ws 0 0 ≤ length hs
  pub bytes : get_or ws 0 0 ≤ length rs
  pub rows : Rows (get_or ws 1 0) flags
  pub reached : flag_at flags 0 0 ≡ 0 → Reached ws ms rs
  pub quiet : (k : Kind) → Flagged k flags → Quiet (get_or ws 0 0) (view ws ms) k (flag_at flags (number k)) (flag_at flags (8 + number k))
  pub least : (k : Kind) → Least ws ms k (flag_at flags (number k)) (flag_at flags (8 + number k))
  pub bounded : Most ws ms (most flags) (flag_at flags 11)
  pub gaps : Gaps ws ms flags

-- One key is no longer fresh, and the others stay as they were.
pub record KeyPassed (ws ms index hs rs flags flags' : List ℕ) (kind : Kind) (x : ℕ) : Type 0 where
  pub state : State ws ms index hs rs flags'
  pub long : length flags' ≡ length flags
  pub reach : flag_at flags' 0 0 ≡ flag_at flags 0 0
  pub gone : flag_at flags' (8 + number kind) x ≡ 0
  pub rest : (i : ℕ) → i < 2048 → i ≢ x → flag_at flags' (8 + number kind) i ≡ flag_at flags (8 + number kind) i

-- The search of a kind can begin.
pub record Prepared (ws ms index hs rs flags : List ℕ) (kind : Kind) : Type 0 where
  pub state : State ws ms index hs rs flags
  pub known : kind ≡ loop → flag_at flags 0 0 ≡ 0
  pub settled : Settled flags kind
