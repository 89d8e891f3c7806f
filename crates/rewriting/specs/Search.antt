-- The reducer's choice of a step and its list, computed by a search.
use Rattle.std.specs.Prelude.{Bool, true, false, cond, List, [], ◌∷◌, ℕ, zero, suc, length, get_or}
use Rattle.std.proofs.Math.Option.{Option, none, some}
use Rattle.semantics.specs.Programs.{Clause}
use Rattle.rewriting.specs.Marked.{Marked, entry}
use Rattle.rewriting.specs.Kinds.{Kind, kind_of, uses_partner, uses_atom}
use Rattle.rewriting.specs.Steps.{Step, step, effect}
use Rattle.rewriting.specs.Reducer.{eligible}

-- the one atom that a step of a kind with a partner can name: the partner's head atom for kind 3, and 0 where unused
abbrev pub partner_atom : Kind → Clause → ℕ
partner_atom k d = cond (uses_atom k) (get_or d.head 0 0) 0

-- the one step of a kind with a partner that can apply with target t and partner p
abbrev pub step_with : Marked → Kind → ℕ → ℕ → Step
step_with P k t p = step k t p (partner_atom k (entry P p).clause)

-- the first of f 0, .., f (k - 1) that is something
unfoldable pub least : {B : Type 0} → ℕ → (ℕ → Option B) → Option B
least zero f = none
least (suc k) f = elim (least k f) [ none ↦ f k | some b ↦ some b ]

abbrev pub given : Bool → Step → Option Step
given true s = some s
given false s = none

-- kinds in order, targets and partners below m, atoms below n; 0 where unused
unfoldable pub first_atom : ℕ → Marked → Kind → ℕ → ℕ → Option Step
unfolding least eligible
first_atom n P k t p = least (cond (uses_atom k) n 1) (λ a. given (eligible n P (step k t p a)) (step k t p a))

unfoldable pub first_partner : ℕ → Marked → Kind → ℕ → Option Step
unfolding least first_atom
first_partner n P k t = least (cond (uses_partner k) (length P) 1) (λ p. first_atom n P k t p)

unfoldable pub first_target : ℕ → Marked → Kind → Option Step
unfolding least first_partner
first_target n P k = least (length P) (λ t. first_partner n P k t)

unfoldable pub first_step : ℕ → Marked → Option Step
unfolding least first_target
first_step n P = least 9 (λ i. first_target n P (kind_of (suc i)))

-- the reducer's list: the first step, again and again, at most `fuel` times
unfoldable pub reduce : ℕ → ℕ → Marked → List Step
unfolding first_step effect
reduce n zero P = []
reduce n (suc fuel) P = elim (first_step n P) [ none ↦ [] | some s ↦ s ∷ reduce n fuel (effect P s) ]
