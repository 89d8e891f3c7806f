-- What has to be open where the only clause with an atom in its head is deleted, and what not: a failure, and by slip 6 no loop step.
use mathlib.Core.Path.{◌≡◌, refl}
use mathlib.Core.Bool.{true, false, So}
use mathlib.Core.List.{[], ◌∷◌}
use Rattle.rewriting.specs.Marked.{Marked, left, deleted}
use Rattle.rewriting.specs.Kinds.{no_head, failure, loop}
use Rattle.rewriting.specs.Reaches.{fire, reach_from, reach}
use Rattle.rewriting.specs.Steps.{step, in_no_head, condition, condition_holds, applies}

-- 0 <- 1. 2 <- ~1., and 1. is deleted
abbrev given : Marked
given = record { kept = true; clause = record { head = 0 ∷ []; pos = 1 ∷ []; neg = [] } } ∷ record { kept = true; clause = record { head = 2 ∷ []; pos = []; neg = 1 ∷ [] } }
    ∷ deleted (record { head = 1 ∷ []; pos = []; neg = [] }) ∷ []

pub no_head_open : So (applies 3 given (step no_head 1 0 1))
unfolding left in_no_head condition condition_holds applies
no_head_open = refl

pub failure_open : So (applies 3 given (step failure 0 0 1))
unfolding left in_no_head condition condition_holds applies
failure_open = refl

pub no_loop : applies 3 given (step loop 0 0 1) ≡ false
unfolding left in_no_head fire reach_from reach condition condition_holds applies
no_loop = refl
