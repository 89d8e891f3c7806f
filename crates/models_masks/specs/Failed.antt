-- Clauses that a set fails.
use Rattle.std.specs.Prelude.{◌≡◌, false, not, Some, List, ℕ}
use Rattle.std.specs.List.{find}
use Rattle.semantics.specs.Lists.{◌∈◌}
use Rattle.models_masks.specs.declared.Rule.{Rule}
use Rattle.models_masks.specs.Masks.{holds}

-- the first of the clauses that the set x fails
pub record Fails (rules : List Rule) (rule : Rule) (x : ℕ) : Type 0 where
  pub one : rule ∈ rules
  pub fails : holds rule.body rule.head x ≡ false
  pub first : find (λ (r : Rule). not (holds r.body r.head x)) rules ≡ Some rule
