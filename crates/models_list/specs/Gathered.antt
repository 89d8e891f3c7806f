-- What gathering the clauses of a reduct leaves.
use Rattle.std.specs.Prelude.{◌≡◌, true, false, List, ℕ, ◌≤◌, length, take, Option, Some, None}
use Rattle.std.specs.Int.Bits.{bit_and}
use Rattle.models_masks.specs.declared.Rule.{Rule}
use Rattle.models_masks.specs.Masks.{modelled}
use Rattle.models_list.specs.declared.masks.Masks.{Masks}
use Rattle.models_list.specs.Masks.{reduct_modelled}

-- m satisfies its reduct, and the first k rules ask of the subsets of m what the reduct asks
pub record Gathered (cs : List Masks) (m : ℕ) (rules : List Rule) (k : ℕ) : Type 0 where
  pub most : k ≤ length rules
  pub model : reduct_modelled cs m m ≡ true
  pub asks : (x : ℕ) → bit_and x m ≡ x → modelled (take k rules) x ≡ reduct_modelled cs m x

-- or m fails a clause
abbrev pub Gathers : List Masks → ℕ → List Rule → Option ℕ → Type 0
Gathers cs m rules None = reduct_modelled cs m m ≡ false
Gathers cs m rules (Some k) = Gathered cs m rules k
