-- What the search for all stable models needs.
use Rattle.std.specs.Prelude.{◌≡◌, List, ℕ, ◌≤◌, length, get_or, map}
use Rattle.table.specs.Questions.{Passed}
use Rattle.table.specs.Programs.{program_of}
use Rattle.models_masks.specs.declared.Rule.{Rule}
use Rattle.models_list.specs.declared.masks.Masks.{Masks}
use Rattle.models_list.specs.Masks.{masks_of}

-- a table that passed 1 to 8 and 30
pub record Listable (ws : List ℕ) : Type 0 where
  pub passed : Passed ws
  pub few : get_or ws 0 0 ≤ 16

-- its clauses' masks, and room for those that enter
pub record Searchable (ws : List ℕ) (cs : List Masks) (rules : List Rule) : Type 0 where
  pub listable : Listable ws
  pub masked : cs ≡ map masks_of (program_of ws).clauses
  pub room : length cs ≤ length rules
