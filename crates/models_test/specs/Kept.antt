-- What the functions that list a table's clauses as masks need and leave.
use Rattle.std.specs.Prelude.{◌≡◌, ◌&&◌, List, ℕ, ◌+◌, ◌≤◌, length, get_or}
use Rattle.semantics.specs.Lists.{all}
use Rattle.semantics.specs.Programs.{Clause, among}
use Rattle.table.specs.Questions.{Passed}
use Rattle.table.specs.Encoding.{Ordered}
use Rattle.table.specs.Programs.{program_of}
use Rattle.models_masks.specs.declared.Rule.{Rule}
use Rattle.models_masks.specs.Masks.{mask_of, modelled, clause_holds}

-- the masks of a clause over the set
pub record RuleOf (set : List ℕ) (c : Clause) (rule : Rule) : Type 0 where
  pub body : rule.body ≡ mask_of set (among c.pos)
  pub head : rule.head ≡ mask_of set (among c.head)

-- with one clause more, its masks ask what it asks
pub record Added (set : List ℕ) (c : Clause) (before after : List Rule) : Type 0 where
  pub most : length after ≤ length before + 1
  pub asks : (x : ℕ) → modelled after x ≡ (clause_holds set x c && modelled before x)

-- the masks ask what the table's clauses ask
abbrev pub Filled : List ℕ → List ℕ → List Rule → Type 0
Filled ws set rules = (x : ℕ) → modelled rules x ≡ all (λ c. clause_holds set x c) (program_of ws).clauses

-- a table that passed 1 to 8, and a set that passed 19 to 21
pub record Testable (ws set : List ℕ) : Type 0 where
  pub passed : Passed ws
  pub small : length set ≤ 16
  pub ordered : Ordered (get_or ws 0 0) set
