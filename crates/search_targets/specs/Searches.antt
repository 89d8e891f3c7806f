-- What a search finds, where it stops, and what is left of its walks.
use Rattle.std.specs.Prelude as rust
use Rattle.std.specs.Prelude.{◌≡◌, Some, None, List, ℕ, ◌-◌, ◌≤◌, ◌<◌, length, get_or}
use Rattle.std.proofs.Math.Bool.{So}
use Rattle.std.proofs.Math.Option.{Option, none, some}
use Rattle.rewriting.specs.Marked.{entry, left}
use Rattle.rewriting.specs.Steps.{Step, step}
use Rattle.rewriting.specs.Reducer.{eligible}
use Rattle.rewriting.specs.Kinds.{Kind}
use Rattle.rewriting.specs.Search.{step_with, first_partner}
use Rattle.rewriting.proofs.Order.{first_in, asked}
use Rattle.table.specs.View.{view}
use Rattle.step_parts.specs.declared.marked.Marked.{Marked}
use Rattle.step_parts.specs.Reading.{atom_count, words_of, marks_of, program_of, clause_of}
use Rattle.search_spreads.specs.declared.Facts.{Facts}
use Rattle.search_keys.specs.State.{Arrays}
use Rattle.step_conditions.specs.declared.Step as row

-- a step as the search gives it
unfoldable pub found_of : Option Step → rust.Option (row.Step Kind)
found_of none = None
found_of (some s) = Some (record { kind = s.kind; target = s.target; partner = s.partner; atom = s.atom })

-- where a search stopped: at the target found, or at the end
unfoldable pub stopped_at : rust.Option (row.Step Kind) → ℕ → ℕ
stopped_at (Some s) end = s.target
stopped_at None end = end

-- what the search of a kind reads beside the flags
abbrev pub ArraysOf : Facts → Kind → Type 0
ArraysOf f kind = Arrays (words_of f.program.now) (marks_of f.program.now) f.program.now.table.index.now f.heads.now f.reach.now kind

-- what is left of the walk in clause t: the first of these atoms that makes the condition hold is the first of all
abbrev pub PartWalk : Marked → Kind → ℕ → List ℕ → Type 0
PartWalk p kind t atoms = first_in (λ a. step kind t 0 a) (asked kind (left (program_of p)) (clause_of p t)) atoms ≡ first_partner (atom_count p.table) (program_of p) kind t

-- The partners below e are all that the target t can have in an eligible step.
pub record Partners (ws ms : List ℕ) (kind : Kind) (t e : ℕ) : Type 0 where
  pub most : e ≤ get_or ws 1 0
  pub kept : 0 < e → So (entry (view ws ms) t).kept
  pub all : (p : ℕ) → So (eligible (get_or ws 0 0) (view ws ms) (step_with (view ws ms) kind t p)) → p < e
