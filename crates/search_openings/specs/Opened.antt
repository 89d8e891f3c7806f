-- What a step opens.
use Rattle.std.specs.Prelude.{◌≡◌, ◌≢◌, ◌⊎◌, List, ℕ, ◌≤◌, ◌<◌, length, get_or}
use Rattle.std.proofs.Math.Bool.{So}
use Rattle.semantics.specs.Lists.{◌∈◌}
use Rattle.semantics.proofs.Models.{All}
use Rattle.rewriting.specs.Kinds.{Kind, on_target}
use Rattle.rewriting.specs.Reaches.{reach}
use Rattle.rewriting.specs.Steps as steps
use Rattle.rewriting.proofs.Reopen.{SameHead}
use Rattle.rewriting.specs.Marked.{entry, left}
use Rattle.rewriting.specs.Steps.{applies}
use Rattle.table.specs.View.{view}
use Rattle.step_conditions.specs.declared.Step.{Step}
use Rattle.step_conditions.specs.Known.{step_of}
use Rattle.search_flags.specs.Flags.{flag_at, most, next, Rows, NoFlagLost}

-- No flag is lost.
pub record Opened (flags flags' : List ℕ) : Type 0 where
  pub long : length flags' ≡ length flags
  pub grown : NoFlagLost flags flags'
  pub lower : (r i : ℕ) → r ≤ 16 → i < 2048 → flag_at flags r i ≢ 0 → flag_at flags' r i ≤ flag_at flags r i
  pub rows : (m : ℕ) → Rows m flags → Rows m flags'
  pub more : (i : ℕ) → i < 2048 → most flags i ≤ most flags' i
  pub rest : (i : ℕ) → i < 2048 → next flags' i ≡ next flags i

-- The clause is a fresh key of kinds 3, 5 and 8.
pub record PartnerFresh (flags : List ℕ) (t : ℕ) : Type 0 where
  pub success : flag_at flags 11 t ≢ 0
  pub blocked : flag_at flags 13 t ≢ 0
  pub subsumed : flag_at flags 16 t ≢ 0

-- The atom is a fresh key of kinds 4 and 6.
pub record AtomFresh (flags : List ℕ) (a : ℕ) : Type 0 where
  pub no_head : flag_at flags 12 a ≢ 0
  pub failure : flag_at flags 14 a ≢ 0

-- So is every atom of a list.
abbrev pub AllFresh : List ℕ → List ℕ → Type 0
AllFresh flags l = (a : ℕ) → a ∈ l → AtomFresh flags a

-- The step is of kinds 1 to 8, and applies.
pub record StepMade (ws ms : List ℕ) (s : Step Kind) : Type 0 where
  pub on : So (on_target s.kind)
  pub applies : So (applies (get_or ws 0 0) (view ws ms) (step_of s))

-- Where the first flag stays 0, the deletion leaves the reach as it is: the clause did not fire, or its partner fires in its place.
pub record Lost (ws ms flags flags' : List ℕ) (s : steps.Step) : Type 0 where
  pub opened : Opened flags flags'
  pub keeps : flag_at flags' 0 0 ≡ 0 → (¬ All (reach (left (view ws ms))) (entry (view ws ms) s.target).clause.pos) ⊎ SameHead (view ws ms) s
