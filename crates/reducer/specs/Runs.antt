-- What the reducer's loop starts from and comes to.
use Rattle.std.specs.Prelude.{◌≡◌, ◌≢◌, List, ℕ, ◌*◌, ◌≤◌, ◌<◌, length, get_or}
use Rattle.std.proofs.Math.Bool.{So}
use Rattle.std.proofs.lemmas.List.Edits.{sets}
use Rattle.rewriting.specs.Marked.{whole}
use Rattle.rewriting.specs.Kinds.{Kind}
use Rattle.rewriting.specs.Steps.{applies}
use Rattle.table.specs.Programs.{program_of}
use Rattle.table.specs.View.{view}
use Rattle.table.specs.Effects.{marks_after_all}
use Rattle.step_conditions.specs.declared.Step.{Step}
use Rattle.step_conditions.specs.Known.{step_of}
use Rattle.search_flags.specs.Flags.{flag_at, next, Rows, AllFlagged}
use Rattle.reducer_results.specs.Reductions.{room, steps_of}
use Rattle.table.specs.StepWords.{words_of}
use Rattle.search_openings.specs.Opened.{AtomFresh, PartnerFresh}

-- Every target of kinds 1 and 2 is flagged, every key of the others is fresh, the reach is not known, and no clause is known to be gone.
pub record AllOpen (flags : List ℕ) (m : ℕ) : Type 0 where
  pub rows : Rows m flags
  pub reach : flag_at flags 0 0 ≢ 0
  pub tautology : AllFlagged flags 1 m
  pub contradiction : AllFlagged flags 2 m
  pub partner : (t : ℕ) → t < 2048 → PartnerFresh flags t
  pub atom : (a : ℕ) → a < 2048 → AtomFresh flags a
  pub none : (i : ℕ) → i < 2048 → next flags i ≡ 0

-- A step that the search found.
pub record StepFound (ws ms : List ℕ) (s : Step Kind) : Type 0 where
  pub applies : So (applies (get_or ws 0 0) (view ws ms) (step_of s))

-- All marks are 1, and the list has room.
pub record Begun (ws ms ls : List ℕ) : Type 0 where
  pub whole : view ws ms ≡ whole (program_of ws).clauses
  pub room : 4 * room ws ≤ length ls

-- The reducer's list is made and written, and the marks are those after it.
pub record Reduced (ws ms ls ms' ls' : List ℕ) (s : ℕ) : Type 0 where
  pub number : s ≡ length (steps_of ws)
  pub marks : ms' ≡ marks_after_all ws ms (steps_of ws)
  pub list : ls' ≡ sets ls 0 (words_of (steps_of ws))
