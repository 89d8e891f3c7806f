-- The four words of a step, and what a call returns and leaves.
use Rattle.std.specs.Prelude.{◌≡◌, List, ℕ, ◌+◌, ◌*◌, get_or}
use Rattle.rewriting.specs.Kinds.{kind_of}
use Rattle.rewriting.specs.Steps.{Step, step}
use Rattle.answers.specs.Answers.{Answer}
use Rattle.step_lists.specs.Lists.{Outcome}

-- "four a step: kind, target, partner, atom", the kind as a number.
pub record Words : Type 0 where
  pub kind : ℕ
  pub target : ℕ
  pub partner : ℕ
  pub atom : ℕ

-- the words of step k
abbrev pub words_at : List ℕ → ℕ → Words
words_at ls k = record { kind = get_or ls (4 * k) 0; target = get_or ls (4 * k + 1) 0; partner = get_or ls (4 * k + 2) 0; atom = get_or ls (4 * k + 3) 0 }

-- and the step that words name
abbrev pub step_named : Words → Step
step_named w = step (kind_of w.kind) w.target w.partner w.atom

-- What a call returns and what the marks hold after it are those of an outcome.
pub record Leaves (o : Outcome) (r : Answer) (ms : List ℕ) : Type 0 where
  pub answer : r ≡ o.answer
  pub marks : ms ≡ o.marks
