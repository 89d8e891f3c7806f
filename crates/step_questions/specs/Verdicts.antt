-- What the functions on one step answer: a verdict, and the marks after it.
use Rattle.std.specs.Prelude.{◌≡◌, Result, Ok, Err, List, ℕ, get_or}
use Rattle.std.proofs.Math.Bool.{So}
use Rattle.answers.specs.declared.StepQuestion.{StepQuestion}
use Rattle.rewriting.specs.Marked.{Marked}
use Rattle.rewriting.specs.Kinds.{number}
use Rattle.rewriting.specs.Steps.{Step, target_kept, partner_kept, atom_known, atom_matches}
use Rattle.table.specs.View.{view}
use Rattle.table.specs.Effects.{marks_after}
use Rattle.table.specs.StepWords.{kind_at, step_at}
use Rattle.step_questions.specs.Questions.{shape_questions, condition_questions, step_questions}

-- what the questions of a step come to: the first that is answered no, if any is
abbrev pub Verdict : Type 0
Verdict = Result Unit StepQuestion

-- questions 12 to 15 and 29 of a step, with what follows them; 32 and 16; and the whole, of a step whose kind is given as the number k
abbrev pub shape_of : ℕ → Marked → Step → Verdict → Verdict
shape_of n P s v = shape_questions Err n P (number s.kind) s v

abbrev pub condition_of : Marked → Step → Verdict
condition_of P s = condition_questions Err P s (Ok tt)

abbrev pub verdict_at : ℕ → Marked → ℕ → Step → Verdict
verdict_at n P k s = step_questions Err n P k s (Ok tt)

-- Questions 12 to 15 and 29 are answered yes.
pub record Shaped (n : ℕ) (P : Marked) (s : Step) : Type 0 where
  pub target : So (target_kept P s)
  pub partner : So (partner_kept P s)
  pub atom : So (atom_known n s)
  pub matches : So (atom_matches P s)

-- the marks after a step that was made or refused
abbrev pub marks_left : Verdict → List ℕ → List ℕ → Step → List ℕ
marks_left (Ok u) ws ms s = marks_after ws ms s
marks_left (Err q) ws ms s = ms

-- A step was asked, and made if no question was answered no; k is the number that its kind was given as.
pub record Taken (ws ms ms' : List ℕ) (k : ℕ) (s : Step) (r : Verdict) : Type 0 where
  pub verdict : r ≡ verdict_at (get_or ws 0 0) (view ws ms) k s
  pub marks : ms' ≡ marks_left r ws ms s

-- the same of the four words of a step
abbrev pub WordsTaken : List ℕ → List ℕ → List ℕ → List ℕ → Verdict → Type 0
WordsTaken ws ms ms' words = Taken ws ms ms' (kind_at words 0) (step_at words 0)
