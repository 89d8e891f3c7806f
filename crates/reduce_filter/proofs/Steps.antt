-- The lines of the steps in a list's words are the lines of the steps.
use Prim.Native.Nat.{ℕ, ◌+◌, ◌≤◌}
use mathlib.Core.Path.{◌≡◌, refl, ap}
use mathlib.Core.List.{List, [], ◌∷◌, ◌++◌}
use lib.ListN.{length, drop}
use Rattle.rewriting.specs.Steps.{Step}
use Rattle.rewriting.specs.Kinds.{number}
use Rattle.table.proofs.Stands.{past}
use Rattle.text_form.specs.Digits.{digits, commas}
use Rattle.text_form.specs.Render.{line_text}
use Rattle.answers.specs.Answers.{written}
use Rattle.table.specs.StepWords.{words_of}
use Rattle.reduce_filter.specs.Output.{steps_key, step_key, step_lines, list_lines}

-- the line of a step
unfoldable pub step_text : Step → List ℕ
step_text s = line_text step_key (commas (number s.kind ∷ s.target ∷ s.partner ∷ s.atom ∷ []))

unfoldable pub steps_text : List Step → List ℕ
steps_text [] = []
steps_text (s ∷ l) = step_text s ++ steps_text l

lines_of : (ls r : List ℕ) (at : ℕ) (l : List Step) → drop at ls ≡ words_of l ++ r → step_lines ls at (length l) ≡ steps_text l
unfolding step_lines steps_text words_of step_text
lines_of ls r at [] e = refl
lines_of ls r at (s ∷ l) e =
    rw (e, lines_of ls r (at + 4) l (past ls (number s.kind ∷ s.target ∷ s.partner ∷ s.atom ∷ []) (words_of l ++ r) at e))

-- The lines of a list that was written into a slice.
pub list_lines_lem : (ls : List ℕ) (l : List Step) → length (words_of l) ≤ length ls
    → list_lines (written (words_of l) ls) (length l) ≡ line_text steps_key (digits (length l)) ++ steps_text l
unfolding list_lines
list_lines_lem ls l h =
    ap (λ x. line_text steps_key (digits (length l)) ++ x) (lines_of (written (words_of l) ls) (drop (length (words_of l)) ls) 0 l refl)
