-- Steps as words: "A list is a slice of words, four a step: kind, target, partner, atom."
use Rattle.std.specs.Prelude.{List, [], ◌∷◌, ℕ, ◌+◌, ◌*◌, get_or}
use Rattle.rewriting.specs.Kinds.{number, kind_of}
use Rattle.rewriting.specs.Steps.{Step, step}

-- the kind of step k of a list, as a number
abbrev pub kind_at : List ℕ → ℕ → ℕ
kind_at ls k = get_or ls (4 * k) 0

-- step k of a list
abbrev pub step_at : List ℕ → ℕ → Step
step_at ls k = step (kind_of (kind_at ls k)) (get_or ls (4 * k + 1) 0) (get_or ls (4 * k + 2) 0) (get_or ls (4 * k + 3) 0)

-- the words of a list of steps
unfoldable pub words_of : List Step → List ℕ
words_of [] = []
words_of (s ∷ l) = number s.kind ∷ s.target ∷ s.partner ∷ s.atom ∷ words_of l
