-- Lists of steps on a marked program.
use Rattle.std.specs.Prelude.{Bool, true, cond, ◌&&◌, List, [], ◌∷◌, ℕ}
use Rattle.semantics.specs.Lists.{all}
use Rattle.rewriting.specs.Marked.{Marked}
use Rattle.rewriting.specs.Kinds.{on_target}
use Rattle.rewriting.specs.Steps.{Step, applies, effect}

-- "each step is asked and made on the marks that the step before it left"
unfoldable pub accepted : ℕ → Marked → List Step → Bool
unfolding applies effect
accepted n P [] = true
accepted n P (s ∷ l) = applies n P s && accepted n (effect P s) l

-- what a list leaves, up to the first step that is refused
unfoldable pub leaves : ℕ → Marked → List Step → Marked
unfolding applies effect
leaves n P [] = P
leaves n P (s ∷ l) = cond (applies n P s) (leaves n (effect P s) l) P

-- slip 8: "without kind 9 among them", which is the one kind that does not change its target alone
abbrev pub without_nine : List Step → Bool
without_nine l = all (λ s. on_target s.kind) l

-- the list up to its first step of kind 9
unfoldable pub before_nine : List Step → List Step
before_nine [] = []
before_nine (s ∷ l) = cond (on_target s.kind) (s ∷ before_nine l) []
