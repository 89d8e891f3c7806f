-- What is left of a part that is handed on as slices of the words and of the marks.
use Rattle.std.specs.Prelude.{cond, List, [], ◌∷◌, ℕ, eqb}

-- the words whose mark is 1
unfoldable pub kept_of : List ℕ → List ℕ → List ℕ
kept_of [] ks = []
kept_of (x ∷ ws) [] = []
kept_of (x ∷ ws) (m ∷ ks) = cond (eqb m 1) (x ∷ kept_of ws ks) (kept_of ws ks)
