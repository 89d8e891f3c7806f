-- The mark that each step clears, and the marks after steps.
use Rattle.std.specs.Prelude.{cond, List, [], ◌∷◌, ℕ, zero, suc, ◌+◌, eqb, get_or, set}
use Rattle.rewriting.specs.Kinds.{Deed, deletes, drops_pos, drops_neg, removes, row_of, on_target}
use Rattle.rewriting.specs.Steps.{Step}
use Rattle.table.specs.Places.{pos_at, neg_at, start_of}
use Rattle.table.specs.Clearing.{marks_without}

-- the place of the first of k words from `at` that is a
unfoldable pub find : List ℕ → ℕ → ℕ → ℕ → ℕ
find ws a at zero = at
find ws a at (suc k) = cond (eqb (get_or ws at 0) a) at (find ws a (suc at) k)

-- "Deleting a clause sets the mark of its first word to 0, dropping a body literal sets that literal's mark to 0."
-- for a target whose first word is at `at`, and the atom a that the step names; it is not asked of kind 9, which clears several marks
abbrev pub cleared_by : List ℕ → Deed → ℕ → ℕ → ℕ
cleared_by ws deletes at a = at
cleared_by ws drops_pos at a = find ws a (pos_at ws at) (get_or ws (at + 1) 0)
cleared_by ws drops_neg at a = find ws a (neg_at ws at) (get_or ws (at + 2) 0)
cleared_by ws removes at a = at

-- the place of the mark that a step of kinds 1 to 8 clears
unfoldable pub clears : List ℕ → Step → ℕ
unfolding find
clears ws s = cleared_by ws (row_of s.kind).deed (start_of ws s.target) s.atom

-- the marks after a step
unfoldable pub marks_after : List ℕ → List ℕ → Step → List ℕ
unfolding clears marks_without
marks_after ws ms s = cond (on_target s.kind) (set ms (clears ws s) 0) (marks_without ws ms s.atom)

unfoldable pub marks_after_all : List ℕ → List ℕ → List Step → List ℕ
unfolding marks_after
marks_after_all ws ms [] = ms
marks_after_all ws ms (s ∷ l) = marks_after_all ws (marks_after ws ms s) l
