-- Stability of a finite set as a test that computes: every part of the set is tried.
use Rattle.std.specs.Prelude.{Bool, not, ◌&&◌, ◌||◌, List, [], ◌∷◌, ◌++◌, map, ℕ, ltb}
use Rattle.semantics.specs.Lists.{all, within}
use Rattle.semantics.specs.Programs.{Program, among, reduct, models}

-- what is left of a list when some of its elements are taken out, in every way
unfoldable pub sublists : List ℕ → List (List ℕ)
sublists [] = [] ∷ []
sublists (x ∷ l) = sublists l ++ map (λ k. x ∷ k) (sublists l)

-- "a set M of atoms below n", "it satisfies every clause left and no proper subset of M does"
unfoldable pub stable_test : Program → List ℕ → Bool
unfolding sublists models reduct
stable_test P l =
    all (λ a. ltb a P.atoms) l
    && (models (among l) (reduct (among l) P.clauses)
    && all (λ k. within l k || not (models (among k) (reduct (among l) P.clauses))) (sublists l))
