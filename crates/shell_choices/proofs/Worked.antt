-- Worked cases of the translation, by computation.
use mathlib.Core.Path.{◌≡◌, refl}
use mathlib.Core.Bool.{true, false}
use mathlib.Core.List.{[], ◌∷◌}
use Rattle.semantics.specs.Programs.{satisfies, reduct, models}
use Rattle.semantics.specs.Decide.{sublists, stable_test}
use Rattle.shell_choices.specs.Translation.{numbered, translated, translation}
use Rattle.shell_choices.proofs.Members.{may, when}

-- {0}. is 0|1. with 0, which is 0 restricted, with 1, which is none, and not with both
one_translated : (stable_test (translation 1 [] (may 0 [] [] ∷ [])) (0 ∷ []) ≡ true)
    × (stable_test (translation 1 [] (may 0 [] [] ∷ [])) (1 ∷ []) ≡ true)
    × (stable_test (translation 1 [] (may 0 [] [] ∷ [])) (0 ∷ 1 ∷ []) ≡ false)
unfolding satisfies reduct models sublists stable_test numbered translated
one_translated = (refl, refl, refl)

-- {0}. {1}. has four; 0 alone is 0,3 translated: each choice has a fresh atom of its own
two : stable_test (translation 2 [] (may 0 [] [] ∷ may 1 [] [] ∷ [])) (0 ∷ 3 ∷ []) ≡ true
unfolding satisfies reduct models sublists stable_test numbered translated
two = refl

-- {0} <- 1. 1 <- 0. has only the empty set
circle_translated : (stable_test (translation 2 (when (1 ∷ []) (0 ∷ []) [] ∷ []) (may 0 (1 ∷ []) [] ∷ [])) [] ≡ true)
    × (stable_test (translation 2 (when (1 ∷ []) (0 ∷ []) [] ∷ []) (may 0 (1 ∷ []) [] ∷ [])) (0 ∷ 1 ∷ []) ≡ false)
unfolding satisfies reduct models sublists stable_test numbered translated
circle_translated = (refl, refl)

-- {0}. {1} <- 0. <- 0, ~1. has 0,1 and none; translated, 0,1 and 2, and not 0,3
asked : (stable_test (translation 2 (when [] (0 ∷ []) (1 ∷ []) ∷ []) (may 0 [] [] ∷ may 1 (0 ∷ []) [] ∷ [])) (0 ∷ 1 ∷ []) ≡ true)
    × (stable_test (translation 2 (when [] (0 ∷ []) (1 ∷ []) ∷ []) (may 0 [] [] ∷ may 1 (0 ∷ []) [] ∷ [])) (2 ∷ []) ≡ true)
    × (stable_test (translation 2 (when [] (0 ∷ []) (1 ∷ []) ∷ []) (may 0 [] [] ∷ may 1 (0 ∷ []) [] ∷ [])) (0 ∷ 3 ∷ []) ≡ false)
unfolding satisfies reduct models sublists stable_test numbered translated
asked = (refl, refl, refl)
