-- What is kept of a list, and the order of 26 and 6, worked out on small lists.
use mathlib.Core.Path.{◌≡◌, refl}
use mathlib.Core.List.{[], ◌∷◌}
use Rattle.sorting.specs.Sorting.{insert, sorted}
use Rattle.answers.specs.declared.ByteQuestion.TheVariants.{WordLimit, TextAtomBelow}
use Rattle.answers.specs.declared.Refusal.TheVariants.{Byte}
use Rattle.text_form.specs.Reader.{done, stop, list_of}
use Rattle.answers.specs.Answers.{ask}

-- in any order, with repeats: sorted, and each atom once
pub sorted_once : sorted (2 ∷ 0 ∷ 2 ∷ 1 ∷ 0 ∷ []) ≡ 0 ∷ 1 ∷ 2 ∷ []
unfolding sorted insert
sorted_once = refl

-- no atoms, and no word left: 26 is asked before 6, with the line's place
pub limit_first : list_of 0 8192 5 (sorted (1 ∷ [])) 9 ≡ stop (Byte WordLimit 5)
unfolding list_of ask sorted insert
limit_first = refl

-- 26 counts what is kept: three numbers that are two fit into the last two words
pub repeats_not_counted : list_of 3 8190 5 (sorted (2 ∷ 0 ∷ 2 ∷ [])) 9 ≡ done (0 ∷ 2 ∷ []) 9
unfolding list_of ask sorted insert
repeats_not_counted = refl

-- a number that is not below n is counted too
pub large_counted : list_of 3 8190 5 (sorted (9999 ∷ 0 ∷ 2 ∷ [])) 9 ≡ stop (Byte WordLimit 5)
unfolding list_of ask sorted insert
large_counted = refl

-- and counted once: then 6 is asked
pub below_asked : list_of 3 8190 5 (sorted (9999 ∷ 2 ∷ 9999 ∷ [])) 9 ≡ stop (Byte TextAtomBelow 5)
unfolding list_of ask sorted insert
below_asked = refl
