-- The clauses of a program of at most 16 atoms as three masks each, bit a for atom a, and what the reduct by a set asks of a set, on masks.
use Rattle.std.specs.Prelude.{Bool, not, ◌&&◌, ◌||◌, List, ℕ, eqb}
use Rattle.std.specs.List.{list_all}
use Rattle.std.specs.Int.Bits.{bit_and}
use Rattle.semantics.specs.Programs.{Clause, among}
use Rattle.models_masks.specs.Masks.{mask_of, all_below, inside, holds}
use Rattle.sorting.specs.Sorting.{below}
use Rattle.models_list.specs.declared.masks.Masks.{Masks}

-- the mask of a clause's part
abbrev pub part_mask : List ℕ → ℕ
part_mask part = mask_of (below 16) (among part)

-- the masks of a clause
abbrev pub masks_of : Clause → Masks
masks_of c = record { head = part_mask c.head; pos = part_mask c.pos; neg = part_mask c.neg }

-- the reduct by the set m keeps the clause, and m holds its positive atoms
abbrev pub enters_mask : Masks → ℕ → Bool
enters_mask c m = eqb (bit_and c.neg m) 0 && inside c.pos m

-- the set x satisfies what the reduct by the set m leaves of the clause
unfoldable pub reduct_holds : Masks → ℕ → ℕ → Bool
unfolding holds
reduct_holds c m x = not (eqb (bit_and c.neg m) 0) || holds c.pos c.head x

-- x satisfies the reduct by m of the clauses
unfoldable pub reduct_modelled : List Masks → ℕ → ℕ → Bool
unfolding reduct_holds
reduct_modelled cs m x = list_all (λ c. reduct_holds c m x) cs

-- m satisfies its reduct, and no subset of m but m itself does
unfoldable pub stable_mask : List Masks → ℕ → Bool
unfolding all_below reduct_modelled
stable_mask cs m = reduct_modelled cs m m && all_below (λ x. not (inside x m && reduct_modelled cs m x)) m
