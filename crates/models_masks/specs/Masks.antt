-- Sets of at most 16 atoms as masks: bit i of a number is set where the list's i-th atom is in the set. Clauses as two masks,
-- of the positive body and of the head, and a set's minimality among its subsets, on masks.
use Rattle.std.specs.Prelude.{Bool, true, not, ◌&&◌, ◌||◌, List, [], ◌∷◌, ℕ, zero, suc, ◌+◌, ◌*◌, eqb}
use Rattle.std.specs.List.{list_all}
use Rattle.std.specs.Int.Bits.{bit_and}
use Rattle.semantics.specs.Lists.{bit, any, within}
use Rattle.semantics.specs.Programs.{Clause, Atoms, among}
use Rattle.models_masks.specs.declared.Rule.{Rule}

-- the mask of a set over a list of atoms, lowest bit first
unfoldable pub mask_of : List ℕ → Atoms → ℕ
mask_of [] X = 0
mask_of (a ∷ s) X = mask_of s X * 2 + bit (X a)

-- a test of every number below n
unfoldable pub all_below : (ℕ → Bool) → ℕ → Bool
all_below f zero = true
all_below f (suc n) = f n && all_below f n

-- every bit of the first mask is in the second
abbrev pub inside : ℕ → ℕ → Bool
inside x m = eqb (bit_and x m) x

-- the set x satisfies the clause: its body is not inside x, or its head meets x
unfoldable pub holds : ℕ → ℕ → ℕ → Bool
holds body head x = not (inside body x) || not (eqb (bit_and head x) 0)

-- x satisfies the clauses
unfoldable pub modelled : List Rule → ℕ → Bool
unfolding holds
modelled rules x = list_all (λ rule. holds rule.body rule.head x) rules

-- no subset of m but m itself satisfies the clauses: such a subset is a number below m
unfoldable pub minimal : List Rule → ℕ → Bool
unfolding all_below modelled
minimal rules m = all_below (λ x. not (inside x m && modelled rules x)) m

-- the reduct by the set keeps the clause, and its positive body is within the set
abbrev pub enters : List ℕ → Clause → Bool
enters s c = not (any (among s) c.neg) && within c.pos s

-- what a clause asks of a mask over s; a clause that does not enter asks nothing of the subsets of s
unfoldable pub clause_holds : List ℕ → ℕ → Clause → Bool
unfolding holds mask_of
clause_holds s x c = not (enters s c) || holds (mask_of s (among c.pos)) (mask_of s (among c.head)) x
