-- The words of all stable models, after document 02, slip 3: "List all packs of a small order".
use Rattle.std.specs.Prelude.{Bool, List, [], ◌∷◌, ℕ, ◌+◌, ◌/◌, ◌%◌, ◌^◌, eqb}
use Rattle.semantics.specs.Lists.{keep}
use Rattle.semantics.specs.Programs.{Program, Atoms}
use Rattle.semantics.specs.Decide.{stable_test}
use Rattle.sorting.specs.Sorting.{below}

-- "one word, the sum of 2 to the power of each atom in it"
unfoldable pub word : List ℕ → ℕ
word [] = 0
word (a ∷ l) = 2 ^ a + word l

-- the set of a word: its digit of 2 to the power of a is 1
abbrev pub set_of_word : ℕ → Atoms
set_of_word x a = eqb (x / 2 ^ a % 2) 1

-- the atoms below n of a word's set, ascending
unfoldable pub entries_of : ℕ → ℕ → List ℕ
unfolding below
entries_of n x = keep (set_of_word x) (below n)

-- "A set is listed exactly when the test of demand 2 would say yes."
unfoldable pub stable_word : Program → ℕ → Bool
unfolding stable_test entries_of
stable_word P x = stable_test P (entries_of P.atoms x)

-- "write every stable model as one word", "Words ascend, each model stands once"
unfoldable pub models_of : Program → List ℕ
unfolding stable_word below
models_of P = keep (stable_word P) (below (2 ^ P.atoms))
