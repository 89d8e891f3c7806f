-- The test `finds`: its table passes, since its words are those of a program within the limits.
use mathlib.Core.Path.{◌≡◌, refl, sym, subst}
use mathlib.Core.List.{[], ◌∷◌}
use mathlib.Core.List.Memᴰ
use Prim.Native.Nat.{ℕ, ◌≤◌, ◌<◌}
use lib.ListN.{length}
use native.Mathlib.Omega.{arith}
use Rattle.semantics.specs.Lists.{◌∈◌}
use Rattle.semantics.specs.Programs.{Clause, Program}
use Rattle.table.specs.Encoding.{clauses_words, encode, Ordered, OrderedClause}
use Rattle.table.proofs.Encoding.{passed_iff}
use Rattle.table.proofs.Rising.{rising_iff}
use Rattle.step_exclusion.proofs.tests.finds.Goals as goal

abbrev either_one : Clause
either_one = record { head = 0 ∷ 1 ∷ []; pos = []; neg = [] }

abbrev two_if : Clause
two_if = record { head = 2 ∷ []; pos = 0 ∷ []; neg = [] }

abbrev not_both : Clause
not_both = record { head = []; pos = 0 ∷ 2 ∷ []; neg = [] }

abbrev program : Program
program = record { atoms = 4; clauses = either_one ∷ two_if ∷ not_both ∷ [] }

none : (n : ℕ) → Ordered n []
none n = (rising_iff n []).0 tt

one : (a n : ℕ) → a < n → Ordered n (a ∷ [])
one a n h = (rising_iff n (a ∷ [])).0 (h, omega arith, tt)

two : (a b n : ℕ) → a < b → b < n → Ordered n (a ∷ b ∷ [])
two a b n l h = (rising_iff n (a ∷ b ∷ [])).0 (omega arith, omega arith, (h, omega arith, tt))

ordered : (c : Clause) → c ∈ either_one ∷ two_if ∷ not_both ∷ [] → OrderedClause 4 c
ordered c (Memᴰ.head e) = subst (OrderedClause 4) (sym e) (record { head = two 0 1 4 (omega arith) (omega arith); pos = none 4; neg = none 4 })
ordered c (Memᴰ.tail (Memᴰ.head e)) = subst (OrderedClause 4) (sym e) (record { head = one 2 4 (omega arith); pos = one 0 4 (omega arith); neg = none 4 })
ordered c (Memᴰ.tail (Memᴰ.tail (Memᴰ.head e))) = subst (OrderedClause 4) (sym e) (record { head = none 4; pos = two 0 2 4 (omega arith) (omega arith); neg = none 4 })
ordered c (Memᴰ.tail (Memᴰ.tail (Memᴰ.tail m))) = elim m [ ]

short : length (encode program) ≤ 8192
unfolding clauses_words encode
short = let e : length (encode program) ≡ 17 = refl in omega (arith, e)

pub new-table-requires-clause-passed : goal.new-table-requires-clause-passed
unfolding clauses_words encode
new-table-requires-clause-passed g c = (passed_iff _).1 (program, record { few_atoms = omega arith; few_clauses = omega arith; few_words = short; ordered = ordered }, refl)
