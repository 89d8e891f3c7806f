-- A program within the limits has at most 8,188 clauses and literals: no list of steps is longer.
use Prim.Native.Nat.{◌+◌, ◌*◌, ◌≤◌}
use mathlib.Core.List.{List, [], ◌∷◌, ◌++◌}
use native.Mathlib.Omega.{arith}
use lib.ListN.{length, length-append}
use Rattle.semantics.specs.Programs.{Clause, Program}
use Rattle.rewriting.specs.Marked.{whole}
use Rattle.rewriting.specs.Measure.{measure, weight}
use Rattle.table.specs.Encoding.{clause_words, clauses_words, encode, Within}

measure_words : (cs : List Clause) → measure (whole cs) + 2 * length cs ≤ length (clauses_words cs)
unfolding measure weight clauses_words
measure_words [] = omega arith
measure_words (c ∷ cs) = omega (arith, length-append (clause_words c) (clauses_words cs), length-append c.head (c.pos ++ c.neg), length-append c.pos c.neg, measure_words cs)

few : (cs : List Clause) → length (clauses_words cs) ≤ 8190 → measure (whole cs) ≤ 8188
unfolding measure
few [] h = omega arith
few (c ∷ cs) h = omega (arith, measure_words (c ∷ cs))

pub measure_within : (P : Program) → Within P → measure (whole P.clauses) ≤ 8188
unfolding encode
measure_within P w = few P.clauses (omega (arith, w.few_words))
