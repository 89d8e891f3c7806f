-- The most steps that a reduction can have: clauses plus literals, which are the table's words but the first two and two of each clause, and the measure of the whole program.
use mathlib.Core.Path.{◌≡◌, refl, ap, ◌∙◌}
use mathlib.Core.List.{List, [], ◌∷◌, ◌++◌}
use Prim.Native.Nat.{ℕ, ◌+◌, ◌*◌, ◌≤◌}
use native.Mathlib.Omega.{arith}
use lib.ListN.{length, get_or, length-append}
use Rattle.semantics.specs.Programs.{Clause}
use Rattle.rewriting.specs.Marked.{whole}
use Rattle.rewriting.specs.Measure.{measure, weight}
use Rattle.table.specs.Questions.{Passed}
use Rattle.table.specs.Programs.{clauses_of, program_of}
use Rattle.table.specs.Encoding.{clause_words, clauses_words, encode}
use Rattle.table.proofs.Encoding.{length_clauses_of, passed_encode, passed_limits}
use Rattle.reducer_results.specs.Reductions.{literals, room}

-- A reduction has at most as many steps as the room says.
measure_whole : (cs : List Clause) → measure (whole cs) ≡ length cs + literals cs
unfolding measure weight literals
measure_whole [] = refl
measure_whole (c ∷ cs) = omega (arith, measure_whole cs)

pub room_measure : (ws : List ℕ) → measure (whole (program_of ws).clauses) ≡ room ws
unfolding room program_of
room_measure ws = measure_whole (clauses_of ws (get_or ws 1 0) 2) ∙ ap (λ k. k + literals (clauses_of ws (get_or ws 1 0) 2)) (length_clauses_of ws (get_or ws 1 0) 2)

literals_words : (cs : List Clause) → length (clauses_words cs) ≡ 3 * length cs + literals cs
unfolding clauses_words literals
literals_words [] = refl
literals_words (c ∷ cs) = omega (arith, length-append (clause_words c) (clauses_words cs), length-append c.head (c.pos ++ c.neg), length-append c.pos c.neg, literals_words cs)

-- the words without the first two and two of each clause
pub room_is : (ws : List ℕ) → Passed ws → 2 + 2 * get_or ws 1 0 + room ws ≡ length ws
unfolding room program_of encode
room_is ws p = omega (arith, ap length (passed_encode ws p), literals_words (clauses_of ws (get_or ws 1 0) 2), length_clauses_of ws (get_or ws 1 0) 2)

-- it is small
pub room_few : (ws : List ℕ) → Passed ws → room ws ≤ 8192
room_few ws p = omega (arith, room_is ws p, (passed_limits ws p).short)
