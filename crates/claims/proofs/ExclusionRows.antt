-- Examples of slip 8 of document 02 as one table, computed from the definitions that the calls' contracts cite. Each value is worked out by hand.
use mathlib.Core.Path.{refl}
use mathlib.Core.List.{List, [], ◌∷◌}
use Prim.Native.Nat.{ℕ}
use lib.ListN.{replicate}
use Rattle.semantics.specs.Lists.{same}
use Rattle.rewriting.specs.Marked.{left}
use Rattle.rewriting.specs.Reaches.{fire, reach_from, reach}
use Rattle.rewriting.specs.Consequences.{consequences}
use Rattle.rewriting.specs.Exclusion.{excludes, removal}
use Rattle.rewriting.specs.Steps.{in_no_head, condition, atom_headed, condition_holds, applies, effect}
use Rattle.rewriting.specs.Reducer.{passed_over, eligible}
use Rattle.rewriting.specs.Search.{least, first_atom, first_partner, first_target, first_step, reduce}
use Rattle.answers.specs.Answers.{ask}
use Rattle.table.specs.StepWords.{words_of}
use Rattle.table.specs.Questions as questions
use Rattle.table.specs.Places.{start_from}
use Rattle.table.specs.Programs.{clauses_of, program_of}
use Rattle.table.specs.View.{part, entry_at, entries_from, view}
use Rattle.table.specs.Clearing.{clear_part, clear_clause, clear_from, marks_without}
use Rattle.table.specs.Effects.{find, clears, marks_after, marks_after_all}
use Rattle.step_lists.specs.Lists as checking
use Rattle.step_questions.specs.Questions as steps
use Rattle.reducer_results.specs.Reductions as reductions
use Rattle.claims.proofs.Said.{Example, writes, checked, value, refusal, AllSay}

-- 0|1. <- 0.
abbrev excluding : List ℕ
excluding = 2 ∷ 2 ∷ 2 ∷ 0 ∷ 0 ∷ 0 ∷ 1 ∷ 0 ∷ 1 ∷ 0 ∷ 0 ∷ []

-- <- 0. 0 <- 1. 1 <- ~2. 2 <- ~1.
abbrev chain : List ℕ
chain = 3 ∷ 4 ∷ 0 ∷ 1 ∷ 0 ∷ 0 ∷ 1 ∷ 1 ∷ 0 ∷ 0 ∷ 1 ∷ 1 ∷ 0 ∷ 1 ∷ 1 ∷ 2 ∷ 1 ∷ 0 ∷ 1 ∷ 2 ∷ 1 ∷ []

-- 0|1. 0 <- 0, ~0. <- 0.
abbrev contradicting : List ℕ
contradicting = 2 ∷ 3 ∷ 2 ∷ 0 ∷ 0 ∷ 0 ∷ 1 ∷ 1 ∷ 1 ∷ 1 ∷ 0 ∷ 0 ∷ 0 ∷ 0 ∷ 1 ∷ 0 ∷ 0 ∷ []

-- 0. <- 0. 2 <- ~1.
abbrev negative : List ℕ
negative = 3 ∷ 3 ∷ 1 ∷ 0 ∷ 0 ∷ 0 ∷ 0 ∷ 1 ∷ 0 ∷ 0 ∷ 1 ∷ 0 ∷ 1 ∷ 2 ∷ 1 ∷ []

-- 0 <- 1, ~2. <- 0. 1|3. 2 <- 1.
abbrev through_negative : List ℕ
through_negative = 4 ∷ 4 ∷ 1 ∷ 1 ∷ 1 ∷ 0 ∷ 1 ∷ 2 ∷ 0 ∷ 1 ∷ 0 ∷ 0 ∷ 2 ∷ 0 ∷ 0 ∷ 1 ∷ 3 ∷ 1 ∷ 1 ∷ 0 ∷ 2 ∷ 1 ∷ []

-- <- 2. 1|2 <- 0. <- 1. 0|2|3.
abbrev through_two_heads : List ℕ
through_two_heads = 4 ∷ 4 ∷ 0 ∷ 1 ∷ 0 ∷ 2 ∷ 2 ∷ 1 ∷ 0 ∷ 1 ∷ 2 ∷ 0 ∷ 0 ∷ 1 ∷ 0 ∷ 1 ∷ 3 ∷ 0 ∷ 0 ∷ 0 ∷ 2 ∷ 3 ∷ []

-- <- 0. 0|1. 2 <- 1.
abbrev shrinks : List ℕ
shrinks = 3 ∷ 3 ∷ 0 ∷ 1 ∷ 0 ∷ 0 ∷ 2 ∷ 0 ∷ 0 ∷ 0 ∷ 1 ∷ 1 ∷ 1 ∷ 0 ∷ 2 ∷ 1 ∷ []

abbrev pub rows : List Example
rows =
    -- "It deletes kept clauses with a in the positive body and drops a from the heads and negative bodies of the other kept ones": from a head; the target goes, which has it in its body: 0|1. <- 0.
    checked excluding (9 ∷ 1 ∷ 0 ∷ 0 ∷ []) (value 1) (1 ∷ 1 ∷ 1 ∷ 1 ∷ 1 ∷ 0 ∷ 1 ∷ 0 ∷ 1 ∷ 1 ∷ 1 ∷ [])
    -- each effect once, in one step: two clauses deleted, a head and a negative literal dropped: <- 0. 0|1. 2 <- 0. 2 <- ~0.
    ∷ checked (3 ∷ 4 ∷ 0 ∷ 1 ∷ 0 ∷ 0 ∷ 2 ∷ 0 ∷ 0 ∷ 0 ∷ 1 ∷ 1 ∷ 1 ∷ 0 ∷ 2 ∷ 0 ∷ 1 ∷ 0 ∷ 1 ∷ 2 ∷ 0 ∷ []) (9 ∷ 0 ∷ 0 ∷ 0 ∷ []) (value 1) (1 ∷ 1 ∷ 0 ∷ 1 ∷ 1 ∷ 1 ∷ 1 ∷ 1 ∷ 1 ∷ 0 ∷ 1 ∷ 0 ∷ 1 ∷ 1 ∷ 1 ∷ 1 ∷ 1 ∷ 1 ∷ 1 ∷ 1 ∷ 0 ∷ [])
    -- the atom need not be in the target: D is 1 and 0, and the target stays: <- 0. 0 <- 1. 1 <- ~2. 2 <- ~1.
    ∷ checked chain (9 ∷ 0 ∷ 0 ∷ 1 ∷ []) (value 1) (1 ∷ 1 ∷ 1 ∷ 1 ∷ 1 ∷ 1 ∷ 0 ∷ 1 ∷ 1 ∷ 1 ∷ 1 ∷ 1 ∷ 1 ∷ 1 ∷ 0 ∷ 1 ∷ 1 ∷ 1 ∷ 1 ∷ 1 ∷ 0 ∷ [])
    -- a clause that is gone keeps its marks: 0|1. 0 <- 0, ~0. <- 0.
    ∷ checked contradicting (1 ∷ 1 ∷ 0 ∷ 0 ∷ 9 ∷ 2 ∷ 0 ∷ 0 ∷ []) (value 2) (1 ∷ 1 ∷ 1 ∷ 1 ∷ 1 ∷ 0 ∷ 1 ∷ 0 ∷ 1 ∷ 1 ∷ 1 ∷ 1 ∷ 1 ∷ 0 ∷ 1 ∷ 1 ∷ 1 ∷ [])
    -- of a clause that it deletes the first word's mark alone goes, so that these are the same: 0|1. 0 <- 0, ~0. <- 0.
    ∷ checked contradicting (9 ∷ 2 ∷ 0 ∷ 0 ∷ []) (value 1) (1 ∷ 1 ∷ 1 ∷ 1 ∷ 1 ∷ 0 ∷ 1 ∷ 0 ∷ 1 ∷ 1 ∷ 1 ∷ 1 ∷ 1 ∷ 0 ∷ 1 ∷ 1 ∷ 1 ∷ [])
    -- head and negative literal of one clause; what is left of it is empty: <- 0. 0 <- ~0.
    ∷ checked (1 ∷ 2 ∷ 0 ∷ 1 ∷ 0 ∷ 0 ∷ 1 ∷ 0 ∷ 1 ∷ 0 ∷ 0 ∷ []) (9 ∷ 0 ∷ 0 ∷ 0 ∷ []) (value 1) (1 ∷ 1 ∷ 0 ∷ 1 ∷ 1 ∷ 1 ∷ 1 ∷ 1 ∷ 1 ∷ 0 ∷ 0 ∷ [])
    -- "the atom a occurs in a kept clause": D has 0, but 1 occurs in none: 0. <- 0.
    ∷ checked (2 ∷ 2 ∷ 1 ∷ 0 ∷ 0 ∷ 0 ∷ 0 ∷ 1 ∷ 0 ∷ 0 ∷ []) (9 ∷ 1 ∷ 0 ∷ 1 ∷ []) (refusal 16 0) (replicate 10 1)
    -- 1 is in a negative body alone; the heads of facts are in every D: 0. <- 0. 2 <- ~1.
    ∷ checked negative (9 ∷ 1 ∷ 0 ∷ 1 ∷ []) (value 1) (1 ∷ 1 ∷ 1 ∷ 1 ∷ 1 ∷ 1 ∷ 1 ∷ 1 ∷ 1 ∷ 1 ∷ 1 ∷ 1 ∷ 1 ∷ 1 ∷ 0 ∷ [])
    -- and in a head alone: 0. <- 0. 1|2.
    ∷ checked (3 ∷ 3 ∷ 1 ∷ 0 ∷ 0 ∷ 0 ∷ 0 ∷ 1 ∷ 0 ∷ 0 ∷ 2 ∷ 0 ∷ 0 ∷ 1 ∷ 2 ∷ []) (9 ∷ 1 ∷ 0 ∷ 1 ∷ []) (value 1) (1 ∷ 1 ∷ 1 ∷ 1 ∷ 1 ∷ 1 ∷ 1 ∷ 1 ∷ 1 ∷ 1 ∷ 1 ∷ 1 ∷ 1 ∷ 0 ∷ 1 ∷ [])
    -- an atom that a step dropped occurs no more: 0. <- 0. 2 <- ~1.
    ∷ checked negative (9 ∷ 1 ∷ 0 ∷ 1 ∷ 9 ∷ 1 ∷ 0 ∷ 1 ∷ []) (refusal 16 1) (1 ∷ 1 ∷ 1 ∷ 1 ∷ 1 ∷ 1 ∷ 1 ∷ 1 ∷ 1 ∷ 1 ∷ 1 ∷ 1 ∷ 1 ∷ 1 ∷ 0 ∷ [])
    -- "no negative atoms": D does not go through clause 0, and {1, 2} is stable: 0 <- 1, ~2. <- 0. 1|3. 2 <- 1.
    ∷ checked through_negative (9 ∷ 1 ∷ 0 ∷ 1 ∷ []) (refusal 16 0) (replicate 22 1)
    -- "one head atom": nor through a clause with two, and {1, 2} is stable: 0|2 <- 1. <- 0. 1|3.
    ∷ checked (4 ∷ 3 ∷ 2 ∷ 1 ∷ 0 ∷ 0 ∷ 2 ∷ 1 ∷ 0 ∷ 1 ∷ 0 ∷ 0 ∷ 2 ∷ 0 ∷ 0 ∷ 1 ∷ 3 ∷ []) (9 ∷ 1 ∷ 0 ∷ 1 ∷ []) (refusal 16 0) (replicate 17 1)
    -- "Heads are read as left everywhere": clause 1 as left has one head atom, <- 2. 1|2 <- 0. <- 1. 0|2|3.
    ∷ checked through_two_heads (9 ∷ 0 ∷ 0 ∷ 2 ∷ 9 ∷ 2 ∷ 0 ∷ 0 ∷ []) (value 2) (1 ∷ 1 ∷ 0 ∷ 1 ∷ 1 ∷ 1 ∷ 0 ∷ 1 ∷ 1 ∷ 1 ∷ 0 ∷ 1 ∷ 1 ∷ 1 ∷ 1 ∷ 1 ∷ 1 ∷ 1 ∷ 1 ∷ 0 ∷ 0 ∷ 1 ∷ [])
    -- and two without the step before: <- 2. 1|2 <- 0. <- 1. 0|2|3.
    ∷ checked through_two_heads (9 ∷ 2 ∷ 0 ∷ 0 ∷ []) (refusal 16 0) (replicate 22 1)
    -- a clause that lost its last head atom is a constraint: <- 0. 0 <- 1. 1|2.
    ∷ checked (3 ∷ 3 ∷ 0 ∷ 1 ∷ 0 ∷ 0 ∷ 1 ∷ 1 ∷ 0 ∷ 0 ∷ 1 ∷ 2 ∷ 0 ∷ 0 ∷ 1 ∷ 2 ∷ []) (9 ∷ 0 ∷ 0 ∷ 0 ∷ 9 ∷ 1 ∷ 0 ∷ 1 ∷ []) (value 2) (1 ∷ 1 ∷ 0 ∷ 1 ∷ 1 ∷ 1 ∷ 0 ∷ 1 ∷ 1 ∷ 0 ∷ 1 ∷ 1 ∷ 1 ∷ 1 ∷ 0 ∷ 1 ∷ [])
    -- "a kept constraint with at least one positive and no negative atom": a target with a negative atom, 0|1. <- 0, ~1.
    ∷ checked (2 ∷ 2 ∷ 2 ∷ 0 ∷ 0 ∷ 0 ∷ 1 ∷ 0 ∷ 1 ∷ 1 ∷ 0 ∷ 1 ∷ []) (9 ∷ 1 ∷ 0 ∷ 0 ∷ []) (refusal 16 0) (replicate 12 1)
    -- without a positive atom, 0|1. <- .
    ∷ checked (2 ∷ 2 ∷ 2 ∷ 0 ∷ 0 ∷ 0 ∷ 1 ∷ 0 ∷ 0 ∷ 0 ∷ []) (9 ∷ 1 ∷ 0 ∷ 0 ∷ []) (refusal 16 0) (replicate 10 1)
    -- with a head: 0|1. 1 <- 0.
    ∷ checked (2 ∷ 2 ∷ 2 ∷ 0 ∷ 0 ∷ 0 ∷ 1 ∷ 1 ∷ 1 ∷ 0 ∷ 1 ∷ 0 ∷ []) (9 ∷ 1 ∷ 0 ∷ 0 ∷ []) (refusal 16 0) (replicate 12 1)
    -- 13 before 14, 0|1. <- 0.
    ∷ checked excluding (9 ∷ 2 ∷ 1 ∷ 2 ∷ []) (refusal 13 0) (replicate 11 1)
    -- "the partner is unused": 14 before 15, 0|1. <- 0.
    ∷ checked excluding (9 ∷ 1 ∷ 1 ∷ 2 ∷ []) (refusal 14 0) (replicate 11 1)
    -- 15: 0|1. <- 0.
    ∷ checked excluding (9 ∷ 1 ∷ 0 ∷ 2 ∷ []) (refusal 15 0) (replicate 11 1)
    -- "Question 12 allows 9": 0|1. <- 0.
    ∷ checked excluding (10 ∷ 1 ∷ 0 ∷ 0 ∷ []) (refusal 12 0) (replicate 11 1)
    -- a disjunctive fact that lost an atom is a partner of kind 3; <- 0. 0|1. 2 <- 1.
    ∷ checked shrinks (9 ∷ 0 ∷ 0 ∷ 0 ∷ 3 ∷ 2 ∷ 1 ∷ 1 ∷ []) (value 2) (1 ∷ 1 ∷ 0 ∷ 1 ∷ 1 ∷ 1 ∷ 1 ∷ 1 ∷ 1 ∷ 0 ∷ 1 ∷ 1 ∷ 1 ∷ 1 ∷ 1 ∷ 0 ∷ [])
    -- 29 reads its head as left, <- 0. 0|1. 2 <- 1.
    ∷ checked shrinks (9 ∷ 0 ∷ 0 ∷ 0 ∷ 3 ∷ 2 ∷ 1 ∷ 0 ∷ []) (refusal 29 1) (1 ∷ 1 ∷ 0 ∷ 1 ∷ 1 ∷ 1 ∷ 1 ∷ 1 ∷ 1 ∷ 0 ∷ 1 ∷ 1 ∷ 1 ∷ 1 ∷ 1 ∷ 1 ∷ [])
    -- and 32 the kept heads: <- 0. 0|1 <- 1. 0|1.
    ∷ checked (2 ∷ 3 ∷ 0 ∷ 1 ∷ 0 ∷ 0 ∷ 2 ∷ 1 ∷ 0 ∷ 0 ∷ 1 ∷ 1 ∷ 2 ∷ 0 ∷ 0 ∷ 0 ∷ 1 ∷ []) (9 ∷ 0 ∷ 0 ∷ 0 ∷ 7 ∷ 1 ∷ 0 ∷ 0 ∷ []) (refusal 32 1) (1 ∷ 1 ∷ 0 ∷ 1 ∷ 1 ∷ 1 ∷ 1 ∷ 1 ∷ 1 ∷ 0 ∷ 1 ∷ 1 ∷ 1 ∷ 1 ∷ 1 ∷ 0 ∷ 1 ∷ [])
    -- "The reducer tries it after 8": 9,0,0,0 makes clause 1 a constraint, which excludes 1; then 2 is a fact: <- 0. 0 <- 1. 1 <- ~2. 2 <- ~1. leaves 2.
    ∷ writes chain (9 ∷ 0 ∷ 0 ∷ 0 ∷ 9 ∷ 1 ∷ 0 ∷ 1 ∷ 5 ∷ 2 ∷ 3 ∷ 0 ∷ [])
    -- 8 before 9: the second constraint goes by the first: 0|1. <- 0. <- 0, 1. leaves 1.
    ∷ writes (2 ∷ 3 ∷ 2 ∷ 0 ∷ 0 ∷ 0 ∷ 1 ∷ 0 ∷ 1 ∷ 0 ∷ 0 ∷ 0 ∷ 2 ∷ 0 ∷ 0 ∷ 1 ∷ []) (8 ∷ 2 ∷ 1 ∷ 0 ∷ 9 ∷ 1 ∷ 0 ∷ 0 ∷ [])
    -- a head that shrinks to a fact opens a success, and the constraint excludes 0 then: 0|1. 2|3. <- 0, 2. <- 3. leaves 1. 2.
    ∷ writes (4 ∷ 4 ∷ 2 ∷ 0 ∷ 0 ∷ 0 ∷ 1 ∷ 2 ∷ 0 ∷ 0 ∷ 2 ∷ 3 ∷ 0 ∷ 2 ∷ 0 ∷ 0 ∷ 2 ∷ 0 ∷ 1 ∷ 0 ∷ 3 ∷ []) (9 ∷ 3 ∷ 0 ∷ 3 ∷ 3 ∷ 2 ∷ 1 ∷ 2 ∷ 9 ∷ 2 ∷ 0 ∷ 0 ∷ [])
    -- kind 9 opens 8 and 6: 1 is in no head any more: 1 <- 0. 0|2. 1|2. <- 1. leaves 2.
    ∷ writes (3 ∷ 4 ∷ 1 ∷ 1 ∷ 0 ∷ 1 ∷ 0 ∷ 2 ∷ 0 ∷ 0 ∷ 0 ∷ 2 ∷ 2 ∷ 0 ∷ 0 ∷ 1 ∷ 2 ∷ 0 ∷ 1 ∷ 0 ∷ 1 ∷ []) (9 ∷ 3 ∷ 0 ∷ 0 ∷ 8 ∷ 2 ∷ 1 ∷ 0 ∷ 6 ∷ 3 ∷ 0 ∷ 1 ∷ [])
    -- of two constraints the first one's atom, then the second has no head for its atom: 0|3. 1|3. <- 1. <- 0. leaves 3.
    ∷ writes (4 ∷ 4 ∷ 2 ∷ 0 ∷ 0 ∷ 0 ∷ 3 ∷ 2 ∷ 0 ∷ 0 ∷ 1 ∷ 3 ∷ 0 ∷ 1 ∷ 0 ∷ 1 ∷ 0 ∷ 1 ∷ 0 ∷ 0 ∷ []) (9 ∷ 2 ∷ 0 ∷ 1 ∷ 8 ∷ 0 ∷ 1 ∷ 0 ∷ 6 ∷ 3 ∷ 0 ∷ 0 ∷ [])
    -- an empty clause is left, by which the rest is blocked: <- 0. 0 <- ~0. 1|2. leaves the empty clause
    ∷ writes (3 ∷ 3 ∷ 0 ∷ 1 ∷ 0 ∷ 0 ∷ 1 ∷ 0 ∷ 1 ∷ 0 ∷ 0 ∷ 2 ∷ 0 ∷ 0 ∷ 1 ∷ 2 ∷ []) (9 ∷ 0 ∷ 0 ∷ 0 ∷ 5 ∷ 2 ∷ 1 ∷ 0 ∷ [])
    -- kind 9 opens 4 and 6: 1 <- 0. <- 1. 0|3. 2 <- 0. 4 <- ~2. leaves 3. 4.
    ∷ writes (5 ∷ 5 ∷ 1 ∷ 1 ∷ 0 ∷ 1 ∷ 0 ∷ 0 ∷ 1 ∷ 0 ∷ 1 ∷ 2 ∷ 0 ∷ 0 ∷ 0 ∷ 3 ∷ 1 ∷ 1 ∷ 0 ∷ 2 ∷ 0 ∷ 1 ∷ 0 ∷ 1 ∷ 4 ∷ 2 ∷ []) (9 ∷ 1 ∷ 0 ∷ 0 ∷ 4 ∷ 4 ∷ 0 ∷ 2 ∷ 6 ∷ 1 ∷ 0 ∷ 1 ∷ [])
    -- and 5: 0|1|2. <- 0. 3 <- ~1, ~2. leaves 1|2.
    ∷ writes (4 ∷ 3 ∷ 3 ∷ 0 ∷ 0 ∷ 0 ∷ 1 ∷ 2 ∷ 0 ∷ 1 ∷ 0 ∷ 0 ∷ 1 ∷ 0 ∷ 2 ∷ 3 ∷ 1 ∷ 2 ∷ []) (9 ∷ 1 ∷ 0 ∷ 0 ∷ 5 ∷ 2 ∷ 0 ∷ 0 ∷ [])
    -- no atom alone leads to both: 0|1. 2|3. <- 0, 2. leaves 0|1. 2|3. <- 0, 2.
    ∷ writes (4 ∷ 3 ∷ 2 ∷ 0 ∷ 0 ∷ 0 ∷ 1 ∷ 2 ∷ 0 ∷ 0 ∷ 2 ∷ 3 ∷ 0 ∷ 2 ∷ 0 ∷ 0 ∷ 2 ∷ []) []
    -- D does not go through a negative atom: of the atoms only 0 is excluded: 0 <- 1, ~2. <- 0. 1|3. 2 <- 1. leaves <- 1, ~2. 1|3. 2 <- 1.
    ∷ writes through_negative (9 ∷ 1 ∷ 0 ∷ 0 ∷ [])
    ∷ []

pub exclusions : AllSay rows
unfolding left fire reach_from reach consequences excludes removal in_no_head condition atom_headed condition_holds applies effect same passed_over eligible least first_atom first_partner first_target first_step reduce ask questions.atoms_from questions.parts_from questions.clause_from questions.clauses_from questions.all_used questions.table_of start_from clauses_of program_of part entry_at entries_from view find clears clear_part clear_clause clear_from marks_without marks_after marks_after_all words_of reductions.literals reductions.room reductions.steps_of reductions.reduction questions.on_walk questions.on_table checking.steps_from checking.check_list steps.shape_questions steps.condition_questions steps.step_questions
exclusions = ((refl, refl), ((refl, refl), ((refl, refl), ((refl, refl), ((refl, refl), ((refl, refl), ((refl, refl), ((refl, refl), ((refl, refl), ((refl, refl), ((refl, refl), ((refl, refl), ((refl, refl), ((refl, refl), ((refl, refl), ((refl, refl), ((refl, refl), ((refl, refl), ((refl, refl), ((refl, refl), ((refl, refl), ((refl, refl), ((refl, refl), ((refl, refl), ((refl, refl), ((refl, refl), ((refl, refl), ((refl, refl), ((refl, refl), ((refl, refl), ((refl, refl), ((refl, refl), ((refl, refl), ((refl, refl), ((refl, refl), tt)))))))))))))))))))))))))))))))))))
