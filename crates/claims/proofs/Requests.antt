-- Examples of document 02, slip by slip, as one table, computed from the definitions that the calls' contracts cite. Each value is worked out by hand.
use mathlib.Core.Path.{refl}
use mathlib.Core.List.{List, [], ◌∷◌, ◌++◌}
use Prim.Native.Nat.{ℕ}
use lib.ListN.{length, replicate}
use Rattle.semantics.specs.Programs.{program}
use Rattle.semantics.specs.Programs as programs
use Rattle.semantics.specs.Lists.{same}
use Rattle.semantics.specs.Decide.{sublists, stable_test}
use Rattle.rewriting.specs.Marked.{left}
use Rattle.rewriting.specs.Reaches.{fire, reach_from, reach}
use Rattle.rewriting.specs.Consequences.{consequences}
use Rattle.rewriting.specs.Exclusion.{excludes, removal}
use Rattle.rewriting.specs.Steps.{in_no_head, condition, atom_headed, condition_holds, applies, effect}
use Rattle.rewriting.specs.Reducer.{passed_over, eligible}
use Rattle.rewriting.specs.Search.{least, first_atom, first_partner, first_target, first_step, reduce}
use Rattle.answers.specs.Answers.{ask, written_if}
use Rattle.table.specs.StepWords.{words_of}
use Rattle.table.specs.Questions as questions
use Rattle.table.specs.Places.{start_from}
use Rattle.table.specs.Encoding.{clauses_words, encode}
use Rattle.table.specs.Programs.{clauses_of, program_of}
use Rattle.table.specs.View.{part, entry_at, entries_from, view}
use Rattle.table.specs.Clearing.{clear_part, clear_clause, clear_from, marks_without}
use Rattle.table.specs.Effects.{find, clears, marks_after, marks_after_all}
use Rattle.dependency.specs.Decide.{turned, leads, cyclic}
use Rattle.cycle.specs.Answer.{cycle_of}
use Rattle.sorting.specs.Sorting.{below, insert, sorted}
use Rattle.models_words.specs.Words.{entries_of, stable_word, models_of}
use Rattle.models_list.specs.Answer.{models_answer, models_out}
use Rattle.step_lists.specs.Lists as checking
use Rattle.step_questions.specs.Questions as steps
use Rattle.reducer_results.specs.Reductions as reductions
use Rattle.text_form.specs.Digits.{between, width, places, digits, others, commas}
use Rattle.text_form.specs.Render.{atoms_key, clauses_key, head_key, line_text, clause_text, clauses_text, render}
use Rattle.text_form.specs.Reader as reader
use Rattle.text_form.specs.Writer.{text_of, write_answer, out_after}
use Rattle.claims.proofs.Said.{Example, Said, row, writes, lists, texts, digits_are, reads_as, value, refusal, check_call, models_call, cycle_call, read_call, write_call, AllSay}
use Rattle.claims.proofs.Refusals.{from}

-- a list checked on a table
abbrev checks : List ℕ → List ℕ → Said → Example
checks ws l s = row (check_call ws (replicate (length ws) 1) l) s

-- the cycle answer of a table
abbrev cycles : List ℕ → Said → Example
cycles ws s = row (cycle_call ws) s

-- the list of all stable models, into a slice of so many words
abbrev models : List ℕ → ℕ → Said → Example
models ws room s = row (models_call ws room) s

-- 1. 0 <- 1., with two atoms
abbrev success : List ℕ
success = 2 ∷ 2 ∷ 1 ∷ 0 ∷ 0 ∷ 1 ∷ 1 ∷ 1 ∷ 0 ∷ 0 ∷ 1 ∷ []

-- 0 <- 1. 2 <- 0.: the first clause has one head atom and is no fact
abbrev rules : List ℕ
rules = 3 ∷ 2 ∷ 1 ∷ 1 ∷ 0 ∷ 0 ∷ 1 ∷ 1 ∷ 1 ∷ 0 ∷ 2 ∷ 0 ∷ []

-- 0|1. 2 <- 0.
abbrev disjunctive : List ℕ
disjunctive = 3 ∷ 2 ∷ 2 ∷ 0 ∷ 0 ∷ 0 ∷ 1 ∷ 1 ∷ 1 ∷ 0 ∷ 2 ∷ 0 ∷ []

-- 0 <- 1., with two atoms, and with three
abbrev headless : List ℕ
headless = 2 ∷ 1 ∷ 1 ∷ 1 ∷ 0 ∷ 0 ∷ 1 ∷ []

abbrev wider : List ℕ
wider = 3 ∷ 1 ∷ 1 ∷ 1 ∷ 0 ∷ 0 ∷ 1 ∷ []

-- 0 <- 1. 1 <- 0.
abbrev circle : List ℕ
circle = 2 ∷ 2 ∷ 1 ∷ 1 ∷ 0 ∷ 0 ∷ 1 ∷ 1 ∷ 1 ∷ 0 ∷ 1 ∷ 0 ∷ []

-- 0|1 <- 2. 2 <- 0.
abbrev either : List ℕ
either = 3 ∷ 2 ∷ 2 ∷ 1 ∷ 0 ∷ 0 ∷ 1 ∷ 2 ∷ 1 ∷ 1 ∷ 0 ∷ 2 ∷ 0 ∷ []

-- 0. 0.; two empty clauses
abbrev twice : List ℕ
twice = 2 ∷ 2 ∷ 1 ∷ 0 ∷ 0 ∷ 0 ∷ 1 ∷ 0 ∷ 0 ∷ 0 ∷ []

abbrev empty : List ℕ
empty = 0 ∷ 2 ∷ 0 ∷ 0 ∷ 0 ∷ 0 ∷ 0 ∷ 0 ∷ []

-- the text of one clause over n atoms, its lists as they stand; "atoms=" with one digit and "clauses=1" have 18 bytes with their line feeds
abbrev clause_over : ℕ → List ℕ → List ℕ → List ℕ → List ℕ
clause_over n h p q = render (program n (record { head = h; pos = p; neg = q } ∷ []))

-- reading such a text, lent 8,192 words
abbrev reads : List ℕ → Said → Example
reads ts s = row (read_call ts 8192) s

abbrev pub rows : List Example
rows =
    -- Slip 1. "The atom word of kind 3 now holds that atom", and "Lists with the old filler pass only where the atom is 0": 0. 1 <- 0.
    checks (2 ∷ 2 ∷ 1 ∷ 0 ∷ 0 ∷ 0 ∷ 1 ∷ 1 ∷ 0 ∷ 1 ∷ 0 ∷ []) (3 ∷ 1 ∷ 0 ∷ 0 ∷ []) (value 1)
    -- "29 .. where the partner's head as left is one atom and the word differs from it"; the reducer writes the atom
    ∷ checks success (3 ∷ 1 ∷ 0 ∷ 0 ∷ []) (refusal 29 0)
    ∷ checks success (3 ∷ 1 ∷ 0 ∷ 1 ∷ []) (value 1)
    ∷ writes success (3 ∷ 1 ∷ 0 ∷ 1 ∷ [])
    -- a partner with one head atom that is no fact: with another atom 29, with its own 16
    ∷ checks rules (3 ∷ 1 ∷ 0 ∷ 1 ∷ []) (refusal 29 0)
    ∷ checks rules (3 ∷ 1 ∷ 0 ∷ 0 ∷ []) (refusal 16 0)
    -- a fact with two head atoms, or none, passes 29 with any atom, and fails 16; the last: the empty clause, then 0 <- 1.
    ∷ checks disjunctive (3 ∷ 1 ∷ 0 ∷ 0 ∷ []) (refusal 16 0)
    ∷ checks disjunctive (3 ∷ 1 ∷ 0 ∷ 2 ∷ []) (refusal 16 0)
    ∷ checks (2 ∷ 2 ∷ 0 ∷ 0 ∷ 0 ∷ 1 ∷ 1 ∷ 0 ∷ 0 ∷ 1 ∷ []) (3 ∷ 1 ∷ 0 ∷ 1 ∷ []) (refusal 16 0)
    -- the fact's atom, which the target's body lacks: 1. 0 <- 0.
    ∷ checks (2 ∷ 2 ∷ 1 ∷ 0 ∷ 0 ∷ 1 ∷ 1 ∷ 1 ∷ 0 ∷ 0 ∷ 0 ∷ []) (3 ∷ 1 ∷ 0 ∷ 1 ∷ []) (refusal 16 0)
    -- "question 15 treats it as used", and 29 "comes after 15", which comes after 14: an atom that is not below n; with n = 0 any
    ∷ checks success (3 ∷ 1 ∷ 0 ∷ 2 ∷ []) (refusal 15 0)
    ∷ checks (0 ∷ 2 ∷ 0 ∷ 0 ∷ 0 ∷ 0 ∷ 0 ∷ 0 ∷ []) (3 ∷ 0 ∷ 1 ∷ 0 ∷ []) (refusal 15 0)
    ∷ checks success (3 ∷ 1 ∷ 1 ∷ 0 ∷ []) (refusal 14 0)
    -- "for kind 3 only": the partner 1. of kinds 5 and 8, whose atom word is 0: 1. 0 <- ~1., and 1. 1.
    ∷ checks (2 ∷ 2 ∷ 1 ∷ 0 ∷ 0 ∷ 1 ∷ 1 ∷ 0 ∷ 1 ∷ 0 ∷ 1 ∷ []) (5 ∷ 1 ∷ 0 ∷ 0 ∷ []) (value 1)
    ∷ checks (2 ∷ 2 ∷ 1 ∷ 0 ∷ 0 ∷ 1 ∷ 1 ∷ 0 ∷ 0 ∷ 1 ∷ []) (8 ∷ 0 ∷ 1 ∷ 0 ∷ []) (value 1)
    -- its place is the step's number: 0. 1. 2 <- 0, 1.
    ∷ checks (3 ∷ 3 ∷ 1 ∷ 0 ∷ 0 ∷ 0 ∷ 1 ∷ 0 ∷ 0 ∷ 1 ∷ 1 ∷ 2 ∷ 0 ∷ 2 ∷ 0 ∷ 1 ∷ []) (3 ∷ 2 ∷ 0 ∷ 0 ∷ 3 ∷ 2 ∷ 1 ∷ 0 ∷ []) (refusal 29 1)
    ∷ writes (3 ∷ 3 ∷ 1 ∷ 0 ∷ 0 ∷ 0 ∷ 1 ∷ 0 ∷ 0 ∷ 1 ∷ 1 ∷ 2 ∷ 0 ∷ 2 ∷ 0 ∷ 1 ∷ []) (3 ∷ 2 ∷ 0 ∷ 0 ∷ 3 ∷ 2 ∷ 1 ∷ 1 ∷ [])
    -- Slip 2. "the example 0 <- ~1. 1 <- ~0. changes from yes to no"; so does an atom that needs its own absence: 0 <- ~0.
    ∷ cycles (2 ∷ 2 ∷ 1 ∷ 0 ∷ 1 ∷ 0 ∷ 1 ∷ 1 ∷ 0 ∷ 1 ∷ 1 ∷ 0 ∷ []) (value 0)
    ∷ cycles (1 ∷ 1 ∷ 1 ∷ 0 ∷ 1 ∷ 0 ∷ 0 ∷ []) (value 0)
    -- "only positive body atoms lead on": 0 <- 1. 1 <- 0.; 0 <- 0, ~1.; through one atom of a disjunctive head: 0|1 <- 2. 2 <- 1.; two clauses with negative atoms beside: 0 <- 1, ~2. 1 <- 0, ~2.
    ∷ cycles (2 ∷ 2 ∷ 1 ∷ 1 ∷ 0 ∷ 0 ∷ 1 ∷ 1 ∷ 1 ∷ 0 ∷ 1 ∷ 0 ∷ []) (value 1)
    ∷ cycles (2 ∷ 1 ∷ 1 ∷ 1 ∷ 1 ∷ 0 ∷ 0 ∷ 1 ∷ []) (value 1)
    ∷ cycles (3 ∷ 2 ∷ 2 ∷ 1 ∷ 0 ∷ 0 ∷ 1 ∷ 2 ∷ 1 ∷ 1 ∷ 0 ∷ 2 ∷ 1 ∷ []) (value 1)
    ∷ cycles (3 ∷ 2 ∷ 1 ∷ 1 ∷ 1 ∷ 0 ∷ 1 ∷ 2 ∷ 1 ∷ 1 ∷ 1 ∷ 1 ∷ 0 ∷ 2 ∷ []) (value 1)
    -- one negative literal breaks a circle: 0 <- 1. 1 <- ~0.; 0 <- 1. 1 <- 2. 2 <- ~0.; of two circles, 0 <- 1. 1 <- ~0. 1 <- 2. 2 <- 0., the one without it stays
    ∷ cycles (2 ∷ 2 ∷ 1 ∷ 1 ∷ 0 ∷ 0 ∷ 1 ∷ 1 ∷ 0 ∷ 1 ∷ 1 ∷ 0 ∷ []) (value 0)
    ∷ cycles (3 ∷ 3 ∷ 1 ∷ 1 ∷ 0 ∷ 0 ∷ 1 ∷ 1 ∷ 1 ∷ 0 ∷ 1 ∷ 2 ∷ 1 ∷ 0 ∷ 1 ∷ 2 ∷ 0 ∷ []) (value 0)
    ∷ cycles (3 ∷ 4 ∷ 1 ∷ 1 ∷ 0 ∷ 0 ∷ 1 ∷ 1 ∷ 0 ∷ 1 ∷ 1 ∷ 0 ∷ 1 ∷ 1 ∷ 0 ∷ 1 ∷ 2 ∷ 1 ∷ 1 ∷ 0 ∷ 2 ∷ 0 ∷ []) (value 1)
    -- a constraint leads nowhere, and a fact ends a chain: <- 0. 0 <- 1. 1.
    ∷ cycles (2 ∷ 3 ∷ 0 ∷ 1 ∷ 0 ∷ 0 ∷ 1 ∷ 1 ∷ 0 ∷ 0 ∷ 1 ∷ 1 ∷ 0 ∷ 0 ∷ 1 ∷ []) (value 0)
    -- Slip 3. "the sum of 2 to the power of each atom in it", "Words ascend", "Words of the slice past the count don't change": 0 <- ~1. 1 <- ~0.; 0|1. 2|3.; the facts 0. 2.
    ∷ lists (2 ∷ 2 ∷ 1 ∷ 0 ∷ 1 ∷ 0 ∷ 1 ∷ 1 ∷ 0 ∷ 1 ∷ 1 ∷ 0 ∷ []) (1 ∷ 2 ∷ [])
    ∷ lists (4 ∷ 2 ∷ 2 ∷ 0 ∷ 0 ∷ 0 ∷ 1 ∷ 2 ∷ 0 ∷ 0 ∷ 2 ∷ 3 ∷ []) (5 ∷ 6 ∷ 9 ∷ 10 ∷ [])
    ∷ lists (3 ∷ 2 ∷ 1 ∷ 0 ∷ 0 ∷ 0 ∷ 1 ∷ 0 ∷ 0 ∷ 2 ∷ []) (5 ∷ [])
    -- "A set is listed exactly when the test of demand 2 would say yes": the empty set, where there are no clauses, or none that begins: 0 <- 1. 1 <- 0.
    ∷ lists (3 ∷ 0 ∷ []) (0 ∷ [])
    ∷ lists (0 ∷ 0 ∷ []) (0 ∷ [])
    ∷ lists (2 ∷ 2 ∷ 1 ∷ 1 ∷ 0 ∷ 0 ∷ 1 ∷ 1 ∷ 1 ∷ 0 ∷ 1 ∷ 0 ∷ []) (0 ∷ [])
    -- minimal models of the reduct, not of the program: of 0 <- ~1. over two atoms the sets 0 and 1 are minimal models, only 0 is stable; of 0|1. 0 <- 1. 1 <- 0. the set 0, 1
    ∷ lists (2 ∷ 1 ∷ 1 ∷ 0 ∷ 1 ∷ 0 ∷ 1 ∷ []) (1 ∷ [])
    ∷ lists (2 ∷ 3 ∷ 2 ∷ 0 ∷ 0 ∷ 0 ∷ 1 ∷ 1 ∷ 1 ∷ 0 ∷ 0 ∷ 1 ∷ 1 ∷ 1 ∷ 0 ∷ 1 ∷ 0 ∷ []) (3 ∷ [])
    -- none: 0 <- ~0.; the empty clause; a constraint forbids the one there would be: 0. <- 0.
    ∷ lists (1 ∷ 1 ∷ 1 ∷ 0 ∷ 1 ∷ 0 ∷ 0 ∷ []) []
    ∷ lists (1 ∷ 1 ∷ 0 ∷ 0 ∷ 0 ∷ []) []
    ∷ lists (1 ∷ 2 ∷ 1 ∷ 0 ∷ 0 ∷ 0 ∷ 0 ∷ 1 ∷ 0 ∷ 0 ∷ []) []
    -- "31, after 30, is for a slice shorter than the count": 0|1. has two; none need no word
    ∷ models (2 ∷ 1 ∷ 2 ∷ 0 ∷ 0 ∷ 0 ∷ 1 ∷ []) 2 (value 2)
    ∷ models (2 ∷ 1 ∷ 2 ∷ 0 ∷ 0 ∷ 0 ∷ 1 ∷ []) 1 (refusal 31 0)
    ∷ models (2 ∷ 1 ∷ 2 ∷ 0 ∷ 0 ∷ 0 ∷ 1 ∷ []) 0 (refusal 31 0)
    ∷ models (1 ∷ 1 ∷ 0 ∷ 0 ∷ 0 ∷ []) 0 (value 0)
    -- "30, after 8, is for more than 16 atoms", before 31: 17 atoms with and without a slice; a word left over is 8
    ∷ models (17 ∷ 0 ∷ []) 6 (refusal 30 0)
    ∷ models (17 ∷ 0 ∷ []) 0 (refusal 30 0)
    ∷ models (17 ∷ 0 ∷ 0 ∷ []) 6 (refusal 8 2)
    -- Slip 4. "cases that people can hold against the text form: 0 to 9, 10 to 99, 100 to 999, 1,000 to 9,999, and for the place of a refusal 10,000 to 65,536": both ends of each
    ∷ digits_are 0 (48 ∷ [])
    ∷ digits_are 9 (57 ∷ [])
    ∷ digits_are 10 (49 ∷ 48 ∷ [])
    ∷ digits_are 99 (57 ∷ 57 ∷ [])
    ∷ digits_are 100 (49 ∷ 48 ∷ 48 ∷ [])
    ∷ digits_are 999 (57 ∷ 57 ∷ 57 ∷ [])
    ∷ digits_are 1000 (49 ∷ 48 ∷ 48 ∷ 48 ∷ [])
    ∷ digits_are 9999 (57 ∷ 57 ∷ 57 ∷ 57 ∷ [])
    ∷ digits_are 10000 (49 ∷ 48 ∷ 48 ∷ 48 ∷ 48 ∷ [])
    ∷ digits_are 65536 (54 ∷ 53 ∷ 53 ∷ 51 ∷ 54 ∷ [])
    -- "every output keeps its bytes": "atoms=" and the number, "clauses=0"
    ∷ texts (9 ∷ 0 ∷ []) (97 ∷ 116 ∷ 111 ∷ 109 ∷ 115 ∷ 61 ∷ 57 ∷ 10 ∷ 99 ∷ 108 ∷ 97 ∷ 117 ∷ 115 ∷ 101 ∷ 115 ∷ 61 ∷ 48 ∷ 10 ∷ [])
    ∷ texts (10 ∷ 0 ∷ []) (97 ∷ 116 ∷ 111 ∷ 109 ∷ 115 ∷ 61 ∷ 49 ∷ 48 ∷ 10 ∷ 99 ∷ 108 ∷ 97 ∷ 117 ∷ 115 ∷ 101 ∷ 115 ∷ 61 ∷ 48 ∷ 10 ∷ [])
    ∷ texts (99 ∷ 0 ∷ []) (97 ∷ 116 ∷ 111 ∷ 109 ∷ 115 ∷ 61 ∷ 57 ∷ 57 ∷ 10 ∷ 99 ∷ 108 ∷ 97 ∷ 117 ∷ 115 ∷ 101 ∷ 115 ∷ 61 ∷ 48 ∷ 10 ∷ [])
    ∷ texts (100 ∷ 0 ∷ []) (97 ∷ 116 ∷ 111 ∷ 109 ∷ 115 ∷ 61 ∷ 49 ∷ 48 ∷ 48 ∷ 10 ∷ 99 ∷ 108 ∷ 97 ∷ 117 ∷ 115 ∷ 101 ∷ 115 ∷ 61 ∷ 48 ∷ 10 ∷ [])
    ∷ texts (999 ∷ 0 ∷ []) (97 ∷ 116 ∷ 111 ∷ 109 ∷ 115 ∷ 61 ∷ 57 ∷ 57 ∷ 57 ∷ 10 ∷ 99 ∷ 108 ∷ 97 ∷ 117 ∷ 115 ∷ 101 ∷ 115 ∷ 61 ∷ 48 ∷ 10 ∷ [])
    ∷ texts (1000 ∷ 0 ∷ []) (97 ∷ 116 ∷ 111 ∷ 109 ∷ 115 ∷ 61 ∷ 49 ∷ 48 ∷ 48 ∷ 48 ∷ 10 ∷ 99 ∷ 108 ∷ 97 ∷ 117 ∷ 115 ∷ 101 ∷ 115 ∷ 61 ∷ 48 ∷ 10 ∷ [])
    -- "atoms=1024", "clauses=1", "head=9,10,99,100,999,1000,1023", "pos=", "neg="
    ∷ texts (1024 ∷ 1 ∷ 7 ∷ 0 ∷ 0 ∷ 9 ∷ 10 ∷ 99 ∷ 100 ∷ 999 ∷ 1000 ∷ 1023 ∷ []) (97 ∷ 116 ∷ 111 ∷ 109 ∷ 115 ∷ 61 ∷ 49 ∷ 48 ∷ 50 ∷ 52 ∷ 10 ∷ 99 ∷ 108 ∷ 97 ∷ 117 ∷ 115 ∷ 101 ∷ 115 ∷ 61 ∷ 49 ∷ 10 ∷ 104 ∷ 101 ∷ 97 ∷ 100 ∷ 61 ∷ 57 ∷ 44 ∷ 49 ∷ 48 ∷ 44 ∷ 57 ∷ 57 ∷ 44 ∷ 49 ∷ 48 ∷ 48 ∷ 44 ∷ 57 ∷ 57 ∷ 57 ∷ 44 ∷ 49 ∷ 48 ∷ 48 ∷ 48 ∷ 44 ∷ 49 ∷ 48 ∷ 50 ∷ 51 ∷ 10 ∷ 112 ∷ 111 ∷ 115 ∷ 61 ∷ 10 ∷ 110 ∷ 101 ∷ 103 ∷ 61 ∷ 10 ∷ [])
    -- m empty clauses: "atoms=0" and its line feed are 8 bytes, "clauses=" and one 9, a clause 16, and the digits of m
    ∷ row (write_call (0 ∷ 9 ∷ replicate 27 0) 162) (value 162)
    ∷ row (write_call (0 ∷ 10 ∷ replicate 30 0) 179) (value 179)
    ∷ row (write_call (0 ∷ 9 ∷ replicate 27 0) 161) (refusal 28 0)
    ∷ row (write_call (0 ∷ 10 ∷ replicate 30 0) 178) (refusal 28 0)
    ∷ row (write_call (0 ∷ 99 ∷ replicate 297 0) 1603) (value 1603)
    ∷ row (write_call (0 ∷ 100 ∷ replicate 300 0) 1620) (value 1620)
    -- Slip 5. "A list in text may now be in any order and repeat an atom. Reading a list sorts it and keeps each atom once": head=1,0,1 beside head=0,1; lists that descend; that are all equal
    ∷ reads_as (clause_over 3 (1 ∷ 0 ∷ 1 ∷ []) [] []) (3 ∷ 1 ∷ 2 ∷ 0 ∷ 0 ∷ 0 ∷ 1 ∷ [])
    ∷ reads_as (clause_over 3 (0 ∷ 1 ∷ []) [] []) (3 ∷ 1 ∷ 2 ∷ 0 ∷ 0 ∷ 0 ∷ 1 ∷ [])
    ∷ reads_as (clause_over 4 (3 ∷ 2 ∷ 1 ∷ 0 ∷ []) (2 ∷ 1 ∷ []) (3 ∷ 0 ∷ [])) (4 ∷ 1 ∷ 4 ∷ 2 ∷ 2 ∷ 0 ∷ 1 ∷ 2 ∷ 3 ∷ 1 ∷ 2 ∷ 0 ∷ 3 ∷ [])
    ∷ reads_as (clause_over 3 (2 ∷ 2 ∷ 2 ∷ []) (0 ∷ 0 ∷ []) (1 ∷ 1 ∷ 1 ∷ [])) (3 ∷ 1 ∷ 1 ∷ 1 ∷ 1 ∷ 2 ∷ 0 ∷ 1 ∷ [])
    ∷ reads_as (clause_over 1 (replicate 1000 0) [] []) (1 ∷ 1 ∷ 1 ∷ 0 ∷ 0 ∷ 0 ∷ [])
    -- more numbers on a line than a table has words
    ∷ reads_as (clause_over 2 [] (replicate 8193 1) []) (2 ∷ 1 ∷ 0 ∷ 1 ∷ 0 ∷ 1 ∷ [])
    -- the first two values stay one number: atoms=1,1, and clauses=1,1 after it
    ∷ reads (line_text atoms_key (49 ∷ 44 ∷ 49 ∷ [])) (refusal 25 0)
    ∷ reads (line_text atoms_key (49 ∷ []) ++ line_text clauses_key (49 ∷ 44 ∷ 49 ∷ [])) (refusal 25 8)
    -- "question 7 is never met from text": 6 with the line's place, wherever the number stands; 25 before it: head=9999,01
    ∷ reads (clause_over 2 (2 ∷ 0 ∷ []) [] []) (refusal 6 18)
    ∷ reads (clause_over 3 (0 ∷ []) (9999 ∷ 9999 ∷ 9999 ∷ []) []) (refusal 6 25)
    ∷ reads (line_text atoms_key (51 ∷ []) ++ line_text clauses_key (49 ∷ []) ++ line_text head_key (57 ∷ 57 ∷ 57 ∷ 57 ∷ 44 ∷ 48 ∷ 49 ∷ [])) (refusal 25 18)
    -- "question 26 counts what is kept", with the clause's three counts: of 8,187 different numbers, one of them twice, 8,192 words; of 8,188 one too many, though not below n
    ∷ reads (clause_over 3 (8186 ∷ from 0 8187) [] []) (refusal 6 18)
    ∷ reads (clause_over 3 (8187 ∷ from 0 8187) [] []) (refusal 26 18)
    -- Slip 6. "7,0,0,1 on 0 <- 1. alone": 1 is in no head, so that it is a failure, which the reducer writes; 0 is not in the body, but in a head, and stays 16
    ∷ checks headless (7 ∷ 0 ∷ 0 ∷ 1 ∷ []) (refusal 32 0)
    ∷ checks headless (6 ∷ 0 ∷ 0 ∷ 1 ∷ []) (value 1)
    ∷ writes headless (6 ∷ 0 ∷ 0 ∷ 1 ∷ [])
    ∷ checks headless (7 ∷ 0 ∷ 0 ∷ 0 ∷ []) (refusal 16 0)
    -- "in the target's body or not": over three atoms 2 is in no body and in no head; 15, 14 and 13 come before 32, and it is asked of kind 7 alone
    ∷ checks wider (7 ∷ 0 ∷ 0 ∷ 2 ∷ []) (refusal 32 0)
    ∷ checks wider (7 ∷ 0 ∷ 0 ∷ 3 ∷ []) (refusal 15 0)
    ∷ checks wider (7 ∷ 0 ∷ 1 ∷ 1 ∷ []) (refusal 14 0)
    ∷ checks wider (7 ∷ 1 ∷ 0 ∷ 1 ∷ []) (refusal 13 0)
    ∷ checks wider (6 ∷ 0 ∷ 0 ∷ 2 ∷ []) (refusal 16 0)
    ∷ checks wider (1 ∷ 0 ∷ 0 ∷ 2 ∷ []) (refusal 16 0)
    -- "in no kept head": of 0 <- 1. 1 <- 0. either may go as a loop step, and with it the head that the other needs; the place is the step's number
    ∷ checks circle (7 ∷ 0 ∷ 0 ∷ 1 ∷ 7 ∷ 1 ∷ 0 ∷ 0 ∷ []) (refusal 32 1)
    ∷ checks circle (7 ∷ 0 ∷ 0 ∷ 1 ∷ 6 ∷ 1 ∷ 0 ∷ 0 ∷ []) (value 2)
    ∷ checks circle (7 ∷ 1 ∷ 0 ∷ 0 ∷ 7 ∷ 0 ∷ 0 ∷ 1 ∷ []) (refusal 32 1)
    ∷ writes circle (7 ∷ 0 ∷ 0 ∷ 1 ∷ 6 ∷ 1 ∷ 0 ∷ 0 ∷ [])
    -- in a head and in the reach: 1. 0 <- 1.; its own head is a kept one: 0 <- 0., of which the reducer takes kind 1; a negative body alone: 0 <- ~1.
    ∷ checks success (7 ∷ 1 ∷ 0 ∷ 1 ∷ []) (refusal 16 0)
    ∷ checks (1 ∷ 1 ∷ 1 ∷ 1 ∷ 0 ∷ 0 ∷ 0 ∷ []) (7 ∷ 0 ∷ 0 ∷ 0 ∷ []) (value 1)
    ∷ writes (1 ∷ 1 ∷ 1 ∷ 1 ∷ 0 ∷ 0 ∷ 0 ∷ []) (1 ∷ 0 ∷ 0 ∷ 0 ∷ [])
    ∷ checks (2 ∷ 1 ∷ 1 ∷ 0 ∷ 1 ∷ 0 ∷ 1 ∷ []) (4 ∷ 0 ∷ 0 ∷ 1 ∷ []) (value 1)
    ∷ checks (2 ∷ 1 ∷ 1 ∷ 0 ∷ 1 ∷ 0 ∷ 1 ∷ []) (7 ∷ 0 ∷ 0 ∷ 1 ∷ []) (refusal 32 0)
    -- one of two head atoms: 0|1 <- 2. 2 <- 0.
    ∷ checks either (7 ∷ 0 ∷ 0 ∷ 2 ∷ []) (value 1)
    ∷ checks either (7 ∷ 1 ∷ 0 ∷ 0 ∷ []) (value 1)
    ∷ checks either (7 ∷ 0 ∷ 0 ∷ 2 ∷ 7 ∷ 1 ∷ 0 ∷ 0 ∷ []) (refusal 32 1)
    -- Slip 7. "The example 0. 0. gives 8,1,0,0. The checker still takes either order."
    ∷ writes twice (8 ∷ 1 ∷ 0 ∷ 0 ∷ [])
    ∷ checks twice (8 ∷ 0 ∷ 1 ∷ 0 ∷ []) (value 1)
    ∷ checks twice (8 ∷ 1 ∷ 0 ∷ 0 ∷ []) (value 1)
    -- "the step of kind 5 or 8": two empty clauses, by 5 before 8
    ∷ writes empty (5 ∷ 1 ∷ 0 ∷ 0 ∷ [])
    ∷ checks empty (5 ∷ 0 ∷ 1 ∷ 0 ∷ []) (value 1)
    ∷ checks empty (5 ∷ 1 ∷ 0 ∷ 0 ∷ []) (value 1)
    ∷ checks empty (8 ∷ 0 ∷ 1 ∷ 0 ∷ []) (value 1)
    ∷ checks empty (8 ∷ 1 ∷ 0 ∷ 0 ∷ []) (value 1)
    -- three leave the first: 0. 0. 0., three empty clauses; 0. and then two empty clauses: the fact goes by the first of them, which is not equal to it
    ∷ writes (1 ∷ 3 ∷ 1 ∷ 0 ∷ 0 ∷ 0 ∷ 1 ∷ 0 ∷ 0 ∷ 0 ∷ 1 ∷ 0 ∷ 0 ∷ 0 ∷ []) (8 ∷ 1 ∷ 0 ∷ 0 ∷ 8 ∷ 2 ∷ 0 ∷ 0 ∷ [])
    ∷ writes (0 ∷ 3 ∷ 0 ∷ 0 ∷ 0 ∷ 0 ∷ 0 ∷ 0 ∷ 0 ∷ 0 ∷ 0 ∷ []) (5 ∷ 1 ∷ 0 ∷ 0 ∷ 5 ∷ 2 ∷ 0 ∷ 0 ∷ [])
    ∷ writes (1 ∷ 3 ∷ 1 ∷ 0 ∷ 0 ∷ 0 ∷ 0 ∷ 0 ∷ 0 ∷ 0 ∷ 0 ∷ 0 ∷ []) (5 ∷ 0 ∷ 1 ∷ 0 ∷ 5 ∷ 2 ∷ 1 ∷ 0 ∷ [])
    -- equal constraints: 0|1. <- 0. <- 0., where slip 8 takes the atom out then
    ∷ writes (2 ∷ 3 ∷ 2 ∷ 0 ∷ 0 ∷ 0 ∷ 1 ∷ 0 ∷ 1 ∷ 0 ∷ 0 ∷ 0 ∷ 1 ∷ 0 ∷ 0 ∷ []) (8 ∷ 2 ∷ 1 ∷ 0 ∷ 9 ∷ 1 ∷ 0 ∷ 0 ∷ [])
    -- "as left": a drop makes the earlier of two equal facts, 0. 1 <- 0. 1., or the later, 1. 0. 1 <- 0.
    ∷ writes (2 ∷ 3 ∷ 1 ∷ 0 ∷ 0 ∷ 0 ∷ 1 ∷ 1 ∷ 0 ∷ 1 ∷ 0 ∷ 1 ∷ 0 ∷ 0 ∷ 1 ∷ []) (3 ∷ 1 ∷ 0 ∷ 0 ∷ 8 ∷ 2 ∷ 1 ∷ 0 ∷ [])
    ∷ writes (2 ∷ 3 ∷ 1 ∷ 0 ∷ 0 ∷ 1 ∷ 1 ∷ 0 ∷ 0 ∷ 0 ∷ 1 ∷ 1 ∷ 0 ∷ 1 ∷ 0 ∷ []) (3 ∷ 2 ∷ 1 ∷ 0 ∷ 8 ∷ 2 ∷ 0 ∷ 0 ∷ [])
    -- "takes the smallest step of the rest": 0|1. twice around 0., which subsumes both, and before it, so that the first goes by clause 2 and not by its equal
    ∷ writes (2 ∷ 3 ∷ 2 ∷ 0 ∷ 0 ∷ 0 ∷ 1 ∷ 1 ∷ 0 ∷ 0 ∷ 0 ∷ 2 ∷ 0 ∷ 0 ∷ 0 ∷ 1 ∷ []) (8 ∷ 0 ∷ 1 ∷ 0 ∷ 8 ∷ 2 ∷ 1 ∷ 0 ∷ [])
    ∷ writes (2 ∷ 3 ∷ 2 ∷ 0 ∷ 0 ∷ 0 ∷ 1 ∷ 2 ∷ 0 ∷ 0 ∷ 0 ∷ 1 ∷ 1 ∷ 0 ∷ 0 ∷ 0 ∷ []) (8 ∷ 0 ∷ 2 ∷ 0 ∷ 8 ∷ 1 ∷ 2 ∷ 0 ∷ [])
    -- "equal in all three parts": the earlier of two clauses with equal heads that is subsumed and not equal goes: 0 <- ~1, ~2. 0 <- ~1. 1 <- ~0. 2 <- ~0.
    ∷ writes (3 ∷ 4 ∷ 1 ∷ 0 ∷ 2 ∷ 0 ∷ 1 ∷ 2 ∷ 1 ∷ 0 ∷ 1 ∷ 0 ∷ 1 ∷ 1 ∷ 0 ∷ 1 ∷ 1 ∷ 0 ∷ 1 ∷ 0 ∷ 1 ∷ 2 ∷ 0 ∷ []) (8 ∷ 0 ∷ 1 ∷ 0 ∷ [])
    -- equal when a step is chosen, not as given: 1 <- ~0. 0|1. 1 <- ~0. 1.; the last deletes the first two, then clause 2 loses ~0, and as the fact 1 it deletes the last
    ∷ writes (2 ∷ 4 ∷ 1 ∷ 0 ∷ 1 ∷ 1 ∷ 0 ∷ 2 ∷ 0 ∷ 0 ∷ 0 ∷ 1 ∷ 1 ∷ 0 ∷ 1 ∷ 1 ∷ 0 ∷ 1 ∷ 0 ∷ 0 ∷ 1 ∷ []) (8 ∷ 0 ∷ 3 ∷ 0 ∷ 8 ∷ 1 ∷ 3 ∷ 0 ∷ 4 ∷ 2 ∷ 0 ∷ 0 ∷ 8 ∷ 3 ∷ 2 ∷ 0 ∷ [])
    ∷ []

pub requests : AllSay rows
unfolding left fire reach_from reach consequences excludes removal in_no_head condition atom_headed condition_holds applies effect same passed_over eligible least first_atom first_partner first_target first_step reduce ask questions.atoms_from questions.parts_from questions.clause_from questions.clauses_from questions.all_used questions.table_of start_from clauses_of program_of part entry_at entries_from view find clears clear_part clear_clause clear_from marks_without marks_after marks_after_all steps.shape_questions steps.condition_questions steps.step_questions checking.steps_from checking.check_list words_of reductions.literals reductions.room reductions.steps_of reductions.reduction questions.on_walk questions.on_table turned leads cyclic cycle_of programs.satisfies programs.reduct programs.models sublists stable_test below entries_of stable_word models_of models_answer models_out written_if between width places digits others commas line_text clause_text clauses_text render text_of write_answer out_after clauses_words encode insert sorted reader.then reader.starts reader.run reader.ended reader.span_at reader.next_of reader.scan reader.numbers reader.on_span reader.value_of reader.value_at reader.number_at reader.count_at reader.list_of reader.list_at reader.clause_at reader.clauses_at reader.rest_at reader.program_at reader.read_text reader.read_answer reader.table_after
requests = (refl, (refl, (refl, ((refl, refl), (refl, (refl, (refl, (refl, (refl, (refl, (refl, (refl, (refl, (refl, (refl, (refl, ((refl, refl), (refl, (refl, (refl, (refl, (refl, (refl, (refl, (refl, (refl, (refl, ((refl, refl), ((refl, refl), ((refl, refl), ((refl, refl), ((refl, refl), ((refl, refl), ((refl, refl), ((refl, refl), ((refl, refl), ((refl, refl), ((refl, refl), (refl, (refl, (refl, (refl, (refl, (refl, (refl, (refl, (refl, (refl, (refl, (refl, (refl, (refl, (refl, (refl, (refl, ((refl, refl), ((refl, refl), ((refl, refl), ((refl, refl), ((refl, refl), ((refl, refl), ((refl, refl), (refl, (refl, (refl, (refl, (refl, (refl, ((refl, refl), ((refl, refl), ((refl, refl), ((refl, refl), ((refl, refl), ((refl, refl), (refl, (refl, (refl, (refl, (refl, (refl, (refl, (refl, (refl, ((refl, refl), (refl, (refl, (refl, (refl, (refl, (refl, (refl, (refl, (refl, (refl, ((refl, refl), (refl, (refl, ((refl, refl), (refl, (refl, (refl, (refl, (refl, ((refl, refl), (refl, (refl, ((refl, refl), (refl, (refl, (refl, (refl, ((refl, refl), ((refl, refl), ((refl, refl), ((refl, refl), ((refl, refl), ((refl, refl), ((refl, refl), ((refl, refl), ((refl, refl), ((refl, refl), tt)))))))))))))))))))))))))))))))))))))))))))))))))))))))))))))))))))))))))))))))))))))))))))))))))))))))))))))))))))))))))
