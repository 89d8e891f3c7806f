-- Refusals as values: for each question of document 01 at least one call that it refuses, with number and place, and often a call beside it that passes. Worked out by hand
-- from "The questions": the table's words are counted from 0 (n, m, then a clause's h, p, q and its atoms), steps and entries from 0, bytes from the text's first.
-- "atoms=0" is 8 bytes with its line feed, "clauses=0" 10, "head=", "pos=" and "neg=" without numbers 6, 5 and 5.
use mathlib.Core.Path.{refl}
use mathlib.Core.List.{List, [], ◌∷◌, ◌++◌}
use Prim.Native.Nat.{ℕ, zero, suc, ◌+◌}
use lib.ListN.{replicate}
use Rattle.semantics.specs.Programs.{Clause, satisfies, reduct, models}
use Rattle.semantics.specs.Lists.{same}
use Rattle.semantics.specs.Decide.{sublists, stable_test}
use Rattle.rewriting.specs.Marked.{left}
use Rattle.rewriting.specs.Reaches.{fire, reach_from, reach}
use Rattle.rewriting.specs.Consequences.{consequences}
use Rattle.rewriting.specs.Exclusion.{excludes, removal}
use Rattle.rewriting.specs.Steps.{in_no_head, condition, atom_headed, condition_holds, applies, effect}
use Rattle.rewriting.specs.Reducer.{passed_over, eligible}
use Rattle.rewriting.specs.Search.{least, first_atom, first_partner, first_target, first_step}
use Rattle.rewriting.specs.Search as search
use Rattle.answers.specs.Answers.{ask}
use Rattle.table.specs.StepWords.{words_of}
use Rattle.table.specs.Questions as questions
use Rattle.table.specs.Encoding.{clauses_words, encode}
use Rattle.table.specs.Places.{start_from}
use Rattle.table.specs.Programs.{clauses_of, program_of}
use Rattle.table.specs.View.{part, entry_at, entries_from, view}
use Rattle.table.specs.Clearing.{clear_part, clear_clause, clear_from, marks_without}
use Rattle.table.specs.Effects.{find, clears, marks_after, marks_after_all}
use Rattle.reduced_marks.specs.Allowed.{clearable_from, marks_from}
use Rattle.models_test.specs.Answer as sets
use Rattle.step_lists.specs.Lists as lists
use Rattle.step_questions.specs.Questions as steps
use Rattle.reducer_results.specs.Reductions as reductions
use Rattle.reduced_table.specs.Reduced as compaction
use Rattle.sorting.specs.Sorting.{insert, sorted}
use Rattle.text_form.specs.Digits.{between, width, places, digits, others, commas}
use Rattle.text_form.specs.Render.{atoms_key, clauses_key, head_key, pos_key, neg_key, line_text, clause_text, clauses_text, render}
use Rattle.text_form.specs.Reader as reader
use Rattle.text_form.specs.Writer as writer
use Rattle.claims.proofs.Said.{Example, row, AllSay, Said, value, refusal, table_call, check_call, reduce_call, reduced_call, test_call, read_call, write_call}

-- ---- the calls

-- 0 <- 1. with two atoms: 7 words, and room for its 2 steps is 8 words
abbrev rule : List ℕ
rule = 2 ∷ 1 ∷ 1 ∷ 1 ∷ 0 ∷ 0 ∷ 1 ∷ []

-- 0. 0. with two atoms
abbrev twice : List ℕ
twice = 2 ∷ 2 ∷ 1 ∷ 0 ∷ 0 ∷ 0 ∷ 1 ∷ 0 ∷ 0 ∷ 0 ∷ []

-- the checker on a list, for 0 <- 1. with any marks that pass 9
abbrev checks : List ℕ → Said → Example
checks ls s = row (check_call rule (replicate 7 5) ls) s

-- reading a text, lent 8,192 words; the texts begin with "atoms=2" and "clauses=1"
abbrev reads : List ℕ → Said → Example
reads ts s = row (read_call ts 8192) s

abbrev start : List ℕ
start = line_text atoms_key (50 ∷ []) ++ line_text clauses_key (49 ∷ [])

-- the atoms from 0 on: of 0 to 1,023, the digits are 10 + 180 + 2,700 + 96, the commas 1,023
abbrev pub from : ℕ → ℕ → List ℕ
from a zero = []
from a (suc k) = a ∷ from (a + 1) k

abbrev clause : ℕ → ℕ → ℕ → Clause
clause h p q = record { head = from 0 h; pos = from 0 p; neg = from 0 q }

-- "atoms=1024", "clauses=4", three clauses and the fourth's head line, "head=": the clauses have 3,075, 3,075 and 2,038 words, with n and m 8,190; the lines before the
-- fourth clause have 11 + 10, twice 4,015 + 4,014 + 4,014, and 4,015 + 3,949 + 5 bytes
abbrev nearly : List ℕ
nearly = line_text atoms_key (digits 1024) ++ line_text clauses_key (digits 4) ++ clause_text (clause 1024 1024 1024) ++ clause_text (clause 1024 1024 1024) ++ clause_text (clause 1024 1011 0) ++ line_text head_key []

abbrev pub rows : List Example
rows =
    -- 1 "Has it 2 to 8,192 words?"; of 8,192 zeros the third is left over
    row (table_call (0 ∷ [])) (refusal 1 0)
    ∷ row (table_call (replicate 8193 0)) (refusal 1 0)
    ∷ row (table_call (replicate 8192 0)) (refusal 8 2)
    -- 2 "Is n at most 1,024?"
    ∷ row (table_call (1024 ∷ 0 ∷ [])) (value 0)
    ∷ row (table_call (1025 ∷ 2049 ∷ [])) (refusal 2 0)
    -- 3 "Is m at most 2,048 (place 1)?"
    ∷ row (table_call (0 ∷ 2049 ∷ [])) (refusal 3 1)
    -- 4 "Are three count words left?", at the clause's first word, also where no word is
    ∷ row (table_call (2 ∷ 1 ∷ [])) (refusal 4 2)
    ∷ row (table_call (2 ∷ 2 ∷ 1 ∷ 0 ∷ 0 ∷ 1 ∷ 0 ∷ 0 ∷ [])) (refusal 4 6)
    -- 5 "Are h+p+q more words left": the sum, not what is left of it in 16 bits
    ∷ row (table_call (2 ∷ 1 ∷ 65535 ∷ 1 ∷ 0 ∷ [])) (refusal 5 2)
    -- 6 "Is the atom below n?": n itself, and a word above n
    ∷ row (table_call (2 ∷ 1 ∷ 1 ∷ 0 ∷ 0 ∷ 2 ∷ [])) (refusal 6 5)
    ∷ row (table_call (2 ∷ 1 ∷ 1 ∷ 0 ∷ 0 ∷ 65535 ∷ [])) (refusal 6 5)
    -- 7 "Is it above the one before it in its part": equal, below; 6 at a word comes before 7 at the next; the next part starts anew
    ∷ row (table_call (2 ∷ 1 ∷ 2 ∷ 0 ∷ 0 ∷ 1 ∷ 1 ∷ [])) (refusal 7 6)
    ∷ row (table_call (3 ∷ 1 ∷ 0 ∷ 0 ∷ 3 ∷ 0 ∷ 2 ∷ 1 ∷ [])) (refusal 7 7)
    ∷ row (table_call (2 ∷ 1 ∷ 2 ∷ 0 ∷ 0 ∷ 5 ∷ 5 ∷ [])) (refusal 6 5)
    ∷ row (table_call (2 ∷ 1 ∷ 1 ∷ 1 ∷ 0 ∷ 1 ∷ 0 ∷ [])) (value 0)
    -- 7 in one clause comes before 4 of the next
    ∷ row (table_call (2 ∷ 2 ∷ 2 ∷ 0 ∷ 0 ∷ 1 ∷ 0 ∷ [])) (refusal 7 6)
    -- 8 "Is no word left over (place of the first)?"
    ∷ row (table_call (2 ∷ 0 ∷ 0 ∷ 0 ∷ [])) (refusal 8 2)
    -- 9 "Are there at least as many marks as words?", of three calls; 8 comes before it
    ∷ row (check_call rule (replicate 6 1) []) (refusal 9 0)
    ∷ row (reduce_call rule (replicate 6 1) []) (refusal 9 0)
    ∷ row (reduced_call rule (replicate 6 1) []) (refusal 9 0)
    ∷ row (check_call (2 ∷ 0 ∷ 0 ∷ []) [] []) (refusal 8 2)
    -- 10 "Is the mark of each table word 0 or 1, and 0 only at a clause's first word or a body atom (place of the first that isn't)?"; slip 8: "question 10 allows 0 at head
    -- atoms": the mark of m; of a count; one of 2 at the body atom behind a 0 at the head atom; the head atom's alone, which leaves <- 1.; one of 2; and 0 at the clause's first word and at
    -- its body atom, which leave 2 0
    ∷ row (reduced_call rule (1 ∷ 0 ∷ 1 ∷ 1 ∷ 1 ∷ 0 ∷ 1 ∷ []) []) (refusal 10 1)
    ∷ row (reduced_call rule (1 ∷ 1 ∷ 1 ∷ 0 ∷ 1 ∷ 0 ∷ 1 ∷ []) []) (refusal 10 3)
    ∷ row (reduced_call rule (1 ∷ 1 ∷ 1 ∷ 1 ∷ 1 ∷ 0 ∷ 2 ∷ []) []) (refusal 10 6)
    ∷ row (reduced_call rule (1 ∷ 1 ∷ 1 ∷ 1 ∷ 1 ∷ 0 ∷ 1 ∷ []) (replicate 6 9)) (value 6)
    ∷ row (reduced_call rule (1 ∷ 1 ∷ 1 ∷ 1 ∷ 1 ∷ 1 ∷ 2 ∷ []) []) (refusal 10 6)
    ∷ row (reduced_call rule (1 ∷ 1 ∷ 0 ∷ 1 ∷ 1 ∷ 1 ∷ 0 ∷ []) (0 ∷ 0 ∷ [])) (value 2)
    -- 11 "Is the length a multiple of 4, at most 32,760?": a list of 32,760 words passes it, and its first step, of kind 0, is refused
    ∷ checks (9 ∷ 9 ∷ 9 ∷ []) (refusal 11 0)
    ∷ checks (replicate 32764 0) (refusal 11 0)
    ∷ checks (replicate 32760 0) (refusal 12 0)
    -- 12 "Is the kind 1 to 8?", and slip 8: "Question 12 allows 9"; at step 0 and at step 1
    ∷ checks (0 ∷ 9 ∷ 9 ∷ 9 ∷ []) (refusal 12 0)
    ∷ checks (6 ∷ 0 ∷ 0 ∷ 1 ∷ 10 ∷ 0 ∷ 0 ∷ 0 ∷ []) (refusal 12 1)
    ∷ checks (6 ∷ 0 ∷ 0 ∷ 1 ∷ 9 ∷ 0 ∷ 0 ∷ 0 ∷ []) (refusal 13 1)
    -- 13 "Is the target below m and kept?": not below m; deleted by the step before
    ∷ checks (6 ∷ 1 ∷ 9 ∷ 9 ∷ []) (refusal 13 0)
    ∷ checks (6 ∷ 0 ∷ 0 ∷ 1 ∷ 6 ∷ 0 ∷ 0 ∷ 1 ∷ []) (refusal 13 1)
    -- 14 "Is the partner below m, kept and another clause, or 0 where unused?": not below m, the target, not 0, deleted by the step before
    ∷ checks (8 ∷ 0 ∷ 1 ∷ 9 ∷ []) (refusal 14 0)
    ∷ checks (8 ∷ 0 ∷ 0 ∷ 9 ∷ []) (refusal 14 0)
    ∷ checks (6 ∷ 0 ∷ 1 ∷ 9 ∷ []) (refusal 14 0)
    ∷ row (check_call twice (replicate 10 1) (8 ∷ 0 ∷ 1 ∷ 0 ∷ 8 ∷ 1 ∷ 0 ∷ 9 ∷ [])) (refusal 14 1)
    -- 15 "Is the atom below n, or 0 where unused?"
    ∷ checks (6 ∷ 0 ∷ 0 ∷ 2 ∷ []) (refusal 15 0)
    ∷ row (check_call twice (replicate 10 1) (8 ∷ 0 ∷ 1 ∷ 1 ∷ [])) (refusal 15 0)
    -- 16 "Does the kind's condition hold?": 0 is in the head, and not in the body
    ∷ checks (1 ∷ 0 ∷ 0 ∷ 0 ∷ []) (refusal 16 0)
    ∷ checks (6 ∷ 0 ∷ 0 ∷ 1 ∷ []) (value 1)
    -- 17 "Has the list at least 4 times (m plus all body literals) words?", and slip 8: "17 counts all literals": 4 times 3, though 1 step is made
    ∷ row (reduce_call rule (replicate 7 5) (replicate 11 9)) (refusal 17 0)
    ∷ row (reduce_call rule (replicate 7 5) (replicate 12 9)) (value 1)
    -- 18 "Does the result fit?": 7 words, none gone
    ∷ row (reduced_call rule (replicate 7 1) (replicate 6 9)) (refusal 18 0)
    ∷ row (reduced_call rule (replicate 7 1) (replicate 7 9)) (value 7)
    -- 19 "Are there at most 16?"
    ∷ row (test_call rule (replicate 17 9)) (refusal 19 0)
    -- 20 "Is it below n?" 21 "Is it above the one before?", entry by entry: 20 at the second; 21 at the second before 20 at the third; 20 at the first before 21 at the second
    ∷ row (test_call rule (0 ∷ 2 ∷ [])) (refusal 20 1)
    ∷ row (test_call rule (1 ∷ 1 ∷ 9 ∷ [])) (refusal 21 1)
    ∷ row (test_call rule (1 ∷ 0 ∷ [])) (refusal 21 1)
    ∷ row (test_call rule (replicate 16 2)) (refusal 20 0)
    -- 22 "Are there at most 65,536 bytes?" 23 "Has the table slice at least 8,192 words?": 22 comes first
    ∷ row (read_call (replicate 65537 48) 0) (refusal 22 0)
    ∷ row (read_call (replicate 65536 48) 8191) (refusal 23 0)
    -- 24 "Is it there with its key, "=" and a line feed?": no text; a second line that is missing, that has no line feed, that has another key
    ∷ reads [] (refusal 24 0)
    ∷ reads (line_text atoms_key (48 ∷ [])) (refusal 24 8)
    ∷ reads (line_text atoms_key (48 ∷ []) ++ clauses_key ++ 48 ∷ []) (refusal 24 8)
    ∷ reads (start ++ line_text pos_key []) (refusal 24 18)
    -- 25 "Is the value in form?": 02; none; two numbers; 1, with a comma behind it
    ∷ reads (line_text atoms_key (48 ∷ 50 ∷ [])) (refusal 25 0)
    ∷ reads (line_text atoms_key (48 ∷ []) ++ line_text clauses_key []) (refusal 25 8)
    ∷ reads (line_text atoms_key (49 ∷ 44 ∷ 50 ∷ [])) (refusal 25 0)
    ∷ reads (start ++ line_text head_key (49 ∷ 44 ∷ [])) (refusal 25 18)
    -- "2 or 3 for the first two lines (here too with the line's place)": 1025; 2049
    ∷ reads (line_text atoms_key (49 ∷ 48 ∷ 50 ∷ 53 ∷ [])) (refusal 2 0)
    ∷ reads (line_text atoms_key (48 ∷ []) ++ line_text clauses_key (50 ∷ 48 ∷ 52 ∷ 57 ∷ [])) (refusal 3 8)
    -- 26 "Do the words so far stay within 8,192 (a clause's counts are counted at its head line)?": 8,190 words, and three counts
    ∷ reads nearly (refusal 26 32076)
    -- "6 .. for each number, also with the line's place": head=2; pos=2,0, where 7 is not met; neg=9, after the lines of 6 and 5 bytes
    ∷ reads (start ++ line_text head_key (50 ∷ [])) (refusal 6 18)
    ∷ reads (start ++ line_text head_key [] ++ line_text pos_key (50 ∷ 44 ∷ 48 ∷ [])) (refusal 6 24)
    ∷ reads (start ++ line_text head_key [] ++ line_text pos_key [] ++ line_text neg_key (57 ∷ [])) (refusal 6 29)
    -- 27 "Is no byte left (place of the first)?": a second line feed, after 18 and 16 bytes; without it, 5 words
    ∷ reads (start ++ line_text head_key [] ++ line_text pos_key [] ++ line_text neg_key [] ++ 10 ∷ []) (refusal 27 34)
    ∷ reads (start ++ line_text head_key [] ++ line_text pos_key [] ++ line_text neg_key []) (value 5)
    -- 28 "Does it fit?": "atoms=0", "clauses=0", with their line feeds 18 bytes
    ∷ row (write_call (0 ∷ 0 ∷ []) 17) (refusal 28 0)
    ∷ row (write_call (0 ∷ 0 ∷ []) 18) (value 18)
    ∷ []

pub refusals : AllSay rows
unfolding satisfies reduct models sublists stable_test left fire reach_from reach consequences excludes removal in_no_head condition atom_headed condition_holds applies effect same passed_over eligible least first_atom first_partner first_target first_step search.reduce ask questions.atoms_from questions.parts_from questions.clause_from questions.clauses_from questions.all_used questions.table_of start_from clauses_of clauses_words encode program_of part entry_at entries_from view find clears clear_part clear_clause clear_from marks_without marks_after marks_after_all clearable_from marks_from sets.set_of sets.test_of steps.shape_questions steps.condition_questions steps.step_questions lists.steps_from lists.check_list words_of reductions.literals reductions.room reductions.steps_of reductions.reduction compaction.marked_answer compaction.reduced_answer between width places digits others commas line_text clause_text clauses_text render reader.then reader.starts reader.run reader.ended reader.span_at reader.next_of reader.scan reader.numbers reader.on_span reader.value_of reader.value_at reader.number_at reader.count_at insert sorted reader.list_of reader.list_at reader.clause_at reader.clauses_at reader.rest_at reader.program_at reader.read_text reader.read_answer writer.text_of writer.write_answer questions.on_walk questions.on_table
refusals = (refl, (refl, (refl, (refl, (refl, (refl, (refl, (refl, (refl, (refl, (refl, (refl, (refl, (refl, (refl, (refl, (refl, (refl, (refl, (refl, (refl, (refl, (refl, (refl, (refl, (refl, (refl, (refl, (refl, (refl, (refl, (refl, (refl, (refl, (refl, (refl, (refl, (refl, (refl, (refl, (refl, (refl, (refl, (refl, (refl, (refl, (refl, (refl, (refl, (refl, (refl, (refl, (refl, (refl, (refl, (refl, (refl, (refl, (refl, (refl, (refl, (refl, (refl, (refl, (refl, (refl, (refl, (refl, (refl, (refl, (refl, (refl, tt))))))))))))))))))))))))))))))))))))))))))))))))))))))))))))))))))))))))
