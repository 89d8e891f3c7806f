-- The examples that document 01 marks with †, as one table, computed from the definitions that the calls' contracts cite.
use mathlib.Core.Path.{refl}
use mathlib.Core.List.{List, [], ◌∷◌}
use lib.ListN.{replicate}
use Rattle.semantics.specs.Programs.{satisfies, reduct, models}
use Rattle.semantics.specs.Lists.{same}
use Rattle.semantics.specs.Decide.{sublists, stable_test}
use Rattle.rewriting.specs.Marked.{left}
use Rattle.rewriting.specs.Reaches.{fire, reach_from, reach}
use Rattle.rewriting.specs.Consequences.{consequences}
use Rattle.rewriting.specs.Exclusion.{excludes, removal}
use Rattle.rewriting.specs.Steps.{in_no_head, condition, atom_headed, condition_holds, applies, effect}
use Rattle.rewriting.specs.Reducer.{passed_over, eligible}
use Rattle.rewriting.specs.Search.{least, first_atom, first_partner, first_target, first_step, reduce}
use Rattle.answers.specs.Answers.{ask}
use Rattle.table.specs.StepWords.{words_of}
use Rattle.table.specs.Questions as questions
use Rattle.table.specs.Places.{start_from}
use Rattle.table.specs.Programs.{clauses_of, program_of}
use Rattle.table.specs.View.{part, entry_at, entries_from, view}
use Rattle.table.specs.Clearing.{clear_part, clear_clause, clear_from, marks_without}
use Rattle.table.specs.Effects.{find, clears, marks_after, marks_after_all}
use Rattle.models_test.specs.Answer as sets
use Rattle.dependency.specs.Decide.{turned, leads, cyclic}
use Rattle.cycle.specs.Answer as cycles
use Rattle.step_lists.specs.Lists as lists
use Rattle.step_questions.specs.Questions as steps
use Rattle.reducer_results.specs.Reductions as reductions
use Rattle.claims.proofs.Said as said
use Rattle.claims.proofs.Said.{Example, row, writes, value, refusal, AllSay}

abbrev pub rows : List Example
rows =
    -- words 0 0: the empty set is stable; words 0 1 0 0 0: it isn't
    row (said.test_call (0 ∷ 0 ∷ []) []) (value 1)
    ∷ row (said.test_call (0 ∷ 1 ∷ 0 ∷ 0 ∷ 0 ∷ []) []) (value 0)
    -- 0|1. 0 <- 1. 1 <- 0.: set 0,1 stable, set 0 not
    ∷ row (said.test_call (2 ∷ 3 ∷ 2 ∷ 0 ∷ 0 ∷ 0 ∷ 1 ∷ 1 ∷ 1 ∷ 0 ∷ 0 ∷ 1 ∷ 1 ∷ 1 ∷ 0 ∷ 1 ∷ 0 ∷ []) (0 ∷ 1 ∷ [])) (value 1)
    ∷ row (said.test_call (2 ∷ 3 ∷ 2 ∷ 0 ∷ 0 ∷ 0 ∷ 1 ∷ 1 ∷ 1 ∷ 0 ∷ 0 ∷ 1 ∷ 1 ∷ 1 ∷ 0 ∷ 1 ∷ 0 ∷ []) (0 ∷ [])) (value 0)
    -- 0 <- 1. 0 <- ~1. 1 <- 0.: 0,1 not stable
    ∷ row (said.test_call (2 ∷ 3 ∷ 1 ∷ 1 ∷ 0 ∷ 0 ∷ 1 ∷ 1 ∷ 0 ∷ 1 ∷ 0 ∷ 1 ∷ 1 ∷ 1 ∷ 0 ∷ 1 ∷ 0 ∷ []) (0 ∷ 1 ∷ [])) (value 0)
    -- adding an atom true "in both cases", here 0., would make it so
    ∷ row (said.test_call (2 ∷ 4 ∷ 1 ∷ 1 ∷ 0 ∷ 0 ∷ 1 ∷ 1 ∷ 0 ∷ 1 ∷ 0 ∷ 1 ∷ 1 ∷ 1 ∷ 0 ∷ 1 ∷ 0 ∷ 1 ∷ 0 ∷ 0 ∷ 0 ∷ []) (0 ∷ 1 ∷ [])) (value 1)
    -- 0 <- ~1. 1 <- ~0.: set 0 stable, 0,1 not; "cycle yes" in document 01, which slip 2 of document 02 "changes from yes to no"
    ∷ row (said.test_call (2 ∷ 2 ∷ 1 ∷ 0 ∷ 1 ∷ 0 ∷ 1 ∷ 1 ∷ 0 ∷ 1 ∷ 1 ∷ 0 ∷ []) (0 ∷ [])) (value 1)
    ∷ row (said.test_call (2 ∷ 2 ∷ 1 ∷ 0 ∷ 1 ∷ 0 ∷ 1 ∷ 1 ∷ 0 ∷ 1 ∷ 1 ∷ 0 ∷ []) (0 ∷ 1 ∷ [])) (value 0)
    ∷ row (said.cycle_call (2 ∷ 2 ∷ 1 ∷ 0 ∷ 1 ∷ 0 ∷ 1 ∷ 1 ∷ 0 ∷ 1 ∷ 1 ∷ 0 ∷ [])) (value 0)
    -- 0 <- 1. 1 <- 0.: the reducer writes 7,0,0,1 then 6,1,0,0
    ∷ writes (2 ∷ 2 ∷ 1 ∷ 1 ∷ 0 ∷ 0 ∷ 1 ∷ 1 ∷ 1 ∷ 0 ∷ 1 ∷ 0 ∷ []) (7 ∷ 0 ∷ 0 ∷ 1 ∷ 6 ∷ 1 ∷ 0 ∷ 0 ∷ [])
    -- 0 <- 1. alone: "7,0,0,1 is accepted" in document 01, which slip 6 of document 02 refuses by 32; the reducer writes 6,0,0,1
    ∷ row (said.check_call (2 ∷ 1 ∷ 1 ∷ 1 ∷ 0 ∷ 0 ∷ 1 ∷ []) (replicate 7 0) (7 ∷ 0 ∷ 0 ∷ 1 ∷ [])) (refusal 32 0)
    ∷ writes (2 ∷ 1 ∷ 1 ∷ 1 ∷ 0 ∷ 0 ∷ 1 ∷ []) (6 ∷ 0 ∷ 0 ∷ 1 ∷ [])
    -- 0. alone: 8,0,0,0 is refused 14 at step 0, as no clause subsumes itself
    ∷ row (said.check_call (2 ∷ 1 ∷ 1 ∷ 0 ∷ 0 ∷ 0 ∷ []) (replicate 6 0) (8 ∷ 0 ∷ 0 ∷ 0 ∷ [])) (refusal 14 0)
    -- the empty clause alone: 5,0,0,0 likewise
    ∷ row (said.check_call (2 ∷ 1 ∷ 0 ∷ 0 ∷ 0 ∷ []) (replicate 5 0) (5 ∷ 0 ∷ 0 ∷ 0 ∷ [])) (refusal 14 0)
    -- 0. 0.: "the reducer writes 8,0,1,0" in document 01; slip 7 of document 02: "The example 0. 0. gives 8,1,0,0."
    ∷ writes (2 ∷ 2 ∷ 1 ∷ 0 ∷ 0 ∷ 0 ∷ 1 ∷ 0 ∷ 0 ∷ 0 ∷ []) (8 ∷ 1 ∷ 0 ∷ 0 ∷ [])
    -- 0 <- ~0.: no step
    ∷ writes (2 ∷ 1 ∷ 1 ∷ 0 ∷ 1 ∷ 0 ∷ 0 ∷ []) []
    ∷ []

pub examples : AllSay rows
unfolding satisfies reduct models sublists stable_test left fire reach_from reach consequences excludes removal in_no_head condition atom_headed condition_holds applies effect same passed_over eligible least first_atom first_partner first_target first_step reduce ask questions.atoms_from questions.parts_from questions.clause_from questions.clauses_from questions.all_used questions.table_of start_from clauses_of program_of part entry_at entries_from view find clears clear_part clear_clause clear_from marks_without marks_after sets.set_of sets.test_of turned leads cyclic cycles.cycle_of steps.shape_questions steps.condition_questions steps.step_questions lists.steps_from lists.check_list words_of reductions.literals reductions.room reductions.steps_of reductions.reduction marks_after_all questions.on_walk questions.on_table
examples = (refl, (refl, (refl, (refl, (refl, (refl, (refl, (refl, (refl, ((refl, refl), (refl, ((refl, refl), (refl, (refl, ((refl, refl), ((refl, refl), tt))))))))))))))))
