-- Steps that have to be open. That no step loses a stable model says nothing of a condition that is too strict; so here are lists that the reducer has to write, whole,
-- each worked out by hand: at each step the kinds in order, then targets, partners and atoms, on the clauses as left.
use mathlib.Core.Path.{refl}
use mathlib.Core.List.{List, [], ◌∷◌}
use Rattle.semantics.specs.Lists.{same}
use Rattle.rewriting.specs.Marked.{left}
use Rattle.rewriting.specs.Reaches.{fire, reach_from, reach}
use Rattle.rewriting.specs.Consequences.{consequences}
use Rattle.rewriting.specs.Exclusion.{excludes, removal}
use Rattle.rewriting.specs.Steps.{in_no_head, condition, condition_holds, applies, effect}
use Rattle.rewriting.specs.Reducer.{passed_over, eligible}
use Rattle.rewriting.specs.Search.{least, first_atom, first_partner, first_target, first_step, reduce}
use Rattle.answers.specs.Answers.{ask}
use Rattle.table.specs.StepWords.{words_of}
use Rattle.table.specs.Questions as questions
use Rattle.table.specs.Places.{start_from}
use Rattle.table.specs.Programs.{clauses_of, program_of}
use Rattle.table.specs.View.{part, entry_at, entries_from, view}
use Rattle.table.specs.Clearing.{clear_part, clear_clause, clear_from, marks_without}
use Rattle.table.specs.Effects.{find, clears, marks_after, marks_after_all}
use Rattle.reducer_results.specs.Reductions as reductions
use Rattle.claims.proofs.Said.{Example, writes, AllSay}

abbrev pub rows : List Example
rows =
    -- 0. 1 <- ~0. 2 <- 1. 1 <- 2.: clause 1 is blocked by the fact 0; then the reach is 0 alone, since 2 <- 1. and 1 <- 2. hold each other up, so that 2 <- 1. goes by a
    -- loop although 1 is in a head; then 2 is in no head
    writes (3 ∷ 4 ∷ 1 ∷ 0 ∷ 0 ∷ 0 ∷ 1 ∷ 0 ∷ 1 ∷ 1 ∷ 0 ∷ 1 ∷ 1 ∷ 0 ∷ 2 ∷ 1 ∷ 1 ∷ 1 ∷ 0 ∷ 1 ∷ 2 ∷ []) (5 ∷ 1 ∷ 0 ∷ 0 ∷ 7 ∷ 2 ∷ 0 ∷ 1 ∷ 6 ∷ 3 ∷ 0 ∷ 2 ∷ [])
    -- 0|1. <- 0. <- 0, 1.: no fact has one head atom, both atoms are in a head and in the reach, so of kinds 1 to 8 nothing but 8 is open, clause 2 by clause 1; then 9: 0 can't be, and 1 is
    -- a fact
    ∷ writes (2 ∷ 3 ∷ 2 ∷ 0 ∷ 0 ∷ 0 ∷ 1 ∷ 0 ∷ 1 ∷ 0 ∷ 0 ∷ 0 ∷ 2 ∷ 0 ∷ 0 ∷ 1 ∷ []) (8 ∷ 2 ∷ 1 ∷ 0 ∷ 9 ∷ 1 ∷ 0 ∷ 0 ∷ [])
    -- 0. 1 <- 0. 2 <- ~1.: clause 1 becomes a fact by the first step, and then blocks clause 2
    ∷ writes (3 ∷ 3 ∷ 1 ∷ 0 ∷ 0 ∷ 0 ∷ 1 ∷ 1 ∷ 0 ∷ 1 ∷ 0 ∷ 1 ∷ 0 ∷ 1 ∷ 2 ∷ 1 ∷ []) (3 ∷ 1 ∷ 0 ∷ 0 ∷ 5 ∷ 2 ∷ 1 ∷ 0 ∷ [])
    -- 1 <- 0. 0. 0.: of the two facts 0 the first is the partner; 3 comes before 8, which then takes clause 2 by clause 1, since of equal clauses the earlier stays
    ∷ writes (2 ∷ 3 ∷ 1 ∷ 1 ∷ 0 ∷ 1 ∷ 0 ∷ 1 ∷ 0 ∷ 0 ∷ 0 ∷ 1 ∷ 0 ∷ 0 ∷ 0 ∷ []) (3 ∷ 0 ∷ 1 ∷ 0 ∷ 8 ∷ 2 ∷ 1 ∷ 0 ∷ [])
    -- 0 <- 1, 2.: both body atoms are in no head, and 1 is the smaller; 7 is not open, since an atom in no head makes a failure
    ∷ writes (3 ∷ 1 ∷ 1 ∷ 2 ∷ 0 ∷ 0 ∷ 1 ∷ 2 ∷ []) (6 ∷ 0 ∷ 0 ∷ 1 ∷ [])
    -- 0|1. 2 <- ~0, ~1.: a disjunctive fact blocks where all of its head atoms are negative there
    ∷ writes (3 ∷ 2 ∷ 2 ∷ 0 ∷ 0 ∷ 0 ∷ 1 ∷ 1 ∷ 0 ∷ 2 ∷ 2 ∷ 0 ∷ 1 ∷ []) (5 ∷ 1 ∷ 0 ∷ 0 ∷ [])
    -- the empty clause, then 0 <- ~0.: a fact whose head atoms, none, are all in any negative body
    ∷ writes (1 ∷ 2 ∷ 0 ∷ 0 ∷ 0 ∷ 1 ∷ 0 ∷ 1 ∷ 0 ∷ 0 ∷ []) (5 ∷ 1 ∷ 0 ∷ 0 ∷ [])
    -- document 01's sample, 0. 1 <- 0, ~2. 3 <- 3. 2 <- 3.: "step=1,2,0,3 step=3,1,0,0 step=6,3,0,3 step=4,1,0,2"
    ∷ writes (4 ∷ 4 ∷ 1 ∷ 0 ∷ 0 ∷ 0 ∷ 1 ∷ 1 ∷ 1 ∷ 1 ∷ 0 ∷ 2 ∷ 1 ∷ 1 ∷ 0 ∷ 3 ∷ 3 ∷ 1 ∷ 1 ∷ 0 ∷ 2 ∷ 3 ∷ []) (1 ∷ 2 ∷ 0 ∷ 3 ∷ 3 ∷ 1 ∷ 0 ∷ 0 ∷ 6 ∷ 3 ∷ 0 ∷ 3 ∷ 4 ∷ 1 ∷ 0 ∷ 2 ∷ [])
    ∷ []

pub open_steps : AllSay rows
unfolding left fire reach_from reach consequences excludes removal in_no_head condition condition_holds applies effect same passed_over eligible least first_atom first_partner first_target first_step reduce ask questions.atoms_from questions.parts_from questions.clause_from questions.clauses_from questions.all_used questions.table_of start_from clauses_of program_of part entry_at entries_from view find clears clear_part clear_clause clear_from marks_without marks_after marks_after_all words_of reductions.literals reductions.room reductions.steps_of reductions.reduction questions.on_walk questions.on_table
open_steps = ((refl, refl), ((refl, refl), ((refl, refl), ((refl, refl), ((refl, refl), ((refl, refl), ((refl, refl), ((refl, refl), tt))))))))
