-- The state of a program, in short words.
use Rattle.std.specs.Prelude.{List, ℕ}
use Rattle.rewriting.specs.Kinds.{Kind}
use Rattle.step_parts.specs.declared.marked.Indexed.{Indexed}
use Rattle.step_parts.specs.declared.marked.Marked.{Marked}
use Rattle.step_parts.specs.Reading.{words_of, marks_of}
use Rattle.search_spreads.specs.declared.Facts.{Facts}
use Rattle.search_keys.specs.State.{State, Prepared}

-- of a table with these marks
abbrev pub StateAt : Indexed → List ℕ → List ℕ → List ℕ → List ℕ → Type 0
StateAt t ms hs rs flags = State t.words.now ms t.index.now hs rs flags

-- of a marked program
abbrev pub StateOf : Marked → List ℕ → List ℕ → List ℕ → Type 0
StateOf p hs rs flags = StateAt p.table (marks_of p) hs rs flags

-- of a program with what is known of it
abbrev pub StateWith : Facts → List ℕ → Type 0
StateWith f flags = StateOf f.program.now f.heads.now f.reach.now flags

-- the search of a kind can begin
abbrev pub PreparedOf : Marked → List ℕ → List ℕ → List ℕ → Kind → Type 0
PreparedOf p hs rs flags kind = Prepared (words_of p) (marks_of p) p.table.index.now hs rs flags kind
