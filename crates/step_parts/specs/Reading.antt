-- What is read of a table with its index, and of one with its marks: short words for contracts.
use Rattle.std.specs.Prelude.{Bool, List, ℕ, ◌<◌, ◌≡◌, Option, get_or}
use Rattle.std.specs.Option.{MatchOption}
use Rattle.semantics.specs.Programs.{Clause}
use Rattle.rewriting.specs.Marked.{Entry, entry}
use Rattle.table.specs.View.{view}
use Rattle.step_parts.specs.declared.marked.Indexed.{Indexed}
use Rattle.step_parts.specs.declared.marked.Marked.{Marked}
use Rattle.step_parts.specs.declared.places.Places.{Places}
use Rattle.step_parts.specs.Parts.{Latest}

-- the table's first word: how many atoms there are
abbrev pub atom_count : Indexed → ℕ
atom_count t = get_or t.words.now 0 0

-- the second: how many clauses
abbrev pub clause_count : Indexed → ℕ
clause_count t = get_or t.words.now 1 0

abbrev pub words_of : Marked → List ℕ
words_of p = p.table.words.now

abbrev pub marks_of : Marked → List ℕ
marks_of p = p.marks.now

-- the marked program
abbrev pub program_of : Marked → List Entry
program_of p = view p.table.words.now p.marks.now

-- clause t with those of its atoms that are kept
abbrev pub clause_of : Marked → ℕ → Clause
clause_of p t = (entry (program_of p) t).clause

-- whether clause t is kept
abbrev pub is_kept : Marked → ℕ → Bool
is_kept p t = (entry (program_of p) t).kept

-- one step of a walk along places: it gives the place where the walk is, and goes to the last one before it
pub record Gone (s : Places) (i : ℕ) (next : Places) : Type 0 where
  pub here : i ≡ s.at
  pub there : 0 < i
  pub same : (next.table ≡ s.table) × (next.part ≡ s.part) × (next.atom ≡ s.atom)
  pub before : Latest s.table.words.now s.table.index.now s.part s.atom i next.at

abbrev pub PlaceBefore : Places → Option ℕ → Places → Type 0
PlaceBefore s r next = MatchOption r (s.at ≡ 0) (λ i. Gone s i next)
