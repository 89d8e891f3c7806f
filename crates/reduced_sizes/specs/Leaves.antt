-- The program that the marks leave, and the reduced table.
use Rattle.std.specs.Prelude.{List, ℕ, get_or}
use Rattle.semantics.specs.Programs.{Program, program}
use Rattle.rewriting.specs.Marked.{left}
use Rattle.table.specs.Encoding.{encode}
use Rattle.table.specs.View.{view}

-- "The program as marks leave it has the same n and the kept clauses, each with those of its atoms whose mark is 1."
abbrev pub left_program : List ℕ → List ℕ → Program
left_program ws ms = program (get_or ws 0 0) (left (view ws ms))

-- "The reduced table holds the kept clauses in order, same n, renumbered from 0, kept literals only."
abbrev pub reduced : List ℕ → List ℕ → List ℕ
reduced ws ms = encode (left_program ws ms)
