-- The form of a text, after document 02, slip 5: "A list in text may now be in any order and repeat an atom."
-- The parts of a program are lists of any kind, and `render` writes them as they stand: such a text is the rendering of a program.
use Rattle.std.specs.Prelude.{ℕ, ◌≤◌, ◌≡◌, List, map, length}
use Rattle.std.proofs.Math.Bool.{So}
use Rattle.semantics.specs.Lists.{◌∈◌, ascending}
use Rattle.semantics.specs.Programs.{Clause, Program, program}
use Rattle.sorting.specs.Sorting.{sorted}
use Rattle.table.specs.Encoding.{Within}
use Rattle.text_form.specs.Render.{render}

-- "Reading a list sorts it and keeps each atom once": the three lists of a clause,
abbrev pub sorted_clause : Clause → Clause
sorted_clause c = record { head = sorted c.head; pos = sorted c.pos; neg = sorted c.neg }

-- and all lists of a program
abbrev pub sorted_program : Program → Program
sorted_program P = program P.atoms (map sorted_clause P.clauses)

-- A text has the form, with the lists of P: it is the rendering of P, whose lists are numbers in any order, with repeats; it has at most
-- 65,536 bytes; and P is within the limits once each list is sorted and keeps each atom once.
pub record InForm (ts : List ℕ) (P : Program) : Type 0 where
  pub text : render P ≡ ts
  pub short : length ts ≤ 65536
  pub within : Within (sorted_program P)

pub record AscendingClause (c : Clause) : Type 0 where
  pub head : So (ascending c.head)
  pub pos : So (ascending c.pos)
  pub neg : So (ascending c.neg)

-- "canonical texts, those with every list ascending and no atom repeated"
pub record Canonical (ts : List ℕ) : Type 0 where
  pub lists : Program
  pub form : InForm ts lists
  pub ascends : (c : Clause) → c ∈ lists.clauses → AscendingClause c
