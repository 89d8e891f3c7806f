-- The text of a program, line by line, after document 01, "The text and its program".
use Rattle.std.specs.Prelude.{ℕ, List, [], ◌∷◌, ◌++◌, length}
use Rattle.semantics.specs.Programs.{Clause, Program}
use Rattle.text_form.specs.Digits.{digits, commas}

-- "atoms="
abbrev pub atoms_key : List ℕ
atoms_key = 97 ∷ 116 ∷ 111 ∷ 109 ∷ 115 ∷ 61 ∷ []

-- "clauses="
abbrev pub clauses_key : List ℕ
clauses_key = 99 ∷ 108 ∷ 97 ∷ 117 ∷ 115 ∷ 101 ∷ 115 ∷ 61 ∷ []

-- "head="
abbrev pub head_key : List ℕ
head_key = 104 ∷ 101 ∷ 97 ∷ 100 ∷ 61 ∷ []

-- "pos="
abbrev pub pos_key : List ℕ
pos_key = 112 ∷ 111 ∷ 115 ∷ 61 ∷ []

-- "neg="
abbrev pub neg_key : List ℕ
neg_key = 110 ∷ 101 ∷ 103 ∷ 61 ∷ []

-- "Each line ends in a line feed": its key, its value, a line feed
unfoldable pub line_text : List ℕ → List ℕ → List ℕ
line_text key value = key ++ (value ++ 10 ∷ [])

-- "then head=, pos=, neg= for each clause"; their values are "numbers joined by commas, or nothing"
unfoldable pub clause_text : Clause → List ℕ
clause_text c = line_text head_key (commas c.head) ++ (line_text pos_key (commas c.pos) ++ line_text neg_key (commas c.neg))

unfoldable pub clauses_text : List Clause → List ℕ
clauses_text [] = []
clauses_text (c ∷ cs) = clause_text c ++ clauses_text cs

-- "Lines in fixed order: atoms=, clauses=, then head=, pos=, neg= for each clause." "The first two values are one number"
unfoldable pub render : Program → List ℕ
render P = line_text atoms_key (digits P.atoms) ++ (line_text clauses_key (digits (length P.clauses)) ++ clauses_text P.clauses)
