-- "every output keeps its bytes", of texts: how many digits a number has was found otherwise before slip 4, and every text is what it was. The texts are written here with
-- another way `d` of writing numbers; one that agrees with `digits` up to 65,536, the largest number that is written, gives the same bytes.
use Prim.Native.Nat.{ℕ, ◌≤◌}
use mathlib.Core.Path.{◌≡◌, refl, ap}
use mathlib.Core.List.Memᴰ
use mathlib.Core.List.{List, [], ◌∷◌, ◌++◌}
use mathlib.Core.Bool.{cond}
use native.Mathlib.Omega.{arith}
use lib.ListN.{length}
use lib.Dec.{ltb}
use borrow.Author.Tests.{le-ltb, lt-ltb}
use Rattle.semantics.specs.Lists.{◌∈◌}
use Rattle.semantics.specs.Programs.{Clause, Program}
use Rattle.table.specs.Questions.{Passed}
use Rattle.table.specs.Programs.{program_of}
use Rattle.table.specs.Encoding.{Ordered, OrderedClause, Within}
use Rattle.table.proofs.Encoding.{passed_within}
use Rattle.text_form.specs.Digits.{width, places, digits, others, commas}
use Rattle.text_form.specs.Numerals.{Numeral}
use Rattle.text_form.specs.Render.{atoms_key, clauses_key, head_key, pos_key, neg_key, line_text, clause_text, clauses_text, render}
use Rattle.text_form.specs.Writer.{text_of}
use Rattle.text_form.proofs.Widths.{width_by, numeral_digits}
use Rattle.text_form.proofs.Numbers.{UpTo, FourDigits}
use Rattle.text_form.proofs.Lines.{ordered_small}

-- ---- how numbers were written

-- the number of digits, as it was
abbrev pub width_before : ℕ → ℕ
width_before v = cond (ltb v 10) 1 (cond (ltb v 100) 2 (cond (ltb v 1000) 3 (cond (ltb v 10000) 4 5)))

abbrev pub digits_before : ℕ → List ℕ
digits_before v = places v (width_before v)

width_before_lem : (v : ℕ) → v ≤ 65536 → width_before v ≡ width v
width_before_lem v = width_by (λ k. width_before v ≡ k) v
    (λ a. rw (lt-ltb v 10 (omega arith)))
    (λ a b. rw (le-ltb v 10 a, lt-ltb v 100 (omega arith)))
    (λ a b. rw (le-ltb v 10 (omega arith), le-ltb v 100 a, lt-ltb v 1000 (omega arith)))
    (λ a b. rw (le-ltb v 10 (omega arith), le-ltb v 100 (omega arith), le-ltb v 1000 a, lt-ltb v 10000 (omega arith)))
    (λ a b. rw (le-ltb v 10 (omega arith), le-ltb v 100 (omega arith), le-ltb v 1000 (omega arith), le-ltb v 10000 a))

-- A way of writing numbers that agrees with `digits` on those that are written.
abbrev pub Agrees : (ℕ → List ℕ) → Type 0
Agrees d = (v : ℕ) → v ≤ 65536 → d v ≡ digits v

pub digits_before_lem : Agrees digits_before
unfolding digits
digits_before_lem v l = ap (places v) (width_before_lem v l)

-- Every way that writes numerals agrees.
pub numerals_agree : (d : ℕ → List ℕ) → ((v : ℕ) → v ≤ 65536 → Numeral (d v) v) → Agrees d
numerals_agree d h v l = numeral_digits (d v) v l (h v l)

-- ---- texts by any way of writing numbers

module _ (d : ℕ → List ℕ) where
  abbrev pub others_by : List ℕ → List ℕ
  others_by [] = []
  others_by (x ∷ xs) = 44 ∷ d x ++ others_by xs

  abbrev pub commas_by : List ℕ → List ℕ
  commas_by [] = []
  commas_by (x ∷ xs) = d x ++ others_by xs

  abbrev clause_by : Clause → List ℕ
  clause_by c = line_text head_key (commas_by c.head) ++ (line_text pos_key (commas_by c.pos) ++ line_text neg_key (commas_by c.neg))

  abbrev clauses_by : List Clause → List ℕ
  clauses_by [] = []
  clauses_by (c ∷ cs) = clause_by c ++ clauses_by cs

  abbrev pub render_by : Program → List ℕ
  render_by P = line_text atoms_key (d P.atoms) ++ (line_text clauses_key (d (length P.clauses)) ++ clauses_by P.clauses)

-- numbers that are written
abbrev pub Writable : List ℕ → Type 0
Writable xs = UpTo 65536 xs

four_writable : (xs : List ℕ) → FourDigits xs → Writable xs
four_writable [] s = tt
four_writable (x ∷ xs) s = (omega (arith, s.0), four_writable xs s.1)

module _ (d : ℕ → List ℕ) (same : Agrees d) where
  others_by_lem : (xs : List ℕ) → Writable xs → others_by d xs ≡ others xs
  unfolding others
  others_by_lem [] s = refl
  others_by_lem (x ∷ xs) s = rw (same x s.0, others_by_lem xs s.1)

  pub commas_by_lem : (xs : List ℕ) → Writable xs → commas_by d xs ≡ commas xs
  unfolding commas
  commas_by_lem [] s = refl
  commas_by_lem (x ∷ xs) s = rw (same x s.0, others_by_lem xs s.1)

  part_by : (n : ℕ) (xs : List ℕ) → n ≤ 1024 → Ordered n xs → commas_by d xs ≡ commas xs
  part_by n xs l o = commas_by_lem xs (four_writable xs (ordered_small n xs l o))

  clause_by_lem : (n : ℕ) (c : Clause) → n ≤ 1024 → OrderedClause n c → clause_by d c ≡ clause_text c
  unfolding clause_text
  clause_by_lem n c l g = rw (part_by n c.head l g.head, part_by n c.pos l g.pos, part_by n c.neg l g.neg)

  clauses_by_lem : (n : ℕ) (cs : List Clause) → n ≤ 1024 → ((c : Clause) → c ∈ cs → OrderedClause n c) → clauses_by d cs ≡ clauses_text cs
  unfolding clauses_text
  clauses_by_lem n [] l g = refl
  clauses_by_lem n (c ∷ cs) l g = rw (clause_by_lem n c l (g c (Memᴰ.head refl)), clauses_by_lem n cs l (λ e m. g e (Memᴰ.tail m)))

  pub render_by_lem : (P : Program) → Within P → render_by d P ≡ render P
  unfolding render
  render_by_lem P g = rw (same P.atoms (omega (arith, g.few_atoms)), same (length P.clauses) (omega (arith, g.few_clauses)), clauses_by_lem P.atoms P.clauses g.few_atoms g.ordered)

  -- The text of a table is the same.
  pub text_by : (ws : List ℕ) → Passed ws → render_by d (program_of ws) ≡ text_of ws
  unfolding text_of
  text_by ws p = render_by_lem (program_of ws) (passed_within ws p)
