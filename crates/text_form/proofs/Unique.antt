-- A text of the form has one program's lists: no two programs are rendered as the same text.
use Prim.Native.Nat.{ℕ, ◌≤◌}
use mathlib.Core.Path.{◌≡◌, refl, sym, ap, ap₂, ◌∙◌}
use mathlib.Core.List.Memᴰ
use mathlib.Core.List.{List, [], ◌∷◌, ◌++◌, map, append_assoc}
use native.Mathlib.Omega.{arith}
use lib.ListN.{length, length-map}
use Rattle.semantics.specs.Lists.{◌∈◌}
use Rattle.semantics.specs.Programs.{Clause, Program, program}
use Rattle.table.specs.Encoding.{OrderedClause}
use Rattle.text_form.specs.Digits.{digits, commas}
use Rattle.text_form.specs.Render.{atoms_key, clauses_key, head_key, pos_key, neg_key, line_text, clause_text, clauses_text, render}
use Rattle.text_form.specs.Lists.{sorted_clause, InForm}
use Rattle.text_form.proofs.Numbers.{FourDigits}
use Rattle.text_form.proofs.Lines.{value_of_lem, sorted_small, commas_one}

-- a line's numbers are those that it is read as, and what follows it is what is left
list_unique : (key xs ys r s : List ℕ) → FourDigits xs → FourDigits ys → line_text key (commas xs) ++ r ≡ line_text key (commas ys) ++ s → (xs ≡ ys) × (r ≡ s)
list_unique key xs ys r s f g h =
    let (e, a, b) = value_of_lem (line_text key (commas xs) ++ r) key xs r 0 refl f in
    let (d, p, q) = value_of_lem (line_text key (commas xs) ++ r) key ys s 0 h g in
    let m : e ≡ d = cc in
    (cc, rw m at (sym b) ∙ q)

number_unique : (key : List ℕ) (x y : ℕ) (r s : List ℕ) → x ≤ 9999 → y ≤ 9999 → line_text key (digits x) ++ r ≡ line_text key (digits y) ++ s → (x ≡ y) × (r ≡ s)
number_unique key x y r s f g h =
    let (e, q) = list_unique key (x ∷ []) (y ∷ []) r s (f, tt) (g, tt) (ap (λ t. line_text key t ++ r) (commas_one x) ∙ h ∙ ap (λ t. line_text key t ++ s) (sym (commas_one y))) in
    (cc, q)

lines_of : (c : Clause) (r : List ℕ) → clause_text c ++ r ≡ line_text head_key (commas c.head) ++ (line_text pos_key (commas c.pos) ++ (line_text neg_key (commas c.neg) ++ r))
unfolding clause_text
lines_of c r =
    let P = line_text pos_key (commas c.pos) in
    let Q = line_text neg_key (commas c.neg) in
    append_assoc (line_text head_key (commas c.head)) (P ++ Q) r ∙ ap (λ x. line_text head_key (commas c.head) ++ x) (append_assoc P Q r)

module _ (n : ℕ) (few : n ≤ 1024) where
  clause_unique : (c d : Clause) (r s : List ℕ) → OrderedClause n (sorted_clause c) → OrderedClause n (sorted_clause d) → clause_text c ++ r ≡ clause_text d ++ s → (c ≡ d) × (r ≡ s)
  clause_unique c d r s o p h =
      let (a, i) = list_unique head_key c.head d.head _ _ (sorted_small n _ few o.head) (sorted_small n _ few p.head) (sym (lines_of c r) ∙ h ∙ lines_of d s) in
      let (b, j) = list_unique pos_key c.pos d.pos _ _ (sorted_small n _ few o.pos) (sorted_small n _ few p.pos) i in
      let (e, k) = list_unique neg_key c.neg d.neg _ _ (sorted_small n _ few o.neg) (sorted_small n _ few p.neg) j in
      (same a b e, k)
    where
      same : {h h' p p' q q' : List ℕ} → h ≡ h' → p ≡ p' → q ≡ q' → ◌≡◌ {A = Clause} (record { head = h; pos = p; neg = q }) (record { head = h'; pos = p'; neg = q' })
      same a b c = cc

  clauses_unique : (cs ds : List Clause) → length cs ≡ length ds → ((c : Clause) → c ∈ map sorted_clause cs → OrderedClause n c) → ((d : Clause) → d ∈ map sorted_clause ds → OrderedClause n d)
      → clauses_text cs ≡ clauses_text ds → cs ≡ ds
  unfolding clauses_text
  clauses_unique [] [] k o p h = refl
  clauses_unique [] (d ∷ ds) k o p h = absurd (omega arith)
  clauses_unique (c ∷ cs) [] k o p h = absurd (omega arith)
  clauses_unique (c ∷ cs) (d ∷ ds) k o p h =
      let (a, i) = clause_unique c d (clauses_text cs) (clauses_text ds) (o (sorted_clause c) (Memᴰ.head refl)) (p (sorted_clause d) (Memᴰ.head refl)) h in
      ap₂ (λ c cs. c ∷ cs) a (clauses_unique cs ds (omega arith) (λ x m. o x (Memᴰ.tail m)) (λ x m. p x (Memᴰ.tail m)) i)

-- the lists of a text
pub lists_unique : (ts : List ℕ) (P Q : Program) → InForm ts P → InForm ts Q → P ≡ Q
unfolding render
lists_unique ts P Q f g =
    let m = length-map P.clauses sorted_clause in
    let k = length-map Q.clauses sorted_clause in
    let (a, i) = number_unique atoms_key P.atoms Q.atoms _ _ (omega (arith, f.within.few_atoms)) (omega (arith, g.within.few_atoms)) (f.text ∙ sym g.text) in
    let (b, j) = number_unique clauses_key (length P.clauses) (length Q.clauses) _ _ (omega (arith, f.within.few_clauses)) (omega (arith, g.within.few_clauses)) i in
    let c = clauses_unique P.atoms f.within.few_atoms P.clauses Q.clauses b f.within.ordered (rw a g.within.ordered) j in
    ap₂ program a c
