-- A text is read exactly when it has the form, and what is read are its lists, sorted and with each atom once.
use Prim.Native.Nat.{ℕ, zero, suc, ◌+◌, ◌-◌, ◌*◌, ◌≤◌}
use mathlib.Core.Path.{◌≡◌, refl, sym, ap, ap₂, subst, subst₂, ◌∙◌}
use mathlib.Core.List.Memᴰ
use mathlib.Core.List.{List, [], ◌∷◌, ◌++◌, map, append_assoc, append-nil}
use native.Mathlib.Omega.{arith}
use lib.ListN.{length, length-append, length-drop, length-map, drop, drop_of_length-le}
use borrow.Author.Tests.{le-leb, leb-true}
use Rattle.answers.specs.declared.ByteQuestion.TheVariants.{TextAtomLimit, TextClauseLimit}
use Rattle.text_form.specs.Digits.{digits, others, commas}
use Rattle.semantics.specs.Lists.{◌∈◌}
use Rattle.semantics.specs.Programs.{Clause, Program, program}
use Rattle.sorting.specs.Sorting.{sorted}
use Rattle.sorting.proofs.Sorted.{sorted_same}
use Rattle.table.specs.Encoding.{clause_words, clauses_words, encode, OrderedClause, Within}
use Rattle.text_form.specs.Render.{atoms_key, clauses_key, head_key, pos_key, neg_key, line_text, clause_text, clauses_text, render}
use Rattle.text_form.specs.Lists.{sorted_clause, sorted_program, InForm, AscendingClause, Canonical}
use Rattle.text_form.specs.Reader.{done, then, clause_at, clauses_at, rest_at, program_at, read_text}
use Rattle.answers.specs.Answers.{ask}
use Rattle.text_form.proofs.Widths.{width_four, digits_length}
use Rattle.text_form.proofs.Numbers.{FourDigits}
use Rattle.text_form.proofs.Lines.{ordered_small, ask_inv, then_inv, list_of_lem, list_inv, count_of, count_inv}

-- ---- a clause

clause_length : (c : Clause) → length (clause_words c) ≡ 3 + (length c.head + (length c.pos + length c.neg))
clause_length c = rw (length-append c.head (c.pos ++ c.neg), length-append c.pos c.neg) (omega arith)

pub clause_of_lem : (ts r : List ℕ) (n used at : ℕ) (c : Clause) → drop at ts ≡ clause_text c ++ r → n ≤ 1024 → OrderedClause n (sorted_clause c) → used + length (clause_words (sorted_clause c)) ≤ 8192
    → (e : ℕ) × (clause_at ts n used at ≡ done (sorted_clause c) e) × (drop e ts ≡ r)
unfolding clause_text clause_at then
clause_of_lem ts r n used at c h l g u =
    let k = clause_length (sorted_clause c) in
    let H = line_text head_key (commas c.head) in
    let P = line_text pos_key (commas c.pos) in
    let Q = line_text neg_key (commas c.neg) in
    let (e1, a1, d1) = list_of_lem ts head_key c.head (P ++ (Q ++ r)) n (used + 3) at (h ∙ append_assoc H (P ++ Q) r ∙ ap (λ x. H ++ x) (append_assoc P Q r)) l g.head (omega arith) in
    let (e2, a2, d2) = list_of_lem ts pos_key c.pos (Q ++ r) n (used + 3 + length (sorted c.head)) e1 d1 l g.pos (omega arith) in
    let (e3, a3, d3) = list_of_lem ts neg_key c.neg r n (used + 3 + length (sorted c.head) + length (sorted c.pos)) e2 d2 l g.neg (omega arith) in
    (e3, rw (a1, a2, a3), d3)

-- what a clause that is read says: the lists that stand there, which sorted are its
pub record ClauseRead (ts : List ℕ) (n used at : ℕ) (c : Clause) (e : ℕ) : Type 0 where
  pub lists : Clause
  pub kept : sorted_clause lists ≡ c
  pub text : drop at ts ≡ clause_text lists ++ drop e ts
  pub next : e ≤ length ts
  pub ordered : OrderedClause n c
  pub fits : used + length (clause_words c) ≤ 8192

pub clause_inv : (ts : List ℕ) (n used at e : ℕ) (c : Clause) → clause_at ts n used at ≡ done c e → ClauseRead ts n used at c e
unfolding clause_text clause_at
clause_inv ts n used at e c h =
    let (p1, b1, a1, h1) = then_inv _ _ c e h in
    let (p2, b2, a2, h2) = then_inv _ _ c e h1 in
    let (p3, b3, a3, h3) = then_inv _ _ c e h2 in
    let x = list_inv ts head_key p1 n _ at b1 a1 in
    let y = list_inv ts pos_key p2 n _ b1 b2 a2 in
    let z = list_inv ts neg_key p3 n _ b2 b3 a3 in
    let d : Clause = record { head = p1; pos = p2; neg = p3 } in
    let q : d ≡ c = cc in
    let w : b3 ≡ e = cc in
    let H = line_text head_key (commas x.list) in
    let P = line_text pos_key (commas y.list) in
    let Q = line_text neg_key (commas z.list) in
    let read : ClauseRead ts n used at d b3 = record {
      lists = record { head = x.list; pos = y.list; neg = z.list };
      kept = same x.kept y.kept z.kept;
      text = x.text ∙ ap (λ t. H ++ t) (y.text ∙ ap (λ t. P ++ t) z.text ∙ sym (append_assoc P Q (drop b3 ts))) ∙ sym (append_assoc H (P ++ Q) (drop b3 ts));
      next = z.next;
      ordered = record { head = x.ordered; pos = y.ordered; neg = z.ordered };
      fits = omega (arith, clause_length d, z.fits);
    } in
    subst₂ (λ c e. ClauseRead ts n used at c e) q w read
  where
    same : {h h' p p' q q' : List ℕ} → h ≡ h' → p ≡ p' → q ≡ q' → ◌≡◌ {A = Clause} (record { head = h; pos = p; neg = q }) (record { head = h'; pos = p'; neg = q' })
    same a b c = cc

-- ---- clauses

abbrev Each : ℕ → List Clause → Type 0
Each n cs = (d : Clause) → d ∈ cs → OrderedClause n d

each_cons : (n : ℕ) (c : Clause) (cs : List Clause) → OrderedClause n c → Each n cs → Each n (c ∷ cs)
each_cons n c cs g gs d (Memᴰ.head e) = rw e g
each_cons n c cs g gs d (Memᴰ.tail m) = gs d m

pub clauses_of_lem : (ts r : List ℕ) (n used at : ℕ) (cs : List Clause) → drop at ts ≡ clauses_text cs ++ r → n ≤ 1024 → Each n (map sorted_clause cs) → used + length (clauses_words (map sorted_clause cs)) ≤ 8192
    → (e : ℕ) × (clauses_at ts n (length cs) used at ≡ done (map sorted_clause cs) e) × (drop e ts ≡ r)
unfolding clauses_text clauses_words clauses_at then
clauses_of_lem ts r n used at [] h l g u = (at, refl, h)
clauses_of_lem ts r n used at (c ∷ cs) h l g u =
    let d = sorted_clause c in
    let k = length-append (clause_words d) (clauses_words (map sorted_clause cs)) in
    let (e1, a1, d1) = clause_of_lem ts (clauses_text cs ++ r) n used at c (h ∙ append_assoc (clause_text c) (clauses_text cs) r) l (g d (Memᴰ.head refl)) (omega arith) in
    let (e2, a2, d2) = clauses_of_lem ts r n (used + length (clause_words d)) e1 cs d1 l (λ x m. g x (Memᴰ.tail m)) (omega arith) in
    (e2, rw (a1, a2), d2)

-- what clauses that are read say
pub record ClausesRead (ts : List ℕ) (n m used at : ℕ) (cs : List Clause) (e : ℕ) : Type 0 where
  pub lists : List Clause
  pub kept : map sorted_clause lists ≡ cs
  pub text : drop at ts ≡ clauses_text lists ++ drop e ts
  pub ordered : Each n cs
  pub fits : used + length (clauses_words cs) ≤ 8192
  pub count : length cs ≡ m

pub clauses_inv : (ts : List ℕ) (n m used at e : ℕ) (cs : List Clause) → used ≤ 8192 → clauses_at ts n m used at ≡ done cs e → ClausesRead ts n m used at cs e
unfolding clauses_text clauses_words clauses_at
clauses_inv ts n zero used at e cs o h =
    let q : [] ≡ cs = cc in
    let w : at ≡ e = cc in
    let read : ClausesRead ts n 0 used at [] at = record { lists = []; kept = refl; text = refl; ordered = λ d m. absurd (Memᴰ.not-nil m); fits = omega arith; count = refl } in
    subst₂ (λ cs e. ClausesRead ts n 0 used at cs e) q w read
clauses_inv ts n (suc m) used at e cs o h =
    let (c, b1, a1, h1) = then_inv _ _ cs e h in
    let (ds, b2, a2, h2) = then_inv _ _ cs e h1 in
    let x = clause_inv ts n used at b1 c a1 in
    let y = clauses_inv ts n m (used + length (clause_words c)) b1 b2 ds x.fits a2 in
    let q : c ∷ ds ≡ cs = cc in
    let w : b2 ≡ e = cc in
    let read : ClausesRead ts n (suc m) used at (c ∷ ds) b2 = record {
      lists = x.lists ∷ y.lists;
      kept = ap₂ (λ c cs. c ∷ cs) x.kept y.kept;
      text = x.text ∙ ap (λ t. clause_text x.lists ++ t) y.text ∙ sym (append_assoc (clause_text x.lists) (clauses_text y.lists) (drop b2 ts));
      ordered = each_cons n c ds x.ordered y.ordered;
      fits = omega (arith, y.fits, length-append (clause_words c) (clauses_words ds));
      count = ap suc y.count;
    } in
    subst₂ (λ cs e. ClausesRead ts n (suc m) used at cs e) q w read

-- ---- a program's text is short enough

others_short : (xs : List ℕ) → FourDigits xs → length (others xs) ≤ 5 * length xs
unfolding others
others_short [] s = omega arith
others_short (x ∷ xs) s = omega (arith, length-append (digits x) (others xs), digits_length x, width_four x s.0, others_short xs s.1)

commas_short : (xs : List ℕ) → FourDigits xs → length (commas xs) ≤ 5 * length xs
unfolding commas
commas_short [] s = omega arith
commas_short (x ∷ xs) s = omega (arith, length-append (digits x) (others xs), digits_length x, width_four x s.0, others_short xs s.1)

pub line_length : (key v : List ℕ) → length (line_text key v) ≡ length key + length v + 1
unfolding line_text
line_length key v = length-append key (v ++ 10 ∷ []) ∙ omega (arith, length-append v (10 ∷ []))

clause_short : (n : ℕ) (c : Clause) → n ≤ 1024 → OrderedClause n c → length (clause_text c) ≤ 5 * length (clause_words c) + 1
unfolding clause_text
clause_short n c l g =
    let H = line_text head_key (commas c.head) in
    let P = line_text pos_key (commas c.pos) in
    let Q = line_text neg_key (commas c.neg) in
    omega (
      arith,
      clause_length c,
      length-append H (P ++ Q),
      length-append P Q,
      line_length head_key (commas c.head),
      line_length pos_key (commas c.pos),
      line_length neg_key (commas c.neg),
      commas_short c.head (ordered_small n c.head l g.head),
      commas_short c.pos (ordered_small n c.pos l g.pos),
      commas_short c.neg (ordered_small n c.neg l g.neg),
    )

clauses_short : (n : ℕ) (cs : List Clause) → n ≤ 1024 → Each n cs → length (clauses_text cs) ≤ 5 * length (clauses_words cs) + length cs
unfolding clauses_text clauses_words
clauses_short n [] l g = omega arith
clauses_short n (c ∷ cs) l g =
    omega (arith, length-append (clause_text c) (clauses_text cs), length-append (clause_words c) (clauses_words cs), clause_short n c l (g c (Memᴰ.head refl)), clauses_short n cs l (λ d m. g d (Memᴰ.tail m)))

pub render_short : (P : Program) → Within P → length (render P) ≤ 43022
unfolding render encode
render_short P g =
    let A = line_text atoms_key (digits P.atoms) in
    let B = line_text clauses_key (digits (length P.clauses)) in
    omega (
      arith,
      length-append A (B ++ clauses_text P.clauses),
      length-append B (clauses_text P.clauses),
      line_length atoms_key (digits P.atoms),
      line_length clauses_key (digits (length P.clauses)),
      digits_length P.atoms,
      digits_length (length P.clauses),
      width_four P.atoms (omega (arith, g.few_atoms)),
      width_four (length P.clauses) (omega (arith, g.few_clauses)),
      clauses_short P.atoms P.clauses g.few_atoms g.ordered,
      g.few_words,
      g.few_clauses,
    )

-- ---- lists that ascend

clauses_same : (cs : List Clause) → ((c : Clause) → c ∈ cs → AscendingClause c) → map sorted_clause cs ≡ cs
clauses_same [] f = refl
clauses_same (c ∷ cs) f =
    let a = f c (Memᴰ.head refl) in
    rw (sorted_same c.head a.head, sorted_same c.pos a.pos, sorted_same c.neg a.neg) (ap (λ ds. c ∷ ds) (clauses_same cs (λ d m. f d (Memᴰ.tail m))))

-- a program whose lists ascend stays as it is
pub program_same : (P : Program) → ((c : Clause) → c ∈ P.clauses → AscendingClause c) → sorted_program P ≡ P
program_same P f = ap (program P.atoms) (clauses_same P.clauses f)

pub within_ascends : (P : Program) → Within P → (c : Clause) → c ∈ P.clauses → AscendingClause c
within_ascends P g c m = let o = g.ordered c m in record { head = o.head.ascends; pos = o.pos.ascends; neg = o.neg.ascends }

-- the text of a program within the limits has the form, and is canonical
pub render_form : (P : Program) → Within P → InForm (render P) P
render_form P g = record { text = refl; short = omega (arith, render_short P g); within = subst Within (sym (program_same P (within_ascends P g))) g }

pub render_canonical : (P : Program) → Within P → Canonical (render P)
render_canonical P g = record { lists = P; form = render_form P g; ascends = within_ascends P g }

-- ---- a whole text

-- (a) a text of the form is read as its lists sorted
pub read_form : (ts : List ℕ) (P : Program) (room : ℕ) → InForm ts P → 8192 ≤ room → (e : ℕ) × (read_text ts room ≡ done (sorted_program P) e)
unfolding read_text program_at rest_at ask then render encode
read_form ts P room f big =
    let g = f.within in
    let m = length-map P.clauses sorted_clause in
    let A = line_text atoms_key (digits P.atoms) in
    let B = line_text clauses_key (digits (length P.clauses)) in
    let (e1, a1, d1) = count_of ts atoms_key 1024 TextAtomLimit (B ++ clauses_text P.clauses) P.atoms 0 (sym f.text) g.few_atoms (omega arith) in
    let (e2, a2, d2) = count_of ts clauses_key 2048 TextClauseLimit (clauses_text P.clauses) (length P.clauses) e1 d1 (omega (arith, g.few_clauses)) (omega arith) in
    let (e3, a3, d3) = clauses_of_lem ts [] P.atoms 2 e2 P.clauses (d2 ∙ sym (append-nil (clauses_text P.clauses))) g.few_atoms g.ordered (omega (arith, g.few_words)) in
    let k : length ts - e3 ≡ 0 = sym (length-drop e3 ts) ∙ ap length d3 in
    (e3, rw (le-leb (length ts) 65536 f.short, le-leb 8192 room big, a1, a2, a3, le-leb (length ts) e3 (omega arith)))

-- what a text that is read says
pub record TextRead (ts : List ℕ) (P : Program) : Type 0 where
  pub lists : Program
  pub form : InForm ts lists
  pub kept : sorted_program lists ≡ P

-- (b) a text that is read has the form
pub read_inv : (ts : List ℕ) (room : ℕ) (P : Program) (e : ℕ) → read_text ts room ≡ done P e → TextRead ts P
unfolding read_text program_at rest_at render encode
read_inv ts room P e h =
    let (s1, h1) = ask_inv _ _ _ P e h in
    let (s2, h2) = ask_inv _ _ _ P e h1 in
    let (n, b1, a1, h3) = then_inv _ _ P e h2 in
    let (m, b2, a2, h4) = then_inv _ _ P e h3 in
    let (cs, b3, a3, h5) = then_inv _ _ P e h4 in
    let (s3, h6) = ask_inv _ _ _ P e h5 in
    let (t1, x1, l1) = count_inv ts atoms_key 1024 TextAtomLimit n 0 b1 a1 in
    let (t2, x2, l2) = count_inv ts clauses_key 2048 TextClauseLimit m b1 b2 a2 in
    let k = clauses_inv ts n m 2 b2 b3 cs (omega arith) a3 in
    let q : program n cs ≡ P = cc in
    let f : drop b3 ts ≡ [] = drop_of_length-le ts (leb-true (length ts) b3 s3) in
    let c : length k.lists ≡ m = sym (length-map k.lists sorted_clause) ∙ ap length k.kept ∙ k.count in
    let g : Within (program n cs) = record { few_atoms = l1; few_clauses = rw k.count l2; few_words = omega (arith, k.fits); ordered = k.ordered } in
    let A = line_text atoms_key (digits n) in
    let B = line_text clauses_key (digits m) in
    let z : render (program n k.lists) ≡ ts = rw c (sym (t1 ∙ ap (λ x. A ++ x) (t2 ∙ ap (λ x. B ++ x) (k.text ∙ ap (λ x. clauses_text k.lists ++ x) f ∙ append-nil (clauses_text k.lists))))) in
    record {
      lists = program n k.lists;
      form = record { text = z; short = leb-true (length ts) 65536 s1; within = subst (λ ds. Within (program n ds)) (sym k.kept) g };
      kept = ap (program n) k.kept ∙ q;
    }
