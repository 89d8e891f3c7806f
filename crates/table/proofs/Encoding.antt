-- A table passes questions 1 to 8 exactly when it is the words of a program within the limits, which is then the table's program.
use Prim.Native.Nat.{ℕ, zero, suc, ◌+◌, ◌-◌, ◌≤◌}
use mathlib.Core.Path.{◌≡◌, refl, sym, ap, subst, ◌∙◌}
use mathlib.Core.Logic.{◌↔◌}
use mathlib.Core.List.Memᴰ
use mathlib.Core.List.{List, [], ◌∷◌, ◌++◌, append_assoc, append-nil}
use native.Mathlib.Omega.{arith}
use native.Mathlib.Numerals.{add-one, add-two, add-three}
use native.Mathlib.Nat.{add-zero}
use lib.ListN.{length, length-append, length-drop, get_or, drop, drop_of_length-le, take-append-drop}
use lib.Seq.{drop-drop, drop-cons, length-take-le}
use lib.Dec.{leb}
use borrow.Author.Tests.{le-leb, leb-true}
use Rattle.semantics.specs.Lists.{◌∈◌}
use Rattle.semantics.specs.Programs.{Clause, Program, program}
use Rattle.semantics.proofs.Tests.{and_iff}
use Rattle.table.specs.Questions.{Walk}
use Rattle.std.specs.Prelude.{Ok, Err}
use Rattle.table.specs.declared.Table.{Table}
use Rattle.table.specs.Questions.{on_walk, part_from, parts_from, clause_from, clauses_from, all_used, table_numbers, table_of, Passed}
use Rattle.answers.specs.Answers.{ask}
use Rattle.table.specs.Encoding.{clause_words, clauses_words, encode, OrderedClause, Within}
use Rattle.table.specs.Places.{cut, next_at}
use Rattle.table.specs.Programs.{clause_of, clauses_of, program_of}
use Rattle.answers.specs.declared.WordQuestion.TheVariants.{AtomBelow, Ascending}
use Rattle.answers.specs.declared.Refusal.TheVariants.{Word}
use Rattle.table.proofs.Laws.{ask_inv, ask_table_inv}
use Rattle.table.proofs.Rising.{rising_iff, atoms_of, atoms_inv}
use Rattle.table.proofs.Stands.{stands, clauses_stand}
pub use Rattle.table.proofs.Laws.{on_inv}

-- The table of a program is that program's.
pub program_encode : (P : Program) → program_of (encode P) ≡ P
unfolding program_of encode
program_encode P = ap (program P.atoms) (clauses_stand (encode P) 2 P.clauses [] (sym (append-nil (clauses_words P.clauses))))

-- ---- the words of a program within the limits pass

pub clause_of_lem : (ws : List ℕ) (n at : ℕ) (c : Clause) (r : List ℕ) → drop at ws ≡ clause_words c ++ r → OrderedClause n c
    → clause_from ws n at ≡ Ok (at + 3 + length c.head + length c.pos + length c.neg)
unfolding clause_from parts_from on_walk ask
clause_of_lem ws n at c r e g =
    let s = stands ws at c r e in
    let H = length c.head in
    let P = length c.pos in
    let Q = length c.neg in
    let l : length ws - at ≡ 3 + (H + (P + Q)) + length r =
    sym (length-drop at ws) ∙ ap length e ∙ omega (arith, length-append (c.head ++ (c.pos ++ c.neg)) r, length-append c.head (c.pos ++ c.neg), length-append c.pos c.neg) in
    let a : at + 3 + H - (at + 3) ≡ H = omega arith in
    let b : at + 3 + H + P - (at + 3 + H) ≡ P = omega arith in
    let d : at + 3 + H + P + Q - (at + 3 + H + P) ≡ Q = omega arith in
    rw (le-leb 3 (length ws - at) (omega arith), s.h, s.p, s.q, le-leb (H + P + Q) (length ws - at - 3) (omega arith), a, b, d, atoms_of (Word AtomBelow) (Word Ascending) ws c.head _ n (at + 3) s.head g.head, atoms_of (Word AtomBelow) (Word Ascending) ws c.pos _ n _ s.pos g.pos)
    (atoms_of (Word AtomBelow) (Word Ascending) ws c.neg _ n _ s.neg g.neg)

clauses_of_lem : (ws : List ℕ) (n at : ℕ) (cs : List Clause) (r : List ℕ) → drop at ws ≡ clauses_words cs ++ r → ((c : Clause) → c ∈ cs → OrderedClause n c)
    → (e : ℕ) × (clauses_from ws n (length cs) at ≡ Ok e) × (drop e ws ≡ r) × (e ≡ at + length (clauses_words cs))
unfolding clauses_from clauses_words on_walk
clauses_of_lem ws n at [] r e g = (at, refl, e, sym (add-zero at))
clauses_of_lem ws n at (c ∷ cs) r e g =
    let f = e ∙ append_assoc (clause_words c) (clauses_words cs) r in
    let s = stands ws at c (clauses_words cs ++ r) f in
    let (x, y, z, w) = clauses_of_lem ws n (at + 3 + length c.head + length c.pos + length c.neg) cs r s.next (λ d m. g d (Memᴰ.tail m)) in
    (x, rw (clause_of_lem ws n at c _ f (g c (Memᴰ.head refl)), y), z, omega (arith, length-append (clause_words c) (clauses_words cs), length-append c.head (c.pos ++ c.neg), length-append c.pos c.neg))

-- The words of a program within the limits pass questions 1 to 8.
pub encode_passes : (P : Program) → Within P → Passed (encode P)
unfolding table_of ask on_walk all_used encode
encode_passes P g =
    let ws = encode P in
    let (e, a, d, w) = clauses_of_lem ws P.atoms 2 P.clauses [] (sym (append-nil (clauses_words P.clauses))) g.ordered in
    record { valid = rw (le-leb 2 (length ws) (omega arith), le-leb (length ws) 8192 g.few_words, le-leb P.atoms 1024 g.few_atoms, le-leb (length P.clauses) 2048 g.few_clauses, a, le-leb (length ws) e (omega arith)) }

-- ---- a table that passes is the words of a program within the limits

-- k words from a place, and what follows them
split : (ws : List ℕ) (at k : ℕ) → drop at ws ≡ cut ws at k ++ drop (at + k) ws
split ws at k = sym (take-append-drop k (drop at ws)) ∙ ap (λ l. cut ws at k ++ l) (drop-drop k at ws)

pub cut_length : (ws : List ℕ) (at k : ℕ) → at + k ≤ length ws → length (cut ws at k) ≡ k
cut_length ws at k l = length-take-le k (drop at ws) (rw (length-drop at ws) (omega arith))

three : (ws : List ℕ) (at : ℕ) → at + 3 ≤ length ws → drop at ws ≡ get_or ws at 0 ∷ get_or ws (at + 1) 0 ∷ get_or ws (at + 2) 0 ∷ drop (at + 3) ws
three ws at l = rw (drop-cons ws at 0 (omega arith), drop-cons ws (suc at) 0 (omega arith), drop-cons ws (suc (suc at)) 0 (omega arith), add-one at, add-two at, add-three at)

-- what a clause that passes is
pub record Sound (ws : List ℕ) (n at : ℕ) : Type 0 where
  pub fits : next_at ws at ≤ length ws
  pub ordered : OrderedClause n (clause_of ws at)
  pub words : drop at ws ≡ clause_words (clause_of ws at) ++ drop (next_at ws at) ws

pub clause_inv : (ws : List ℕ) (n at e : ℕ) → at ≤ length ws → clause_from ws n at ≡ Ok e → Sound ws n at × (e ≡ next_at ws at)
unfolding clause_from parts_from
clause_inv ws n at e in-range h =
    let (t1, h1) = ask_inv _ _ _ e h in
    let (t2, h2) = ask_inv _ _ _ e h1 in
    let (x1, w1, h3) = on_inv _ _ e h2 in
    let (x2, w2, h4) = on_inv _ _ e h3 in
    let H = get_or ws at 0 in
    let P = get_or ws (at + 1) 0 in
    let Q = get_or ws (at + 2) 0 in
    let l1 = leb-true 3 (length ws - at) t1 in
    let l2 = leb-true (H + P + Q) (length ws - at - 3) t2 in
    let a : at + 3 + H - (at + 3) ≡ H = omega arith in
    let b : at + 3 + H + P - (at + 3 + H) ≡ P = omega arith in
    let d : at + 3 + H + P + Q - (at + 3 + H + P) ≡ Q = omega arith in
    let (r1, q1) = atoms_inv (Word AtomBelow) (Word Ascending) ws n 0 (at + 3) H x1 (subst (λ k. part_from ws n 0 (at + 3) k ≡ Ok x1) a w1) (omega arith) in
    let (r2, q2) = atoms_inv (Word AtomBelow) (Word Ascending) ws n 0 (at + 3 + H) P x2 (subst (λ k. part_from ws n 0 (at + 3 + H) k ≡ Ok x2) b w2) (omega arith) in
    let (r3, q3) = atoms_inv (Word AtomBelow) (Word Ascending) ws n 0 (at + 3 + H + P) Q e (subst (λ k. part_from ws n 0 (at + 3 + H + P) k ≡ Ok e) d h4) (omega arith) in
    let p1 = cut ws (at + 3) H in
    let p2 = cut ws (at + 3 + H) P in
    let p3 = cut ws (at + 3 + H + P) Q in
    let z : drop (at + 3) ws ≡ p1 ++ (p2 ++ p3) ++ drop (next_at ws at) ws =
    split ws (at + 3) H ∙ ap (λ l. p1 ++ l) (split ws (at + 3 + H) P ∙ ap (λ l. p2 ++ l) (split ws (at + 3 + H + P) Q) ∙ sym (append_assoc p2 p3 (drop (next_at ws at) ws))) ∙ sym (append_assoc p1 (p2 ++ p3) (drop (next_at ws at) ws)) in (
      record {
        fits = omega arith;
        ordered = record { head = (rising_iff n p1).0 r1; pos = (rising_iff n p2).0 r2; neg = (rising_iff n p3).0 r3 };
        words = rw (cut_length ws (at + 3) H (omega arith), cut_length ws (at + 3 + H) P (omega arith), cut_length ws (at + 3 + H + P) Q (omega arith)) (three ws at (omega arith) ∙ ap (λ l. H ∷ P ∷ Q ∷ l) z);
      },
      q3,
    )

pub clause_within : (ws : List ℕ) (n at e : ℕ) → at ≤ length ws → clause_from ws n at ≡ Ok e → e ≤ length ws
clause_within ws n at e l h = let (s, q) = clause_inv ws n at e l h in omega (arith, s.fits)

pub length_clauses_of : (ws : List ℕ) (m at : ℕ) → length (clauses_of ws m at) ≡ m
unfolding clauses_of
length_clauses_of ws zero at = refl
length_clauses_of ws (suc m) at = ap suc (length_clauses_of ws m (next_at ws at))

clauses_inv : (ws : List ℕ) (n m at e : ℕ) → at ≤ length ws → clauses_from ws n m at ≡ Ok e
    → ((c : Clause) → c ∈ clauses_of ws m at → OrderedClause n c) × (drop at ws ≡ clauses_words (clauses_of ws m at) ++ drop e ws)
unfolding clauses_from clauses_words clauses_of
clauses_inv ws n zero at e l h = let q : at ≡ e = cc in (λ c m. absurd (mathlib.Core.List.Memᴰ.not-nil m), ap (λ i. drop i ws) q)
clauses_inv ws n (suc m) at e l h =
    let (d, a, h1) = on_inv _ _ e h in
    let (g, q) = clause_inv ws n at d l a in
    let (gs, ts) = clauses_inv ws n m (next_at ws at) e g.fits (subst (λ x. clauses_from ws n m x ≡ Ok e) q h1) in (
      each g.ordered gs,
      g.words ∙ ap (λ x. clause_words (clause_of ws at) ++ x) ts ∙ sym (append_assoc (clause_words (clause_of ws at)) (clauses_words (clauses_of ws m (next_at ws at))) (drop e ws)),
    )
  where
    each : OrderedClause n (clause_of ws at) → ((c : Clause) → c ∈ clauses_of ws m (next_at ws at) → OrderedClause n c) → (c : Clause) → c ∈ clause_of ws at ∷ clauses_of ws m (next_at ws at) → OrderedClause n c
    each g gs c (Memᴰ.head e) = rw e g
    each g gs c (Memᴰ.tail k) = gs c k

used_inv : (ws : List ℕ) (w : Walk) (t : Table) → all_used ws w ≡ Ok t → (e : ℕ) × (w ≡ Ok e) × (length ws ≤ e) × (t ≡ table_numbers ws)
unfolding all_used on_walk
used_inv ws (Ok e) t h = let (a, h1) = ask_table_inv _ _ _ t h in (e, refl, leb-true (length ws) e a, cc)
used_inv ws (Err r) t h = let z : ◌≡◌ {A = ℕ} 0 1 = cc in absurd (omega arith)

-- what questions 1 to 3 and 8 say, and that the clauses pass
pub record Limits (ws : List ℕ) : Type 0 where
  pub long : 2 ≤ length ws
  pub short : length ws ≤ 8192
  pub few_atoms : get_or ws 0 0 ≤ 1024
  pub few_clauses : get_or ws 1 0 ≤ 2048
  pub end : ℕ
  pub clauses : clauses_from ws (get_or ws 0 0) (get_or ws 1 0) 2 ≡ Ok end
  pub used : length ws ≤ end

pub valid_inv : (ws : List ℕ) (t : Table) → table_of ws ≡ Ok t → Limits ws × (t ≡ table_numbers ws)
unfolding table_of
valid_inv ws t h =
    let (s1, h1) = ask_table_inv _ _ _ t h in
    let (s2, h2) = ask_table_inv _ _ _ t h1 in
    let (s3, h3) = ask_table_inv _ _ _ t h2 in
    let (e, a, l, q) = used_inv ws _ t h3 in
    let (x, y) = (and_iff (leb 2 (length ws)) (leb (length ws) 8192)).0 s1 in
    (record { long = leb-true _ _ x; short = leb-true _ _ y; few_atoms = leb-true _ _ s2; few_clauses = leb-true _ _ s3; end = e; clauses = a; used = l }, q)

-- A table that the check takes has passed.
pub valid_passed : (ws : List ℕ) (t : Table) → table_of ws ≡ Ok t → Passed ws × (t ≡ table_numbers ws)
valid_passed ws t h = let q = (valid_inv ws t h).1 in (record { valid = h ∙ ap Ok q }, q)

pub passed_limits : (ws : List ℕ) → Passed ws → Limits ws
passed_limits ws p = (valid_inv ws (table_numbers ws) p.valid).0

-- The words of a table that passes are those of its program, which is within the limits.
pub passed_encode : (ws : List ℕ) → Passed ws → encode (program_of ws) ≡ ws
unfolding encode program_of
passed_encode ws p =
    let l = passed_limits ws p in
    let cs = clauses_of ws (get_or ws 1 0) 2 in
    let ts = (clauses_inv ws (get_or ws 0 0) (get_or ws 1 0) 2 l.end l.long l.clauses).1 in
    rw (length_clauses_of ws (get_or ws 1 0) 2)
    (ap (λ l. get_or ws 0 0 ∷ get_or ws 1 0 ∷ l) (sym (ts ∙ ap (λ l. clauses_words cs ++ l) (drop_of_length-le ws l.used) ∙ append-nil (clauses_words cs)))
    ∙ sym (drop-cons ws 0 0 (omega (arith, l.long)) ∙ ap (λ l. get_or ws 0 0 ∷ l) (drop-cons ws 1 0 (omega (arith, l.long)))))

pub passed_within : (ws : List ℕ) → Passed ws → Within (program_of ws)
unfolding program_of
passed_within ws p =
    let l = passed_limits ws p in
    record {
      few_atoms = l.few_atoms;
      few_clauses = rw (length_clauses_of ws (get_or ws 1 0) 2) l.few_clauses;
      few_words = subst (λ x. length x ≤ 8192) (sym (passed_encode ws p)) l.short;
      ordered = (clauses_inv ws (get_or ws 0 0) (get_or ws 1 0) 2 l.end l.long l.clauses).0;
    }

-- A table passes questions 1 to 8 exactly when it is the encoding of a program within the limits.
pub passed_iff : (ws : List ℕ) → Passed ws ↔ ((P : Program) × Within P × (encode P ≡ ws))
passed_iff ws = (
  λ p. (program_of ws, passed_within ws p, passed_encode ws p),
  λ w. subst Passed w.2 (encode_passes w.0 w.1),
)
