-- The index of a table, place by place: an atom stands in one part of one clause at a place, and one place more is linked by three stores.
use mathlib.Core.Path.{◌≡◌, refl, sym, ap, subst, ◌∙◌}
use mathlib.Core.Logic.{by_cases}
use mathlib.Core.Bool.{Bool, true, false, cond}
use mathlib.Core.List.Memᴰ
use mathlib.Core.List.{List, ◌∷◌}
use Prim.Native.Nat.{ℕ, zero, suc, ◌+◌, ◌≤◌, ◌<◌}
use native.Mathlib.Omega.{arith}
use native.Mathlib.Decide.{dec_lt, ℕ_discrete}
use lib.Dec.{eqb}
use lib.ListN.{length, get_or, set, length-set}
use lib.Seq.{get_or-set_same, get_or-set_other}
use borrow.Author.Tests.{eq-eqb}
use Rattle.semantics.specs.Lists.{◌∈◌}
use Rattle.rewriting.specs.Marked.{entry}
use Rattle.table.specs.Questions.{Passed}
use Rattle.table.specs.Places.{next_at, start_from, start_of}
use Rattle.table.specs.View.{part, view}
use Rattle.table.proofs.Encoding.{passed_limits}
use Rattle.table.proofs.Places.{passed_good, start_suc}
use Rattle.table.proofs.View.{start_le, part_mem, entry_view}
use Rattle.step_parts.specs.declared.Part.{Part}
use Rattle.step_parts.specs.declared.Part.TheVariants.{Head, Pos, Neg}
use Rattle.step_parts.specs.declared.marked.Marked.{Marked}
use Rattle.step_parts.specs.Reading.{atom_count, clause_count, clause_of}
use Rattle.step_parts.specs.Parts.{part_of, span_of, Stands, last_at, before_at, owner_at, Latest, Indexed}
use Rattle.table.proofs.Walks.{passed_end}
use Rattle.step_parts.proofs.Laws.{From, Size, part_at, span_rises}

-- ---- an atom at a place

start_mono : (ws : List ℕ) (o s t : ℕ) → s ≤ t → start_from ws o s ≤ start_from ws o t
unfolding start_from
start_mono ws o zero t h = start_le ws o t
start_mono ws o (suc s) zero h = absurd (omega arith)
start_mono ws o (suc s) (suc t) h = start_mono ws (next_at ws o) s t (omega arith)

-- the place lies in its clause, past the three counts
pub stands_in : {ws : List ℕ} {x : Part} {a t i : ℕ} → Stands ws x a t i → (start_of ws t + 3 ≤ i) × (i < next_at ws (start_of ws t))
stands_in {ws} {x} {a} {t} {i} s = go x s.from s.to
  where
    go : (x : Part) → (span_of ws (start_of ws t) x).from ≤ i → i < (span_of ws (start_of ws t) x).end → (start_of ws t + 3 ≤ i) × (i < next_at ws (start_of ws t))
    go Head f e = (omega arith, omega arith)
    go Pos f e = (omega arith, omega arith)
    go Neg f e = (omega arith, e)

module _ {ws : List ℕ} {x y : Part} {a b t u i : ℕ} (p : Stands ws x a t i) (q : Stands ws y b u i) where
  -- an atom stands in one clause
  pub stands_clause : t ≡ u
  stands_clause =
      let (l, h) = stands_in p in
      let (k, g) = stands_in q in
      by_cases (dec_lt t u) (λ z. absurd (omega (arith, start_mono ws 2 (suc t) u (omega arith), start_suc ws 2 t)))
      (λ z. by_cases (dec_lt u t) (λ w. absurd (omega (arith, start_mono ws 2 (suc u) t (omega arith), start_suc ws 2 u))) (λ w. omega arith))

  -- and in one part of it
  pub stands_part : x ≡ y
  stands_part = go x y p.from p.to (subst (λ v. (span_of ws (start_of ws v) y).from ≤ i) (sym stands_clause) q.from) (subst (λ v. i < (span_of ws (start_of ws v) y).end) (sym stands_clause) q.to)
    where
      go : (x y : Part) → (span_of ws (start_of ws t) x).from ≤ i → i < (span_of ws (start_of ws t) x).end → (span_of ws (start_of ws t) y).from ≤ i → i < (span_of ws (start_of ws t) y).end → x ≡ y
      go Head Head a b c d = refl
      go Head Pos a b c d = absurd (omega arith)
      go Head Neg a b c d = absurd (omega arith)
      go Pos Head a b c d = absurd (omega arith)
      go Pos Pos a b c d = refl
      go Pos Neg a b c d = absurd (omega arith)
      go Neg Head a b c d = absurd (omega arith)
      go Neg Pos a b c d = absurd (omega arith)
      go Neg Neg a b c d = refl

  stands_atom : a ≡ b
  stands_atom = sym p.atom ∙ q.atom

-- ---- where the last places are kept

pub last_range : (x : Part) (a : ℕ) → a < 1024 → (2049 ≤ last_at x a) × (last_at x a < 5121)
last_range Head a h = (omega arith, omega arith)
last_range Pos a h = (omega arith, omega arith)
last_range Neg a h = (omega arith, omega arith)

last_same : (x y : Part) (a b : ℕ) → a < 1024 → b < 1024 → last_at x a ≡ last_at y b → (x ≡ y) × (a ≡ b)
last_same Head Head a b h k e = (refl, omega arith)
last_same Head Pos a b h k e = absurd (omega arith)
last_same Head Neg a b h k e = absurd (omega arith)
last_same Pos Head a b h k e = absurd (omega arith)
last_same Pos Pos a b h k e = (refl, omega arith)
last_same Pos Neg a b h k e = absurd (omega arith)
last_same Neg Head a b h k e = absurd (omega arith)
last_same Neg Pos a b h k e = absurd (omega arith)
last_same Neg Neg a b h k e = (refl, omega arith)

-- ---- one place more

-- the three stores for atom a at place i, in part x of clause t
abbrev linked : List ℕ → Part → ℕ → ℕ → ℕ → List ℕ
linked index x a t i = set (set (set index (before_at i) (get_or index (last_at x a) 0)) (last_at x a) i) (owner_at i) t

-- what a clause's atom and place are bounded by
pub stands_small : {ws : List ℕ} {x : Part} {a t i : ℕ} → Passed ws → Stands ws x a t i → (a < 1024) × (i < length ws) × (length ws ≤ 8192) × (t < 2048)
stands_small {ws} {x} {a} {t} {i} p s =
    let l = passed_limits ws p in
    let g = passed_good ws p t s.clause in
    let (k, h) = stands_in s in
    (omega (arith, g.below i k h, s.atom, l.few_atoms), omega (arith, g.fits), l.short, omega (arith, s.clause, l.few_clauses))

module _ (ws index : List ℕ) (x : Part) (a t i : ℕ) (d : Indexed ws index t i) (s : Stands ws x a t i) where
  abbrev one : List ℕ
  one = set index (before_at i) (get_or index (last_at x a) 0)

  abbrev two : List ℕ
  two = set one (last_at x a) i

  abbrev new : List ℕ
  new = linked index x a t i

  small : (a < 1024) × (i < 8192) × (2049 ≤ last_at x a) × (last_at x a < 5121)
  small = let (b, c, e, f) = stands_small d.passed s in let (l, r) = last_range x a b in (b, omega arith, l, r)

  other : (j : ℕ) → (j ≡ before_at i → ⊥) → (j ≡ last_at x a → ⊥) → (j ≡ owner_at i → ⊥) → get_or new j 0 ≡ get_or index j 0
  other j h k l = get_or-set_other two (owner_at i) j t 0 l ∙ get_or-set_other one (last_at x a) j i 0 k ∙ get_or-set_other index (before_at i) j (get_or index (last_at x a) 0) 0 h

  new_owner : get_or new (owner_at i) 0 ≡ t
  new_owner = let l = small in get_or-set_same two (owner_at i) t 0 (simp length-set (omega (arith, d.long)))

  new_last : get_or new (last_at x a) 0 ≡ i
  new_last = let l = small in get_or-set_other two (owner_at i) (last_at x a) t 0 (λ e. omega arith) ∙ get_or-set_same one (last_at x a) i 0 (simp length-set (omega (arith, d.long)))

  new_before : get_or new (before_at i) 0 ≡ get_or index (last_at x a) 0
  new_before = let l = small in get_or-set_other two (owner_at i) (before_at i) t 0 (λ e. omega arith) ∙ get_or-set_other one (last_at x a) (before_at i) i 0 (λ e. omega arith) ∙ get_or-set_same index (before_at i) (get_or index (last_at x a) 0) 0 (omega (arith, d.long))

  -- what was linked stays
  latest_same : (y : Part) (b k f : ℕ) → k ≤ i → Latest ws index y b k f → Latest ws new y b k f
  latest_same y b k f h r = record {
    some = λ z. let (u, v) = r.some z in (u, subst (λ o. Stands ws y b o f) (sym (let l = small in other (owner_at f) (λ e. omega arith) (λ e. omega arith) (λ e. omega arith))) v);
    none = r.none;
  }

  -- another atom, or one in another part, does not stand here
  latest_on : (y : Part) (b f : ℕ) → (last_at y b ≡ last_at x a → ⊥) → Latest ws index y b i f → Latest ws new y b (i + 1) f
  latest_on y b f n r = let w = latest_same y b i f (omega arith) r in record {
    some = λ z. let (u, v) = w.some z in (omega arith, v);
    none = λ v j q h k. by_cases (dec_lt j i) (w.none v j q h) (λ g. let e : j ≡ i = omega arith in
        let q' = subst (λ j. Stands ws y b v j) e q in n (subst (λ z. last_at z b ≡ last_at x a) (stands_part s q') (ap (last_at x) (stands_atom q' s))));
  }

  latest_here : Latest ws new x a (i + 1) i
  latest_here = record { some = λ z. (omega arith, subst (λ o. Stands ws x a o i) (sym new_owner) s); none = λ v j q h k. omega arith }

  pub index_on : Indexed ws new t (i + 1)
  index_on = record {
    passed = d.passed;
    room = simp length-set d.room;
    long = simp length-set d.long;
    at = λ k h. let l = small in let few = (stands_small d.passed s).3 in other k (λ e. omega arith) (λ e. omega arith) (λ e. omega arith) ∙ d.at k h;
    last = λ y b h. by_cases (ℕ_discrete (last_at y b) (last_at x a))
        (λ e. let (u, v) = last_same y x b a h small.0 e in subst (λ z. Latest ws new z b (i + 1) (get_or new (last_at z b) 0)) (sym u)
        (subst (λ c. Latest ws new x c (i + 1) (get_or new (last_at x c) 0)) (sym v) (subst (Latest ws new x a (i + 1)) (sym new_last) latest_here)))
        (λ n. let l = small in let r = last_range y b h in subst (Latest ws new y b (i + 1)) (sym (other (last_at y b) (λ e. omega arith) n (λ e. omega arith))) (latest_on y b _ n (d.last y b h)));
    before = λ y b v j q h. by_cases (dec_lt j i)
        (λ k. let l = small in subst (Latest ws new y b j) (sym (other (before_at j) (λ e. omega arith) (λ e. omega arith) (λ e. omega arith))) (latest_same y b j _ (omega arith) (d.before y b v j q k)))
        (λ k. let e : j ≡ i = omega arith in let q' = subst (λ j. Stands ws y b v j) e q in
        subst (λ j. Latest ws new y b j (get_or new (before_at j) 0)) (sym e) (subst (Latest ws new y b i) (sym new_before)
        (subst (λ z. Latest ws new z b i (get_or index (last_at x a) 0)) (stands_part s q') (subst (λ c. Latest ws new x c i (get_or index (last_at x a) 0)) (stands_atom s q') (latest_same x a i _ (omega arith) (d.last x a small.0))))));
  }

-- ---- one clause more

-- a place of a part's span
pub span_stands : (ws : List ℕ) (x : Part) (t i at : ℕ) → t < get_or ws 1 0 → at ≡ start_of ws t → (span_of ws at x).from ≤ i → i < (span_of ws at x).end → Stands ws x (get_or ws i 0) t i
span_stands ws x t i at h q f e = record { clause = h; from = subst (λ o. (span_of ws o x).from ≤ i) q f; to = subst (λ o. i < (span_of ws o x).end) q e; atom = refl }

pub span_order : (ws : List ℕ) (at : ℕ) (x : Part) → (span_of ws at x).from ≤ (span_of ws at x).end
span_order ws at Head = omega arith
span_order ws at Pos = omega arith
span_order ws at Neg = omega arith

-- what the clause at `at` is bounded by
pub index_fits : (ws index : List ℕ) (t k at : ℕ) → Indexed ws index t k → t < get_or ws 1 0 → at ≡ start_of ws t → (next_at ws at ≤ length ws) × (length ws ≤ 8192) × (t < 2048) × (21505 ≤ length index)
index_fits ws index t k at d h e = let l = passed_limits ws d.passed in (subst (λ o. next_at ws o ≤ length ws) (sym e) (passed_good ws d.passed t h).fits, l.short, omega (arith, l.few_clauses), d.long)

-- the three counts hold no atom
pub index_counts : (ws index : List ℕ) (t at : ℕ) → at ≡ start_of ws t → Indexed ws index t at → Indexed ws index t (at + 3)
index_counts ws index t at e d = record {
  passed = d.passed;
  room = d.room;
  long = d.long;
  at = d.at;
  last = λ x a h. let r = d.last x a h in record { some = λ z. let (u, v) = r.some z in (omega arith, v); none = λ v j q k l. r.none v j q k (below x a v j q l) };
  before = λ x a v j q h. d.before x a v j q (below x a v j q h);
}
  where
    below : (x : Part) (a v j : ℕ) → Stands ws x a v j → j < at + 3 → j < at
    below x a v j q h = let (l, k) = stands_in q in by_cases (dec_lt v t) (λ z. omega (arith, start_mono ws 2 (suc v) t (omega arith), start_suc ws 2 v)) (λ z. absurd (omega (arith, start_mono ws 2 t v (omega arith))))

-- the next clause's start
pub index_start : (ws index : List ℕ) (t k : ℕ) → t < 2048 → k ≡ start_of ws (t + 1) → Indexed ws index t k → Indexed ws (set index (t + 1) k) (t + 1) k
index_start ws index t k h e d = record {
  passed = d.passed;
  room = simp length-set d.room;
  long = simp length-set d.long;
  at = λ s l. by_cases (ℕ_discrete s (t + 1)) (λ z. rw (z, get_or-set_same index (t + 1) k 0 (omega (arith, d.long))) e) (λ z. get_or-set_other index (t + 1) s k 0 z ∙ d.at s (omega arith));
  last = λ x a l. let r = last_range x a l in subst (Latest ws (set index (t + 1) k) x a k) (sym (get_or-set_other index (t + 1) (last_at x a) k 0 (λ z. omega arith))) (stays x a k _ (d.last x a l));
  before = λ x a v j q l. subst (Latest ws (set index (t + 1) k) x a j) (sym (get_or-set_other index (t + 1) (before_at j) k 0 (λ z. omega arith))) (stays x a j _ (d.before x a v j q l));
}
  where
    stays : (x : Part) (a j f : ℕ) → Latest ws index x a j f → Latest ws (set index (t + 1) k) x a j f
    stays x a j f r = record { some = λ z. let (u, v) = r.some z in (u, subst (λ o. Stands ws x a o f) (sym (get_or-set_other index (t + 1) (owner_at f) k 0 (λ z. omega arith))) v); none = r.none }

-- ---- from nothing to the whole

pub cleared_more : (index : List ℕ) (i : ℕ) → i < length index → ((k : ℕ) → 2049 ≤ k → k < i → get_or index k 0 ≡ 0) → (k : ℕ) → 2049 ≤ k → k < i + 1 → get_or (set index i 0) k 0 ≡ 0
cleared_more index i l f k h g = by_cases (ℕ_discrete k i) (λ e. rw (e, get_or-set_same index i 0 0 l)) (λ e. get_or-set_other index i k 0 0 e ∙ f k h (omega arith))

pub index_none : (ws index old : List ℕ) → Passed ws → length index ≡ length old → 21505 ≤ length old → ((i : ℕ) → 2049 ≤ i → i < 5121 → get_or index i 0 ≡ 0) → Indexed ws (set index 0 2) 0 2
unfolding start_from
index_none ws index old p l r z = record {
  passed = p;
  room = simp length-set (omega (arith, (passed_limits ws p).few_clauses));
  long = simp length-set (omega arith);
  at = λ s h. let e : s ≡ 0 = omega arith in rw (e, get_or-set_same index 0 2 0 (omega arith));
  last = λ x a h. let (u, v) = last_range x a h in subst (Latest ws (set index 0 2) x a 2) (sym (get_or-set_other index 0 (last_at x a) 2 0 (λ e. omega arith) ∙ z (last_at x a) u v)) (record { some = λ h. absurd (omega arith); none = λ t j q h k. low x a t j q k });
  before = λ x a t i q h. absurd (low x a t i q h);
}
  where
    low : (x : Part) (a t j : ℕ) → Stands ws x a t j → j < 2 → ⊥
    low x a t j q h = let (l, k) = stands_in q in omega (arith, start_le ws 2 t)

pub index_end : (ws index : List ℕ) (t at : ℕ) → t ≡ get_or ws 1 0 → at ≡ start_of ws t → Indexed ws index t at → Indexed ws index (get_or ws 1 0) (length ws)
index_end ws index t at e q d = subst (λ k. Indexed ws index (get_or ws 1 0) k) (ap (start_of ws) e ∙ passed_end ws d.passed) (subst (λ k. Indexed ws index (get_or ws 1 0) k) q (subst (λ u. Indexed ws index u at) e d))

-- ---- what the marks leave, by places

part_place : (ws ms : List ℕ) (o k j : ℕ) → o ≤ j → j < o + k → get_or ms j 0 ≡ 1 → get_or ws j 0 ∈ part ws ms o k
unfolding part
part_place ws ms o zero j a b e = absurd (omega arith)
part_place ws ms o (suc k) j a b e = by_cases (ℕ_discrete j o)
    (λ q. let d : get_or ms o 0 ≡ 1 = ap (λ i. get_or ms i 0) (sym q) ∙ e in rw (q, eq-eqb (get_or ms o 0) 1 d) (Memᴰ.head refl))
    (λ n. go (eqb (get_or ms o 0) 1) (part_place ws ms (suc o) k j (omega arith) (omega arith) e))
  where
    go : (t : Bool) → get_or ws j 0 ∈ part ws ms (suc o) k → get_or ws j 0 ∈ cond t (get_or ws o 0 ∷ part ws ms (suc o) k) (part ws ms (suc o) k)
    go true m = Memᴰ.tail m
    go false m = m

view_part : (ws ms : List ℕ) (t : ℕ) (x : Part) → t < get_or ws 1 0 → part_of x (entry (view ws ms) t).clause ≡ part ws ms (From ws (start_of ws t) x) (Size ws (start_of ws t) x)
view_part ws ms t x h = ap (λ e. part_of x e.clause) (entry_view ws ms t h) ∙ part_at ws ms (start_of ws t) x

-- an atom whose mark is 1 is one of the part as left
pub stands_kept : {ws : List ℕ} {x : Part} {a t i : ℕ} (ms : List ℕ) → Stands ws x a t i → get_or ms i 0 ≡ 1 → a ∈ part_of x (entry (view ws ms) t).clause
stands_kept {ws} {x} {a} {t} {i} ms s e =
    let o = span_order ws (start_of ws t) x in
    subst (λ l. a ∈ l) (sym (view_part ws ms t x s.clause)) (subst (λ b. b ∈ part ws ms (From ws (start_of ws t) x) (Size ws (start_of ws t) x)) s.atom (part_place ws ms _ _ i s.from (omega (arith, s.from, s.to)) e))

-- and each of them stands at a place whose mark is 1
pub kept_stands : (ws ms : List ℕ) (x : Part) (a t : ℕ) → t < get_or ws 1 0 → a ∈ part_of x (entry (view ws ms) t).clause → (i : ℕ) × Stands ws x a t i × (get_or ms i 0 ≡ 1)
kept_stands ws ms x a t h m =
    let q = part_mem ws ms (From ws (start_of ws t) x) (Size ws (start_of ws t) x) a (subst (λ l. a ∈ l) (view_part ws ms t x h) m) in
    let o = span_order ws (start_of ws t) x in
    (q.0, record { clause = h; from = q.1; to = omega (arith, q.1, q.2); atom = q.3 }, q.4)

part_length : (ws ms : List ℕ) (o k : ℕ) → length (part ws ms o k) ≤ k
unfolding part
part_length ws ms o zero = omega arith
part_length ws ms o (suc k) = go (eqb (get_or ms o 0) 1) (part_length ws ms (suc o) k)
  where
    go : (b : Bool) → length (part ws ms (suc o) k) ≤ k → length (cond b (get_or ws o 0 ∷ part ws ms (suc o) k) (part ws ms (suc o) k)) ≤ suc k
    go true h = omega arith
    go false h = omega arith

part_inside : (ws : List ℕ) (at : ℕ) (x : Part) → (span_of ws at x).end ≤ next_at ws at
part_inside ws at Head = omega arith
part_inside ws at Pos = omega arith
part_inside ws at Neg = omega arith

-- an atom stands once in a part
pub stands_once : {ws : List ℕ} {x : Part} {a t i j : ℕ} → Passed ws → Stands ws x a t i → Stands ws x a t j → i ≡ j
stands_once {ws} {x} {a} {t} {i} {j} p s q =
    let r = span_rises ws (get_or ws 0 0) (start_of ws t) (passed_good ws p t s.clause) x in
    let e : get_or ws i 0 ≡ get_or ws j 0 = s.atom ∙ sym q.atom in
    by_cases (dec_lt i j) (λ l. absurd (omega (arith, r i j s.from l (omega (arith, s.from, q.to)))))
    (λ l. by_cases (dec_lt j i) (λ k. absurd (omega (arith, r j i q.from k (omega (arith, q.from, s.to))))) (λ k. omega arith))

-- ---- the atoms of a part of a program's clause

module _ (p : Marked) (t : ℕ) (h : t < clause_count p.table) (x : Part) where
  -- each is one of the table's atoms
  pub part_below : (a : ℕ) → a ∈ part_of x (clause_of p t) → (a < atom_count p.table) × (a < 1024)
  part_below a m =
      let (i, s, e) = kept_stands p.table.words.now p.marks.now x a t h m in
      let (u, v) = stands_in s in
      (subst (λ b. b < get_or p.table.words.now 0 0) s.atom ((passed_good _ p.table.placed.passed t h).below i u v), (stands_small p.table.placed.passed s).0)

  -- and they are few
  pub part_few : length (part_of x (clause_of p t)) ≤ 8192
  part_few =
      let f = (passed_good _ p.table.placed.passed t h).fits in
      let o = part_inside p.table.words.now (start_of p.table.words.now t) x in
      omega (arith, ap length (view_part p.table.words.now p.marks.now t x h), part_length p.table.words.now p.marks.now (From p.table.words.now (start_of p.table.words.now t) x) (Size p.table.words.now (start_of p.table.words.now t) x), o, f, (passed_limits _ p.table.placed.passed).short)
