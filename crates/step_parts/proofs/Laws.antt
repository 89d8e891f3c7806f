-- Laws of parts.
use mathlib.Core.Path.{◌≡◌, refl, sym, ap, subst, ◌∙◌}
use mathlib.Core.Logic.{by_cases}
use mathlib.Core.Bool.{Bool, true, false, cond}
use mathlib.Core.List.Memᴰ
use mathlib.Core.List.{List, [], ◌∷◌}
use Prim.Native.Nat.{ℕ, zero, suc, ◌+◌, ◌-◌, ◌≤◌, ◌<◌}
use native.Mathlib.Omega.{arith}
use native.Mathlib.Decide.{dec_lt}
use native.Mathlib.Numerals.{add-one}
use lib.Dec.{eqb}
use lib.ListN.{length, get_or, take, drop, length-take, length-drop}
use lib.Seq.{get_or-take, get_or-drop}
use borrow.Author.Tests.{eqb-true, eq-eqb, ne_eqb}
use Rattle.semantics.specs.Lists.{◌∈◌, mem, within}
use Rattle.semantics.proofs.Tests.{mem_iff, so_ext, so_false}
use Rattle.rewriting.specs.Marked.{entry}
use Rattle.table.specs.Places.{head_at, pos_at, neg_at, next_at, start_of}
use Rattle.table.specs.View.{part, entry_at, view}
use Rattle.table.specs.Slices.{kept_of}
use Rattle.table.proofs.Places.{Rises, Good, passed_good, start_suc}
use Rattle.table.proofs.View.{entry_view}
use Rattle.table.proofs.Parts.{part_slice, scan_step, scan_end}
use Rattle.table.specs.Questions.{Passed}
use Rattle.step_parts.specs.declared.Part.{Part}
use Rattle.step_parts.specs.declared.Part.TheVariants.{Head, Pos, Neg}
use Rattle.step_parts.specs.declared.Bounds.{Bounds}
use Rattle.step_parts.specs.declared.marked.Marked.{Marked}
use Rattle.step_parts.specs.Parts.{part_of, span_of, Spanned, Placed, Ready, Ascends, Sought}

-- ---- kept words by their places

-- an atom kept in a part stands at a place whose mark is 1
pub kept_place : (ws ks : List ℕ) (a : ℕ) → a ∈ kept_of ws ks → (i : ℕ) × (i < length ws) × (get_or ws i 0 ≡ a) × (get_or ks i 0 ≡ 1)
unfolding kept_of
kept_place [] ks a m = absurd (Memᴰ.not-nil m)
kept_place (x ∷ ws) [] a m = absurd (Memᴰ.not-nil m)
kept_place (x ∷ ws) (k ∷ ks) a m = go (eqb k 1) refl (λ q. let r = kept_place ws ks a q in (suc r.0, omega arith, r.2, r.3)) m
  where
    Place : Type 0
    Place = (i : ℕ) × (i < suc (length ws)) × (get_or (x ∷ ws) i 0 ≡ a) × (get_or (k ∷ ks) i 0 ≡ 1)

    go : (t : Bool) → eqb k 1 ≡ t → (a ∈ kept_of ws ks → Place) → a ∈ cond t (x ∷ kept_of ws ks) (kept_of ws ks) → Place
    go true h f (Memᴰ.head e) = (zero, omega arith, sym e, eqb-true _ _ h)
    go true h f (Memᴰ.tail q) = f q
    go false h f q = f q

pub place_kept : (ws ks : List ℕ) (i : ℕ) → i < length ws → length ws ≤ length ks → get_or ks i 0 ≡ 1 → get_or ws i 0 ∈ kept_of ws ks
unfolding kept_of
place_kept [] ks i h l e = absurd (omega arith)
place_kept (x ∷ ws) [] i h l e = absurd (omega arith)
place_kept (x ∷ ws) (k ∷ ks) zero h l e = rw e (Memᴰ.head refl)
place_kept (x ∷ ws) (k ∷ ks) (suc i) h l e = go (eqb k 1) (place_kept ws ks i (omega arith) (omega arith) e)
  where
    go : (t : Bool) → get_or ws i 0 ∈ kept_of ws ks → get_or ws i 0 ∈ cond t (x ∷ kept_of ws ks) (kept_of ws ks)
    go true m = Memᴰ.tail m
    go false m = m

-- ---- an atom that was sought

module _ (part marks : List ℕ) (atom at : ℕ) (up : Ascends part) (s : Sought part atom at) where
  -- it stands where it would stand, or nowhere
  sought_place : (i : ℕ) → i < length part → get_or part i 0 ≡ atom → i ≡ at
  sought_place i h e = by_cases (dec_lt i at) (λ l. let q = s.below i l in absurd (omega arith))
      (λ l. by_cases (dec_lt at i) (λ k. let q = up.rises at i k h in let r = s.above at (omega arith) (omega arith) in absurd (omega arith)) (λ k. omega arith))

  pub stands_not : (at < length part → get_or part at 0 ≡ atom → ⊥) → false ≡ mem atom (kept_of part marks)
  stands_not h = sym (so_false (mem atom (kept_of part marks)) (λ m.
      let q = kept_place part marks atom ((mem_iff _ _).0 m) in
      let e = sought_place q.0 q.1 q.2 in
      h (omega arith) (ap (λ i. get_or part i 0) (sym e) ∙ q.2)))

  pub stands_there : length part ≤ length marks → at < length part → get_or part at 0 ≡ atom → eqb (get_or marks at 0) 1 ≡ mem atom (kept_of part marks)
  stands_there l h e = so_ext (eqb (get_or marks at 0) 1) (mem atom (kept_of part marks))
      (λ k. (mem_iff _ _).1 (subst (λ x. x ∈ kept_of part marks) e (place_kept part marks at h l (eqb-true _ _ k))))
      (λ m. let q = kept_place part marks atom ((mem_iff _ _).0 m) in eq-eqb _ _ (ap (λ i. get_or marks i 0) (sym (sought_place q.0 q.1 q.2)) ∙ q.3))

-- what stands from a place on in a part that ascends

pub seek_high : (part : List ℕ) (atom mid : ℕ) → Ascends part → atom ≤ get_or part mid 0 → (i : ℕ) → mid ≤ i → i < length part → atom ≤ get_or part i 0
seek_high part atom mid up h i k l = by_cases (dec_lt mid i) (λ q. omega (arith, up.rises mid i q l)) (λ q. let e : i ≡ mid = omega arith in rw e h)

-- ---- kept words from a place on

module _ (part marks : List ℕ) (i : ℕ) (h : i < length part) (l : length part ≤ length marks) where
  pub kept_some : get_or marks i 0 ≡ 1 → kept_of (drop i part) (drop i marks) ≡ get_or part i 0 ∷ kept_of (drop (i + 1) part) (drop (i + 1) marks)
  kept_some e = scan_step part marks i h (omega arith) ∙ rw (eq-eqb (get_or marks i 0) 1 e)

  pub kept_on : (get_or marks i 0 ≡ 1 → ⊥) → kept_of (drop i part) (drop i marks) ≡ kept_of (drop (i + 1) part) (drop (i + 1) marks)
  kept_on e = scan_step part marks i h (omega arith) ∙ rw (ne_eqb (get_or marks i 0) 1 e)

-- ---- clauses by their starts

pub clause_fits : (ws index : List ℕ) → Placed ws index → (t : ℕ) → t < get_or ws 1 0 → next_at ws (start_of ws t) ≤ length ws
clause_fits ws index p t h = (passed_good ws p.passed t h).fits

pub kept_entry : (ws ms index : List ℕ) → Ready ws ms index → (t at : ℕ) → t < get_or ws 1 0 → at ≡ start_of ws t → eqb (get_or ms at 0) 1 ≡ (entry (view ws ms) t).kept
unfolding entry_at
kept_entry ws ms index r t at h e = rw e (sym (ap (λ x. x.kept) (entry_view ws ms t h)))

pub start_next : (ws : List ℕ) (t at r : ℕ) → at ≡ start_of ws t → r ≡ next_at ws at → r ≡ start_of ws (t + 1)
start_next ws t at r e q = q ∙ ap (next_at ws) e ∙ sym (start_suc ws 2 t) ∙ ap (start_of ws) (sym (add-one t))

-- a table with its marks has what the two had
pub ready : (p : Marked) → Ready p.table.words.now p.marks.now p.table.index.now
ready p = record { placed = p.table.placed; marks = p.long }

-- ---- a clause's part as slices of the words and the marks

abbrev pub From : List ℕ → ℕ → Part → ℕ
From ws at x = (span_of ws at x).from

abbrev pub Size : List ℕ → ℕ → Part → ℕ
Size ws at x = (span_of ws at x).end - (span_of ws at x).from

pub part_at : (ws ms : List ℕ) (at : ℕ) (x : Part) → part_of x (entry_at ws ms at).clause ≡ part ws ms (From ws at x) (Size ws at x)
unfolding entry_at
part_at ws ms at Head = let e : get_or ws at 0 ≡ pos_at ws at - head_at at = omega arith in ap (part ws ms (head_at at)) e
part_at ws ms at Pos = let e : get_or ws (at + 1) 0 ≡ neg_at ws at - pos_at ws at = omega arith in ap (part ws ms (pos_at ws at)) e
part_at ws ms at Neg = let e : get_or ws (at + 2) 0 ≡ next_at ws at - neg_at ws at = omega arith in ap (part ws ms (neg_at ws at)) e

pub span_rises : (ws : List ℕ) (n at : ℕ) → Good ws n at → (x : Part) → Rises ws (From ws at x) (Size ws at x)
span_rises ws n at g Head = let e : get_or ws at 0 ≡ pos_at ws at - head_at at = omega arith in subst (Rises ws (head_at at)) e g.head_rises
span_rises ws n at g Pos = let e : get_or ws (at + 1) 0 ≡ neg_at ws at - pos_at ws at = omega arith in subst (Rises ws (pos_at ws at)) e g.pos_rises
span_rises ws n at g Neg = let e : get_or ws (at + 2) 0 ≡ next_at ws at - neg_at ws at = omega arith in subst (Rises ws (neg_at ws at)) e g.neg_rises

slice_ascends : (ws : List ℕ) (b k : ℕ) → Rises ws b k → Ascends (take k (drop b ws))
slice_ascends ws b k r = record {
  rises = λ i j h l.
      let q : j < k = omega (arith, simp (length-take, length-drop) at l) in
      let p : i < k = omega arith in
      rw (get_or-take k (drop b ws) i 0 p, get_or-take k (drop b ws) j 0 q, get_or-drop b ws i 0, get_or-drop b ws j 0) (r (b + i) (b + j) (omega arith) (omega arith) (omega arith));
}

pub spanned : (ws : List ℕ) (t at : ℕ) (x : Part) (r : Bounds) → at ≡ start_of ws t → next_at ws at ≤ length ws → r ≡ span_of ws at x → Spanned ws t x r
spanned ws t at x r e f q = record { is = q ∙ ap (λ o. span_of ws o x) e; order = rw q (order x); fits = rw q (fits x) }
  where
    order : (x : Part) → (span_of ws at x).from ≤ (span_of ws at x).end
    order Head = omega arith
    order Pos = omega arith
    order Neg = omega arith

    fits : (x : Part) → (span_of ws at x).end ≤ length ws
    fits Head = omega arith
    fits Pos = omega arith
    fits Neg = f

-- the words and the marks of a part
abbrev pub part_words : List ℕ → Bounds → List ℕ
part_words l s = take (s.end - s.from) (drop s.from l)

module _ (ws ms index : List ℕ) (r : Ready ws ms index) (t : ℕ) (h : t < get_or ws 1 0) (x : Part) (s : Bounds) (q : Spanned ws t x s) where
  pub part_is : part_of x (entry (view ws ms) t).clause ≡ kept_of (part_words ws s) (part_words ms s)
  part_is = ap (λ e. part_of x e.clause) (entry_view ws ms t h) ∙ part_at ws ms (start_of ws t) x ∙ ap (λ b. part ws ms b.from (b.end - b.from)) (sym q.is)
      ∙ part_slice ws ms s.from (s.end - s.from) (omega (arith, q.order, q.fits)) (omega (arith, q.order, q.fits, r.marks))

  pub part_ascends : Ascends (part_words ws s)
  part_ascends = slice_ascends ws s.from (s.end - s.from) (subst (λ b. Rises ws b.from (b.end - b.from)) (sym q.is) (span_rises ws (get_or ws 0 0) (start_of ws t) (passed_good ws r.placed.passed t h) x))

  pub part_marked : length (part_words ws s) ≤ length (part_words ms s)
  part_marked = simp (length-take, length-drop) (omega (arith, q.order, q.fits, r.marks))

-- ---- one part within another, atom by atom

module _ (a am l : List ℕ) (i : ℕ) (h : i < length a) (long : length a ≤ length am) where
  abbrev Rest : ℕ → Bool
  Rest i = within (kept_of (drop i a) (drop i am)) l

  pub within_past : (get_or am i 0 ≡ 1 → ⊥) → Rest i ≡ Rest (i + 1)
  within_past e = ap (λ k. within k l) (kept_on a am i h long e)

  pub within_on : get_or am i 0 ≡ 1 → mem (get_or a i 0) l ≡ true → Rest i ≡ Rest (i + 1)
  within_on e q = ap (λ k. within k l) (kept_some a am i h long e) ∙ rw q

  pub within_lost : get_or am i 0 ≡ 1 → mem (get_or a i 0) l ≡ false → Rest i ≡ false
  within_lost e q = ap (λ k. within k l) (kept_some a am i h long e) ∙ rw q

pub within_end : (a am l : List ℕ) (i : ℕ) → length a ≤ i → within (kept_of (drop i a) (drop i am)) l ≡ true
within_end a am l i h = ap (λ k. within k l) (scan_end a (drop i am) i h)

span_within : (ws : List ℕ) (at : ℕ) (x : Part) → (head_at at ≤ (span_of ws at x).from) × ((span_of ws at x).end ≤ next_at ws at)
span_within ws at Head = (omega arith, omega arith)
span_within ws at Pos = (omega arith, omega arith)
span_within ws at Neg = (omega arith, omega arith)

-- the words of a part
pub words_below : (ws : List ℕ) → Passed ws → (t : ℕ) → t < get_or ws 1 0 → (x : Part) (s : Bounds) → Spanned ws t x s → (i : ℕ) → s.from ≤ i → i < s.end → get_or ws i 0 < get_or ws 0 0
words_below ws p t h x s q i a b =
    let w = span_within ws (start_of ws t) x in
    let e = q.is in
    (passed_good ws p t h).below i (omega (arith, w.0, ap (λ y. y.from) e)) (omega (arith, w.1, ap (λ y. y.end) e))
