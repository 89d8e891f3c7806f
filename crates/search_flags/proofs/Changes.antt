-- Flags: what a flag more, a flag less and bounds drawn closer make of the rows.
use mathlib.Core.Path.{◌≡◌, refl, sym, ap, subst, ◌∙◌}
use mathlib.Core.Logic.{◌≢◌, ◌⊎◌, by_cases, ⊎_elim}
use mathlib.Core.List.{List}
use Prim.Native.Nat.{ℕ, ◌+◌, ◌*◌, ◌≤◌, ◌<◌}
use native.Mathlib.Omega.{arith}
use native.Mathlib.Decide.{ℕ_discrete, dec_lt}
use lib.ListN.{length, get_or, set, length-set, get_or-eq_default}
use lib.Seq.{get_or-set_same, get_or-set_other}
use Rattle.search_flags.specs.Flags.{flag_at, most, next, Flagged, Covered, lowest, highest, Inside, Rows, Raising, Fenced, all_flags, highests, lowests, mosts, nexts}

-- two rows have no place in common
pub apart : (r s i j : ℕ) → i < 2048 → j < 2048 → r ≢ s → r * 2048 + i ≢ s * 2048 + j
apart r s i j a b d e = by_cases (dec_lt r s) (λ x. omega arith) (λ x. by_cases (dec_lt s r) (λ y. omega arith) (λ y. d (omega arith)))

-- fewer flags between the same bounds
pub rows_with : (flags flags' : List ℕ) → length flags' ≡ length flags → ((r i : ℕ) → r ≤ 16 → i < 2048 → flag_at flags r i ≡ 0 → flag_at flags' r i ≡ 0) → ((j : ℕ) → lowests ≤ j → j < mosts → get_or flags' j 0 ≡ get_or flags j 0)
    → (m : ℕ) → Rows m flags → Rows m flags'
rows_with flags flags' e f s m w = record {
  long = e ∙ w.long;
  inside = λ r x y i k g. let q = w.inside r x y i k (λ z. g (f r i y k z)) in
      (omega (arith, q.0, s (lowests + r) (omega arith) (omega arith)), omega (arith, q.1, s (highests + r) (omega arith) (omega arith)));
  high = λ r x y. omega (arith, w.high r x y, s (highests + r) (omega arith) (omega arith));
  few = λ r x y. omega (arith, w.few r x y, s (highests + r) (omega arith) (omega arith));
}

-- ---- outside the bounds

pub outside : (flags : List ℕ) (row low end i : ℕ) → Inside flags row low end → i < 2048 → ((low ≤ i) → (i < end) → ⊥) → flag_at flags row i ≡ 0
outside flags row low end i w l h = by_cases (ℕ_discrete (flag_at flags row i) 0) (λ e. e) (λ d. let q = w i l d in absurd (h q.0 q.1))

module _ (flags : List ℕ) (row t end : ℕ) (w : Inside flags row t end) where
  -- a place without a flag is passed
  pub inside_past : flag_at flags row t ≡ 0 → Inside flags row (t + 1) end
  inside_past e i l f = let q = w i l f in
      (by_cases (ℕ_discrete i t) (λ d. absurd (f (subst (λ j. flag_at flags row j ≡ 0) (sym d) e))) (λ d. omega arith), q.1)

  -- so is one that loses its flag
  pub inside_clear : row * 2048 + t < length flags → Inside (set flags (row * 2048 + t) 0) row (t + 1) end
  inside_clear l i k f =
      by_cases (ℕ_discrete i t) (λ d. absurd (f (subst (λ j. flag_at (set flags (row * 2048 + t) 0) row j ≡ 0) (sym d) (get_or-set_same flags (row * 2048 + t) 0 0 l))))
      (λ d. let q = w i k (λ e. f (get_or-set_other flags (row * 2048 + t) (row * 2048 + i) 0 0 (λ x. d (omega arith)) ∙ e)) in (omega arith, q.1))

-- ---- a flag less, or another key for it

pub flag_cleared : (flags : List ℕ) (i j : ℕ) → j ≡ i → get_or (set flags i 0) j 0 ≡ 0
flag_cleared flags i j e = by_cases (dec_lt i (length flags)) (λ k. ap (λ j. get_or (set flags i 0) j 0) e ∙ get_or-set_same flags i 0 0 k)
    (λ k. get_or-eq_default (set flags i 0) 0 (let q : length (set flags i 0) ≡ length flags = simp length-set in omega arith))

module _ (flags : List ℕ) (row t v : ℕ) (a : row ≤ 16) (l : t < 2048) (o : flag_at flags row t ≡ 0 → v ≡ 0) where
  abbrev other : List ℕ
  other = set flags (row * 2048 + t) v

  less_flags : (r i : ℕ) → flag_at flags r i ≡ 0 → flag_at other r i ≡ 0
  less_flags r i e = by_cases (ℕ_discrete (r * 2048 + i) (row * 2048 + t))
      (λ d. subst (λ x. get_or (set flags (row * 2048 + t) x) (r * 2048 + i) 0 ≡ 0) (sym (o (ap (λ j. get_or flags j 0) (sym d) ∙ e))) (flag_cleared flags (row * 2048 + t) (r * 2048 + i) d))
      (λ d. get_or-set_other flags (row * 2048 + t) (r * 2048 + i) v 0 d ∙ e)

  bounds_same : (j : ℕ) → lowests ≤ j → get_or other j 0 ≡ get_or flags j 0
  bounds_same j h = get_or-set_other flags (row * 2048 + t) j v 0 (λ e. omega arith)

  pub rows_set : (m : ℕ) → Rows m flags → Rows m other
  rows_set = rows_with flags other (simp length-set) (λ r i x y. less_flags r i) (λ j x y. bounds_same j x)

  pub inside_set : (low end : ℕ) → Inside flags row low end → Inside other row low end
  inside_set low end w i k f = w i k (λ e. f (less_flags row i e))

-- ---- a flag more, and bounds that hold it

module _ (flags : List ℕ) (row i v x y : ℕ) (hr : row ≤ 16) (hi : i < 2048) (long : length flags ≡ all_flags) (pos : 0 < v) where
  abbrev one : List ℕ
  one = set flags (row * 2048 + i) v

  abbrev after : List ℕ
  after = set (set one (lowests + row) x) (highests + row) y

  flags_one : (r j : ℕ) → r ≤ 16 → j < 2048 → flag_at after r j ≡ flag_at one r j
  flags_one r j a b = get_or-set_other (set one (lowests + row) x) (highests + row) (r * 2048 + j) y 0 (λ e. omega arith) ∙ get_or-set_other one (lowests + row) (r * 2048 + j) x 0 (λ e. omega arith)

  pub flag_there : flag_at after row i ≡ v
  flag_there = flags_one row i hr hi ∙ get_or-set_same flags (row * 2048 + i) v 0 (omega arith)

  pub flag_set : flag_at after row i ≢ 0
  flag_set e = omega (arith, flag_there)

  flags_other : (r j : ℕ) → r ≤ 16 → j < 2048 → r * 2048 + j ≢ row * 2048 + i → flag_at after r j ≡ flag_at flags r j
  flags_other r j a b d = flags_one r j a b ∙ get_or-set_other flags (row * 2048 + i) (r * 2048 + j) v 0 d

  lowest_here : lowest after row ≡ x
  lowest_here = get_or-set_other (set one (lowests + row) x) (highests + row) (lowests + row) y 0 (λ e. omega arith) ∙ get_or-set_same one (lowests + row) x 0 (let q : length one ≡ length flags = simp length-set in omega arith)

  highest_here : highest after row ≡ y
  highest_here = get_or-set_same (set one (lowests + row) x) (highests + row) y 0 (let q : length (set one (lowests + row) x) ≡ length flags = simp length-set in omega arith)

  lowest_other : (r : ℕ) → r ≤ 16 → r ≢ row → lowest after r ≡ lowest flags r
  lowest_other r a d = get_or-set_other (set one (lowests + row) x) (highests + row) (lowests + r) y 0 (λ e. omega arith) ∙ get_or-set_other one (lowests + row) (lowests + r) x 0 (λ e. d (omega arith)) ∙ get_or-set_other flags (row * 2048 + i) (lowests + r) v 0 (λ e. omega arith)

  highest_other : (r : ℕ) → r ≤ 16 → r ≢ row → highest after r ≡ highest flags r
  highest_other r a d = get_or-set_other (set one (lowests + row) x) (highests + row) (highests + r) y 0 (λ e. d (omega arith)) ∙ get_or-set_other one (lowests + row) (highests + r) x 0 (λ e. omega arith) ∙ get_or-set_other flags (row * 2048 + i) (highests + r) v 0 (λ e. omega arith)

  most_same : (j : ℕ) → most after j ≡ most flags j
  most_same j = get_or-set_other (set one (lowests + row) x) (highests + row) (mosts + j) y 0 (λ e. omega arith) ∙ get_or-set_other one (lowests + row) (mosts + j) x 0 (λ e. omega arith) ∙ get_or-set_other flags (row * 2048 + i) (mosts + j) v 0 (λ e. omega arith)

  next_same : (j : ℕ) → next after j ≡ next flags j
  next_same j = get_or-set_other (set one (lowests + row) x) (highests + row) (nexts + j) y 0 (λ e. omega arith) ∙ get_or-set_other one (lowests + row) (nexts + j) x 0 (λ e. omega arith) ∙ get_or-set_other flags (row * 2048 + i) (nexts + j) v 0 (λ e. omega arith)

  module _ (xi : x ≤ i) (xl : x ≤ lowest flags row) (iy : i + 1 ≤ y) (hy : highest flags row ≤ y) (o : (y ≡ i + 1) ⊎ (y ≡ highest flags row)) (less : flag_at flags row i ≢ 0 → v ≤ flag_at flags row i) where
    flag_rows : (m : ℕ) → (1 ≤ row → row ≤ 8 → i + 1 ≤ m) → Rows m flags → Rows m after
    flag_rows m h w = record {
      long = simp length-set w.long;
      inside = λ r a b j l f. by_cases (ℕ_discrete r row)
          (λ d. subst (λ s. (lowest after s ≤ j) × (j < highest after s)) (sym d) (here j l (subst (λ s. flag_at after s j ≢ 0) d f) (subst (λ s. 1 ≤ s) d a)))
          (λ d. let q = w.inside r a b j l (λ e. f (flags_other r j b l (apart r row j i l hi d) ∙ e)) in
          (omega (arith, q.0, lowest_other r b d), omega (arith, q.1, highest_other r b d)));
      high = λ r a b. by_cases (ℕ_discrete r row)
          (λ d. subst (λ s. highest after s ≤ 2048) (sym d) (⊎_elim (λ e. omega (arith, highest_here)) (λ e. omega (arith, highest_here, w.high row (subst (λ s. 1 ≤ s) d a) hr)) o))
          (λ d. omega (arith, w.high r a b, highest_other r b d));
      few = λ r a b. by_cases (ℕ_discrete r row)
          (λ d. subst (λ s. highest after s ≤ m) (sym d) (low (subst (λ s. 1 ≤ s) d a) (subst (λ s. s ≤ 8) d b)))
          (λ d. omega (arith, w.few r a b, highest_other r (omega arith) d));
    }
      where
        here : (j : ℕ) → j < 2048 → flag_at after row j ≢ 0 → 1 ≤ row → (lowest after row ≤ j) × (j < highest after row)
        here j l f a = by_cases (ℕ_discrete j i)
            (λ d. (omega (arith, lowest_here), omega (arith, highest_here)))
            (λ d. let q = w.inside row a hr j l (λ e. f (flags_other row j hr l (λ z. d (omega arith)) ∙ e)) in
            (omega (arith, q.0, lowest_here), omega (arith, q.1, highest_here)))

        low : 1 ≤ row → row ≤ 8 → highest after row ≤ m
        low a b = ⊎_elim (λ e. omega (arith, highest_here, h a b)) (λ e. omega (arith, highest_here, w.few row a b)) o

    pub flag_raising : Raising flags after row (i + 1)
    flag_raising = record {
      long = simp length-set;
      grown = λ r j a b e. by_cases (ℕ_discrete (r * 2048 + j) (row * 2048 + i))
          (λ d. absurd (flag_set (ap (λ k. get_or after k 0) (sym d) ∙ e)))
          (λ d. sym (flags_other r j a b d) ∙ e);
      lower = λ r j a b f. by_cases (ℕ_discrete (r * 2048 + j) (row * 2048 + i))
          (λ d. let q : get_or after (r * 2048 + j) 0 ≡ v = ap (λ k. get_or after k 0) d ∙ flag_there in
          let w : get_or flags (r * 2048 + j) 0 ≡ get_or flags (row * 2048 + i) 0 = ap (λ k. get_or flags k 0) d in
          let z = less (λ e. f (w ∙ e)) in omega (arith, q, w, z))
          (λ d. omega (arith, flags_other r j a b d));
      frame = λ r j a b d. flags_other r j a b (apart r row j i b hi d);
      rows = flag_rows;
      more = λ j l. omega (arith, most_same j);
      rest = λ j l. next_same j;
    }

pub raising_none : (flags : List ℕ) (row top : ℕ) → Raising flags flags row top
raising_none flags row top = record { long = refl; grown = λ r i a b e. e; lower = λ r i a b f. omega arith; frame = λ r i a b d. refl; rows = λ m h w. w; more = λ i l. omega arith; rest = λ i l. refl }

pub raising_more : (one two three : List ℕ) (row x y z : ℕ) → x ≤ z → y ≤ z → Raising one two row x → Raising two three row y → Raising one three row z
raising_more one two three row x y z a b p q = record {
  long = q.long ∙ p.long;
  grown = λ r i c d e. p.grown r i c d (q.grown r i c d e);
  lower = λ r i c d f. let s = p.lower r i c d f in let t = q.lower r i c d (λ e. f (p.grown r i c d e)) in omega arith;
  frame = λ r i c d e. q.frame r i c d e ∙ p.frame r i c d e;
  rows = λ m h w. q.rows m (λ c d. let k = h c d in omega arith) (p.rows m (λ c d. let k = h c d in omega arith) w);
  more = λ i l. let s = p.more i l in let t = q.more i l in omega arith;
  rest = λ i l. q.rest i l ∙ p.rest i l;
}

-- those that were set stay
pub raising_flagged : (flags flags' : List ℕ) (row top : ℕ) → Raising flags flags' row top → (r i k : ℕ) → r ≤ 16 → i < 2048 → Flagged flags r i k → Flagged flags' r i k
raising_flagged flags flags' row top g r i k a b f = ((λ e. f.0 (g.grown r i a b e)), (let l = g.lower r i a b f.0 in omega (arith, f.1)))

pub raising_below : (flags flags' : List ℕ) (row top : ℕ) → Raising flags flags' row top → (r i k : ℕ) → r ≤ 16 → i < 2048 → Covered flags r i k → Covered flags' r i k
raising_below flags flags' row top g r i k a b f = (raising_flagged flags flags' row top g r i k a b f.0, λ e. (let x = f.1 e in let y = g.more i b in omega arith))

pub raising_keeps : (flags flags' : List ℕ) (row top : ℕ) → Raising flags flags' row top → (r i : ℕ) → r ≤ 16 → i < 2048 → flag_at flags r i ≢ 0 → flag_at flags' r i ≢ 0
raising_keeps flags flags' row top g r i a b f e = f (g.grown r i a b e)

-- ---- a greater partner

module _ (flags : List ℕ) (t v : ℕ) (l : t < 2048) (long : length flags ≡ all_flags) (h : most flags t ≤ v) where
  abbrev raised : List ℕ
  raised = set flags (mosts + t) v

  below_same : (j : ℕ) → j < mosts → get_or raised j 0 ≡ get_or flags j 0
  below_same j k = get_or-set_other flags (mosts + t) j v 0 (λ e. omega arith)

  pub most_there : most raised t ≡ v
  most_there = get_or-set_same flags (mosts + t) v 0 (omega arith)

  pub most_raising : (row top : ℕ) → Raising flags raised row top
  most_raising row top = record {
    long = simp length-set;
    grown = λ r i a b e. sym (below_same (r * 2048 + i) (omega arith)) ∙ e;
    lower = λ r i a b f. omega (arith, below_same (r * 2048 + i) (omega arith));
    frame = λ r i a b d. below_same (r * 2048 + i) (omega arith);
    rows = λ m z w. rows_with flags raised (simp length-set) (λ r i a b e. below_same (r * 2048 + i) (omega arith) ∙ e) (λ j a b. below_same j b) m w;
    more = λ i k. by_cases (ℕ_discrete i t) (λ d. subst (λ j. most flags j ≤ most raised j) (sym d) (omega (arith, most_there))) (λ d. omega (arith, get_or-set_other flags (mosts + t) (mosts + i) v 0 (λ e. d (omega arith))));
    rest = λ i k. get_or-set_other flags (mosts + t) (nexts + i) v 0 (λ e. omega arith);
  }

-- ---- bounds drawn closer

module _ (flags : List ℕ) (row x y : ℕ) (hr : row ≤ 16) (long : length flags ≡ all_flags) where
  abbrev drawn : List ℕ
  drawn = set (set flags (lowests + row) x) (highests + row) y

  drawn_same : (r i : ℕ) → r ≤ 16 → i < 2048 → flag_at drawn r i ≡ flag_at flags r i
  drawn_same r i a b = get_or-set_other (set flags (lowests + row) x) (highests + row) (r * 2048 + i) y 0 (λ e. omega arith) ∙ get_or-set_other flags (lowests + row) (r * 2048 + i) x 0 (λ e. omega arith)

  drawn_lowest : lowest drawn row ≡ x
  drawn_lowest = get_or-set_other (set flags (lowests + row) x) (highests + row) (lowests + row) y 0 (λ e. omega arith) ∙ get_or-set_same flags (lowests + row) x 0 (omega arith)

  drawn_highest : highest drawn row ≡ y
  drawn_highest = get_or-set_same (set flags (lowests + row) x) (highests + row) y 0 (let q : length (set flags (lowests + row) x) ≡ length flags = simp length-set in omega arith)

  drawn_other : (j : ℕ) → j ≢ lowests + row → j ≢ highests + row → get_or drawn j 0 ≡ get_or flags j 0
  drawn_other j a b = get_or-set_other (set flags (lowests + row) x) (highests + row) j y 0 b ∙ get_or-set_other flags (lowests + row) j x 0 a

  drawn_rows : (m : ℕ) → Rows m flags → Inside flags row x y → y ≤ 2048 → (row ≤ 8 → y ≤ m) → Rows m drawn
  drawn_rows m w n h k = record {
    long = simp length-set w.long;
    inside = λ r a b i l f. by_cases (ℕ_discrete r row)
        (λ d. subst (λ s. (lowest drawn s ≤ i) × (i < highest drawn s)) (sym d)
        (let q = n i l (λ e. f (subst (λ s. flag_at drawn s i ≡ 0) (sym d) (drawn_same row i hr l ∙ e))) in (omega (arith, q.0, drawn_lowest), omega (arith, q.1, drawn_highest))))
        (λ d. let q = w.inside r a b i l (λ e. f (drawn_same r i b l ∙ e)) in
        (omega (arith, q.0, drawn_other (lowests + r) (λ z. d (omega arith)) (λ z. omega arith)), omega (arith, q.1, drawn_other (highests + r) (λ z. omega arith) (λ z. d (omega arith)))));
    high = λ r a b. by_cases (ℕ_discrete r row) (λ d. subst (λ s. highest drawn s ≤ 2048) (sym d) (omega (arith, drawn_highest, h)))
        (λ d. omega (arith, w.high r a b, drawn_other (highests + r) (λ z. omega arith) (λ z. d (omega arith))));
    few = λ r a b. by_cases (ℕ_discrete r row) (λ d. subst (λ s. highest drawn s ≤ m) (sym d) (omega (arith, drawn_highest, k (subst (λ s. s ≤ 8) d b))))
        (λ d. omega (arith, w.few r a b, drawn_other (highests + r) (λ z. omega arith) (λ z. d (omega arith))));
  }

  pub drawn_closer : Fenced flags drawn row x y
  drawn_closer = record { long = simp length-set; same = drawn_same; rows = drawn_rows; more = λ i l. omega (arith, drawn_other (mosts + i) (λ e. omega arith) (λ e. omega arith)); rest = λ i l. drawn_other (nexts + i) (λ e. omega arith) (λ e. omega arith) }

-- an empty row
pub drawn_empty : (flags : List ℕ) (row low end : ℕ) → row ≤ 16 → length flags ≡ all_flags → end ≤ low → Fenced flags (set (set flags (lowests + row) 2048) (highests + row) 0) row low end
drawn_empty flags row low end a l h =
    let f = drawn_closer flags row 2048 0 a l in
    record { long = f.long; same = f.same; rows = λ m w n e g. f.rows m w (λ i k q. let z = n i k q in absurd (omega arith)) (omega arith) (λ _. omega arith); more = f.more; rest = f.rest }
