-- Setting one mark changes one clause: the first word's deletes it, a body literal's drops the atom. So clearing the mark of a step of kinds 1 to 8 is the
-- step's effect on the program, and one more mark at 0; kind 9 clears more than one.
use mathlib.Core.Path.{◌≡◌, refl, sym, ap, subst, ◌∙◌}
use mathlib.Core.Logic.{◌≢◌, ◌⊎◌, inl, inr, by_cases}
use mathlib.Core.Bool.{Bool, true, false, cond, So, false≢true}
use mathlib.Core.List.Memᴰ
use mathlib.Core.List.{List, [], ◌∷◌}
use Prim.Native.Nat.{ℕ, zero, suc, ◌+◌, ◌≤◌, ◌<◌}
use native.Mathlib.Omega.{arith}
use native.Mathlib.Decide.{ℕ_discrete, dec_lt}
use lib.Dec.{eqb}
use lib.ListN.{length, get_or, set, take, length-set, length-take}
use lib.Seq.{get_or-set_same, get_or-set_other, take-set-lt, get_or-take}
use borrow.Author.Tests.{eqb-true, eqb-false, eq-eqb, ne_eqb}
use Rattle.semantics.specs.Lists.{◌∈◌, count, bit, without}
use Rattle.semantics.proofs.Tests.{and_iff, without_none, so_dec, so_false}
use Rattle.rewriting.specs.Marked.{Entry, entry, left, deleted}
use Rattle.rewriting.specs.Steps.{Step, condition, applies, drop_pos, drop_neg, left_by, effect}
use Rattle.rewriting.specs.Runs.{accepted, leaves, without_nine}
use Rattle.rewriting.specs.Kinds.{Deed, deletes, drops_pos, drops_neg, removes, at_target, row_of, on_target}
use Rattle.rewriting.proofs.Left.{kept_lt}
use Rattle.rewriting.proofs.Rows.{There, drops_there, not_on_target}
use Rattle.rewriting.proofs.Effect.{effect_on, effect_off}
use Rattle.rewriting.proofs.Measure.{removal_less}
use Rattle.rewriting.proofs.Sound.{applies_ask}
use Rattle.table.specs.Questions.{Passed}
use Rattle.table.specs.Places.{head_at, pos_at, neg_at, next_at, start_from, start_of}
use Rattle.table.specs.View.{part, entry_at, entries_from, view, zeros}
use Rattle.table.specs.Effects.{find, cleared_by, clears, marks_after, marks_after_all}
use Rattle.table.specs.Clearing.{marks_without}
use Rattle.table.proofs.Places.{Rises, Good, passed_good}
use Rattle.table.proofs.Clearing.{view_without}
use Rattle.table.proofs.Cleared.{length_without_marks, zeros_without}

-- ---- one mark, one clause

part_other : (w k : List ℕ) (j v o len : ℕ) → (j < o) ⊎ (o + len ≤ j) → part w (set k j v) o len ≡ part w k o len
unfolding part
part_other w k j v o zero h = refl
part_other w k j v o (suc len) (inl h) = rw (get_or-set_other k j o v 0 (λ e. omega arith), part_other w k j v (suc o) len (inl (omega arith)))
part_other w k j v o (suc len) (inr h) = rw (get_or-set_other k j o v 0 (λ e. omega arith), part_other w k j v (suc o) len (inr (omega arith)))

entry_at_other : (w k : List ℕ) (j v o : ℕ) → (j < o) ⊎ (next_at w o ≤ j) → entry_at w (set k j v) o ≡ entry_at w k o
unfolding entry_at
entry_at_other w k j v o (inl h) = rw (get_or-set_other k j o v 0 (λ e. omega arith), part_other w k j v (o + 3) (get_or w o 0) (inl (omega arith)), part_other w k j v (pos_at w o) (get_or w (o + 1) 0) (inl (omega arith)), part_other w k j v (neg_at w o) (get_or w (o + 2) 0) (inl (omega arith)))
entry_at_other w k j v o (inr h) = rw (get_or-set_other k j o v 0 (λ e. omega arith), part_other w k j v (o + 3) (get_or w o 0) (inr (omega arith)), part_other w k j v (pos_at w o) (get_or w (o + 1) 0) (inr (omega arith)), part_other w k j v (neg_at w o) (get_or w (o + 2) 0) (inr (omega arith)))

entries_from_after : (w k : List ℕ) (j v m o : ℕ) → j < o → entries_from w (set k j v) m o ≡ entries_from w k m o
unfolding entries_from
entries_from_after w k j v zero o h = refl
entries_from_after w k j v (suc m) o h = rw (entry_at_other w k j v o (inl h), entries_from_after w k j v m (next_at w o) (omega arith))

pub start_le : (w : List ℕ) (o t : ℕ) → o ≤ start_from w o t
unfolding start_from
start_le w o zero = omega arith
start_le w o (suc t) = omega (arith, start_le w (next_at w o) t)

-- a mark within clause t changes that clause alone
pub entries_from_set : (w k : List ℕ) (j v m o t : ℕ) → start_from w o t ≤ j → j < next_at w (start_from w o t) → t < m
    → entries_from w (set k j v) m o ≡ set (entries_from w k m o) t (entry_at w (set k j v) (start_from w o t))
unfolding entries_from start_from
entries_from_set w k j v zero o t a b h = absurd (omega arith)
entries_from_set w k j v (suc m) o zero a b h = rw (entries_from_after w k j v m (next_at w o) b)
entries_from_set w k j v (suc m) o (suc t) a b h = rw (entry_at_other w k j v o (inr (omega (arith, start_le w (next_at w o) t))), entries_from_set w k j v m (next_at w o) t a b (omega arith))

-- a word of the part that is left, and where it stands
pub part_mem : (w k : List ℕ) (o len a : ℕ) → a ∈ part w k o len → (j : ℕ) × (o ≤ j) × (j < o + len) × (get_or w j 0 ≡ a) × (get_or k j 0 ≡ 1)
unfolding part
part_mem w k o zero a m = absurd (Memᴰ.not-nil m)
part_mem w k o (suc len) a m = go (eqb (get_or k o 0) 1) refl (λ q. let r = part_mem w k (suc o) len a q in (r.0, omega arith, omega arith, r.3, r.4)) m
  where
    go : (t : Bool) → eqb (get_or k o 0) 1 ≡ t → (a ∈ part w k (suc o) len → (j : ℕ) × (o ≤ j) × (j < o + suc len) × (get_or w j 0 ≡ a) × (get_or k j 0 ≡ 1))
        → a ∈ cond t (get_or w o 0 ∷ part w k (suc o) len) (part w k (suc o) len) → (j : ℕ) × (o ≤ j) × (j < o + suc len) × (get_or w j 0 ≡ a) × (get_or k j 0 ≡ 1)
    go true h f (Memᴰ.head e) = (o, omega arith, omega arith, sym e, eqb-true _ _ h)
    go true h f (Memᴰ.tail q) = f q
    go false h f q = f q

-- to clear the mark of a word of the part is to take the word out
pub part_drop : (w k : List ℕ) (j o len : ℕ) → o ≤ j → j < o + len → j < length k → Rises w o len → part w (set k j 0) o len ≡ without (get_or w j 0) (part w k o len)
unfolding part
part_drop w k j o zero a b l r = absurd (omega arith)
part_drop w k j o (suc len) a b l r =
    by_cases (ℕ_discrete j o) here (there (λ h. part_drop w k j (suc o) len h (omega arith) l (λ i j a b c. r i j (omega arith) b (omega arith))))
  where
    rest : List ℕ
    rest = part w k (suc o) len

    fresh : ¬ (get_or w o 0 ∈ rest)
    fresh m = let q = part_mem w k (suc o) len (get_or w o 0) m in let h = r o q.0 (omega arith) q.1 (omega arith) in omega arith

    taken : (t : Bool) → rest ≡ without (get_or w o 0) (cond t (get_or w o 0 ∷ rest) rest)
    taken true = rw (eq-eqb _ _ refl, without_none (get_or w o 0) rest fresh)
    taken false = sym (without_none (get_or w o 0) rest fresh)

    here : j ≡ o → part w (set k j 0) o (suc len) ≡ without (get_or w j 0) (part w k o (suc len))
    here e = rw (e, get_or-set_same k o 0 0 (omega arith)) (part_other w k j 0 (suc o) len (inl (omega arith)) ∙ taken (eqb (get_or k o 0) 1))

    passed : o < j → (t : Bool) → cond t (get_or w o 0 ∷ without (get_or w j 0) rest) (without (get_or w j 0) rest) ≡ without (get_or w j 0) (cond t (get_or w o 0 ∷ rest) rest)
    passed h true = rw (ne_eqb (get_or w j 0) (get_or w o 0) (λ e. let q = r o j (omega arith) h b in omega arith))
    passed h false = refl

    there : (suc o ≤ j → part w (set k j 0) (suc o) len ≡ without (get_or w j 0) rest) → j ≢ o → part w (set k j 0) o (suc len) ≡ without (get_or w j 0) (part w k o (suc len))
    there f e = rw (get_or-set_other _ _ _ _ _ (λ q. e (sym q)), f (omega arith)) (passed (omega arith) (eqb (get_or k o 0) 1))

pub entry_at_lem : (w k : List ℕ) (m o t : ℕ) → t < m → entry (entries_from w k m o) t ≡ entry_at w k (start_from w o t)
unfolding entries_from start_from
entry_at_lem w k zero o t h = absurd (omega arith)
entry_at_lem w k (suc m) o zero h = refl
entry_at_lem w k (suc m) o (suc t) h = entry_at_lem w k m (next_at w o) t (omega arith)

pub length_entries : (w k : List ℕ) (m o : ℕ) → length (entries_from w k m o) ≡ m
unfolding entries_from
length_entries w k zero o = refl
length_entries w k (suc m) o = ap suc (length_entries w k m (next_at w o))

find_is : (w : List ℕ) (a o len j : ℕ) → o ≤ j → j < o + len → get_or w j 0 ≡ a → (o ≤ find w a o len) × (find w a o len < o + len) × (get_or w (find w a o len) 0 ≡ a)
unfolding find
find_is w a o zero j p q e = absurd (omega arith)
find_is w a o (suc len) j p q e = go (eqb (get_or w o 0) a) refl (λ d. find_is w a (suc o) len j (omega arith) (omega arith) e)
  where
    go : (t : Bool) → eqb (get_or w o 0) a ≡ t → (o ≢ j → (suc o ≤ find w a (suc o) len) × (find w a (suc o) len < suc o + len) × (get_or w (find w a (suc o) len) 0 ≡ a))
        → (o ≤ cond t o (find w a (suc o) len)) × (cond t o (find w a (suc o) len) < o + suc len) × (get_or w (cond t o (find w a (suc o) len)) 0 ≡ a)
    go true h f = (omega arith, omega arith, eqb-true _ _ h)
    go false h f = let r = f (λ d. eqb-false (get_or w o 0) a h (rw d e)) in (omega arith, omega arith, r.2)

pub count_set : (f : ℕ → Bool) (l : List ℕ) (j v : ℕ) → j < length l → count f (set l j v) + bit (f (get_or l j 0)) ≡ count f l + bit (f v)
count_set f [] j v h = absurd (omega arith)
count_set f (x ∷ l) zero v h = omega arith
count_set f (x ∷ l) (suc j) v h = omega (arith, count_set f l j v (omega arith))

zeros_set : (w k : List ℕ) (j : ℕ) → j < length w → length w ≤ length k → get_or k j 0 ≡ 1 → zeros w (set k j 0) ≡ suc (zeros w k)
unfolding zeros
zeros_set w k j a b e =
    let l : j < length (take (length w) k) = simp length-take (omega arith) in
    rw (take-set-lt (length w) k j 0 a) (omega (arith, rw (get_or-take (length w) k j 0 a, e) at (count_set (λ x. eqb x 0) (take (length w) k) j 0 l)))

-- a word stands once in its part
rising_one : (w : List ℕ) (o len i j : ℕ) → Rises w o len → o ≤ i → i < o + len → o ≤ j → j < o + len → get_or w i 0 ≡ get_or w j 0 → i ≡ j
rising_one w o len i j r a b c d e = by_cases (dec_lt i j) (λ h. let x = r i j a h d in absurd (omega arith))
    (λ h. by_cases (dec_lt j i) (λ k. let x = r j i c k b in absurd (omega arith)) (λ k. omega arith))

-- ---- the mark of a step

-- clearing the mark of a part's atom takes the atom out of the part
part_cleared : (w k : List ℕ) (o len b : ℕ) → o + len ≤ length k → Rises w o len → b ∈ part w k o len
    → let j = find w b o len in (o ≤ j) × (j < o + len) × (part w (set k j 0) o len ≡ without b (part w k o len)) × (get_or k j 0 ≡ 1)
part_cleared w k o len b l r m =
    let q = part_mem w k o len b m in
    let f = find_is w b o len q.0 q.1 q.2 q.3 in
    let j = find w b o len in (
      f.0,
      f.1,
      part_drop w k j o len f.0 f.1 (omega arith) r ∙ ap (λ x. without x (part w k o len)) f.2,
      rw (rising_one w o len j q.0 r f.0 f.1 q.1 q.2 (f.2 ∙ sym q.3)) q.4,
    )

module _ (w k : List ℕ) (n o : ℕ) (g : Good w n o) (long : length w ≤ length k) (kept : So (entry_at w k o).kept) where
  -- the clause at o after its mark at j is cleared, which was 1
  abbrev Cleared : ℕ → Entry → Type 0
  Cleared j e = (o ≤ j) × (j < next_at w o) × (entry_at w (set k j 0) o ≡ e) × (get_or k j 0 ≡ 1)

  cleared_first : Cleared o (deleted (entry_at w k o).clause)
  unfolding entry_at
  cleared_first = (
    omega arith,
    omega arith,
    rw (get_or-set_same k o 0 0 (omega (arith, g.fits)), part_other w k o 0 (head_at o) (get_or w o 0) (inl (omega arith)), part_other w k o 0 (pos_at w o) (get_or w (o + 1) 0) (inl (omega arith)), part_other w k o 0 (neg_at w o) (get_or w (o + 2) 0) (inl (omega arith))),
    eqb-true _ _ kept,
  )

  cleared_pos : (b : ℕ) → b ∈ (entry_at w k o).clause.pos → Cleared (find w b (pos_at w o) (get_or w (o + 1) 0)) (drop_pos b (entry_at w k o).clause)
  unfolding entry_at
  cleared_pos b m =
      let (x, y, z, v) = part_cleared w k (pos_at w o) (get_or w (o + 1) 0) b (omega (arith, g.fits)) g.pos_rises m in
      let j = find w b (pos_at w o) (get_or w (o + 1) 0) in (
        omega arith,
        omega arith,
        rw (get_or-set_other k j o 0 0 (λ e. omega arith), kept, part_other w k j 0 (head_at o) (get_or w o 0) (inr x), z, part_other w k j 0 (neg_at w o) (get_or w (o + 2) 0) (inl y)),
        v,
      )

  cleared_neg : (b : ℕ) → b ∈ (entry_at w k o).clause.neg → Cleared (find w b (neg_at w o) (get_or w (o + 2) 0)) (drop_neg b (entry_at w k o).clause)
  unfolding entry_at
  cleared_neg b m =
      let (x, y, z, v) = part_cleared w k (neg_at w o) (get_or w (o + 2) 0) b (omega (arith, g.fits)) g.neg_rises m in
      let j = find w b (neg_at w o) (get_or w (o + 2) 0) in (
        omega arith,
        omega arith,
        rw (get_or-set_other k j o 0 0 (λ e. omega arith), kept, part_other w k j 0 (head_at o) (get_or w o 0) (inr (omega arith)), part_other w k j 0 (pos_at w o) (get_or w (o + 1) 0) (inr x), z),
        v,
      )

  cleared : (x : Deed) (b : ℕ) → So (at_target x) → There x b (entry_at w k o).clause → Cleared (cleared_by w x o b) (left_by x b (entry_at w k o).clause)
  cleared deletes b q m = cleared_first
  cleared drops_pos b q m = cleared_pos b m
  cleared drops_neg b q m = cleared_neg b m
  cleared removes b q m = absurd (false≢true q)

-- ---- a step on the marks

pub entry_view : (w k : List ℕ) (t : ℕ) → t < get_or w 1 0 → entry (view w k) t ≡ entry_at w k (start_of w t)
unfolding view
entry_view w k t h = entry_at_lem w k (get_or w 1 0) 2 t h

pub length_view : (w k : List ℕ) → length (view w k) ≡ get_or w 1 0
unfolding view
length_view w k = length_entries w k (get_or w 1 0) 2

pub after_on : (w k : List ℕ) (s : Step) → So (on_target s.kind) → marks_after w k s ≡ set k (clears w s) 0
unfolding marks_after
after_on w k s q = rw q

pub after_off : (w k : List ℕ) (s : Step) → on_target s.kind ≡ false → marks_after w k s ≡ marks_without w k s.atom
unfolding marks_after
after_off w k s q = rw q

module _ (w k : List ℕ) (p : Passed w) (long : length w ≤ length k) where
  -- the step's target, and its mark before and after
  pub at_step_lem : (n : ℕ) (s : Step) → So (on_target s.kind) → So (applies n (view w k) s)
      → let o = start_of w s.target in
      (s.target < get_or w 1 0) × (entry (view w k) s.target ≡ entry_at w k o) × (o ≤ clears w s) × (clears w s < next_at w o)
      × (entry_at w (set k (clears w s) 0) o ≡ left_by (row_of s.kind).deed s.atom (entry_at w k o).clause) × (get_or k (clears w s) 0 ≡ 1)
  unfolding clears
  at_step_lem n s q h =
      let (x, y, z) = applies_ask n (view w k) s h in
      let t = s.target in
      let d = (entry (view w k) s.partner).clause in
      let l : t < get_or w 1 0 = omega (arith, kept_lt (view w k) t x, length_view w k) in
      let e = entry_view w k t l in
      let r = cleared w k (get_or w 0 0) (start_of w t) (passed_good w p t l) long (subst (λ c. So c.kept) e x) (row_of s.kind).deed s.atom q
      (drops_there (left (view w k)) _ d s.atom s.kind (subst (λ c. So (condition s.kind (left (view w k)) c.clause d s.atom)) e z)) in
      (l, e, r.0, r.1, r.2, r.3)

  -- Clearing a step's mark is the step's effect on the program.
  view_cleared : (n : ℕ) (s : Step) → So (on_target s.kind) → So (applies n (view w k) s) → view w (set k (clears w s) 0) ≡ set (view w k) s.target (left_by (row_of s.kind).deed s.atom (entry (view w k) s.target).clause)
  unfolding view
  view_cleared n s q h =
      let (l, e, x, y, z, v) = at_step_lem n s q h in
      entries_from_set w k (clears w s) 0 (get_or w 1 0) 2 s.target x y l
      ∙ ap (λ c. set (view w k) s.target c) (z ∙ ap (λ c. left_by (row_of s.kind).deed s.atom c.clause) (sym e))

  -- and that of kind 9 too
  pub view_after : (n : ℕ) (s : Step) → So (applies n (view w k) s) → view w (marks_after w k s) ≡ effect (view w k) s
  view_after n s h = by_cases (so_dec (on_target s.kind))
      (λ q. ap (view w) (after_on w k s q) ∙ view_cleared n s q h ∙ sym (effect_on (view w k) s q))
      (λ q. let o = so_false _ q in ap (view w) (after_off w k s o) ∙ view_without w k s.atom p long ∙ sym (effect_off (view w k) s o))

  -- The mark was 1, so the marks at 0 are one more;
  pub zeros_after : (n : ℕ) (s : Step) → So (on_target s.kind) → So (applies n (view w k) s) → zeros w (marks_after w k s) ≡ suc (zeros w k)
  zeros_after n s q h =
      let (l, e, x, y, z, v) = at_step_lem n s q h in
      ap (zeros w) (after_on w k s q) ∙ zeros_set w k (clears w s) (omega (arith, (passed_good w p s.target l).fits)) long v

  -- of kind 9 one or more.
  pub zeros_more : (n : ℕ) (s : Step) → So (applies n (view w k) s) → zeros w k < zeros w (marks_after w k s)
  zeros_more n s h = by_cases (so_dec (on_target s.kind))
      (λ q. omega (arith, zeros_after n s q h))
      (λ q. let o = so_false _ q in rw (after_off w k s o) (zeros_without w k s.atom p long (removal_less n (view w k) s (not_on_target s.kind o) h)))

  -- The mark is one of the table's.
  pub clears_lt : (n : ℕ) (s : Step) → So (on_target s.kind) → So (applies n (view w k) s) → clears w s < length w
  clears_lt n s q h = let (l, e, x, y, z, v) = at_step_lem n s q h in omega (arith, (passed_good w p s.target l).fits)

-- ---- a list of steps on the marks

pub length_after : (w k : List ℕ) (s : Step) → length (marks_after w k s) ≡ length k
length_after w k s = by_cases (so_dec (on_target s.kind)) (λ q. ap length (after_on w k s q) ∙ simp length-set) (λ q. ap length (after_off w k s (so_false _ q)) ∙ length_without_marks w k s.atom)

-- The marks after an accepted list leave what the list leaves, and each step has set at least one more to 0: exactly one, where kind 9 is not among the steps.
pub view_after_all : (n : ℕ) (w k : List ℕ) (l : List Step) → Passed w → length w ≤ length k → So (accepted n (view w k) l)
    → (view w (marks_after_all w k l) ≡ leaves n (view w k) l) × (length l + zeros w k ≤ zeros w (marks_after_all w k l)) × (So (without_nine l) → zeros w (marks_after_all w k l) ≡ length l + zeros w k)
unfolding marks_after_all accepted leaves
view_after_all n w k [] p b h = (refl, omega arith, λ _. omega arith)
view_after_all n w k (s ∷ l) p b h =
    let v = (and_iff (applies n (view w k) s) _).0 h in
    let e = view_after w k p b n s v.0 in
    let r = view_after_all n w (marks_after w k s) l p (omega (arith, length_after w k s)) (rw e v.1) in (
      rw v.0 (r.0 ∙ ap (λ P. leaves n P l) e),
      omega (arith, zeros_more w k p b n s v.0, r.1),
      λ q. let o = (and_iff (on_target s.kind) (without_nine l)).0 q in omega (arith, zeros_after w k p b n s o.0 v.0, r.2 o.1),
    )
