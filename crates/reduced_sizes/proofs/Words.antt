-- Laws of the reduced table's words: one mark, one clause, all clauses.
use mathlib.Core.Path.{◌≡◌, refl, sym, ap, ap₂, ◌∙◌}
use mathlib.Core.Logic.{by_cases}
use mathlib.Core.Bool.{Bool, true, false, cond}
use mathlib.Core.List.{List, [], ◌∷◌, ◌++◌}
use Prim.Native.Nat.{ℕ, zero, suc, ◌+◌, ◌-◌, ◌≤◌, ◌<◌}
use native.Mathlib.Omega.{arith}
use native.Mathlib.Decide.{ℕ_discrete}
use native.Mathlib.Numerals.{add-one}
use lib.Dec.{eqb}
use lib.ListN.{length, get_or, take, drop, length-append}
use lib.Seq.{sets, drop-cons}
use Rattle.std.specs.List.{count_by}
use Rattle.std.proofs.lemmas.List.Sums.{sum_by-cons}
use borrow.Author.Tests.{eq-eqb, ne_eqb}
use Rattle.semantics.specs.Lists.{bit}
use Rattle.semantics.proofs.Tests.{bit_bound}
use Rattle.rewriting.specs.Marked.{Entry, Marked, left}
use Rattle.table.proofs.Slices.{sets_append}
use Rattle.table.specs.Encoding.{clause_words, clauses_words}
use Rattle.table.specs.Places.{head_at, next_at}
use Rattle.table.specs.View.{part, entry_at, entries_from}
use Rattle.table.proofs.Laws.{one_left}
use Rattle.reduced_sizes.specs.Parts.{kept_from, counts, entry_words}

-- ---- one mark

module _ (ws ms : List ℕ) (i e : ℕ) (h : i < e) where
  pub part_yes : get_or ms i 0 ≡ 1 → part ws ms i (e - i) ≡ get_or ws i 0 ∷ part ws ms (i + 1) (e - (i + 1))
  unfolding part
  part_yes q = rw (one_left i e h, eq-eqb _ _ q, add-one)

  pub part_no : (get_or ms i 0 ≡ 1 → ⊥) → part ws ms i (e - i) ≡ part ws ms (i + 1) (e - (i + 1))
  unfolding part
  part_no q = rw (one_left i e h, ne_eqb _ _ q, add-one)

pub part_end : (ws ms : List ℕ) (i e : ℕ) → e ≤ i → part ws ms i (e - i) ≡ []
unfolding part
part_end ws ms i e h = let z : e - i ≡ 0 = omega arith in rw z

pub length_part : (ws ms : List ℕ) (at k : ℕ) → length (part ws ms at k) ≡ kept_from ms at k
unfolding part kept_from
length_part ws ms at zero = refl
length_part ws ms at (suc k) = go (eqb (get_or ms at 0) 1) (length_part ws ms (suc at) k)
  where
    go : (t : Bool) → length (part ws ms (suc at) k) ≡ kept_from ms (suc at) k → length (cond t (get_or ws at 0 ∷ part ws ms (suc at) k) (part ws ms (suc at) k)) ≡ bit t + kept_from ms (suc at) k
    go true r = omega arith
    go false r = omega arith

-- the marks between two places, counted as a list
kept_slice : (ms : List ℕ) (at k : ℕ) → at + k ≤ length ms → count_by (λ m. eqb m 1) (take k (drop at ms)) ≡ kept_from ms at k
unfolding kept_from
kept_slice ms at zero h = refl
kept_slice ms at (suc k) h = rw (drop-cons ms at 0 (omega arith)) (sum_by-cons (λ m. cond (eqb m 1) 1 0) (get_or ms at 0) (take k (drop (suc at) ms)) ∙ ap₂ (λ a b. a + b) (one (eqb (get_or ms at 0) 1)) (kept_slice ms (suc at) k (omega arith)))
  where
    one : (t : Bool) → cond t 1 0 ≡ bit t
    one true = refl
    one false = refl

pub kept_between : (ms : List ℕ) (a b : ℕ) → a ≤ b → b ≤ length ms → count_by (λ m. eqb m 1) (take (b - a) (drop a ms)) ≡ kept_from ms a (b - a)
kept_between ms a b h l = kept_slice ms a (b - a) (omega arith)

pub kept_le : (ms : List ℕ) (at k : ℕ) → kept_from ms at k ≤ k
unfolding kept_from
kept_le ms at zero = omega arith
kept_le ms at (suc k) = omega (arith, bit_bound (eqb (get_or ms at 0) 1), kept_le ms (suc at) k)

pub part_append : (ws ms : List ℕ) (at j k : ℕ) → part ws ms at (j + k) ≡ part ws ms at j ++ part ws ms (at + j) k
unfolding part
part_append ws ms at zero k = let q : zero + k ≡ k = omega arith in let r : at + zero ≡ at = omega arith in rw (q, r)
part_append ws ms at (suc j) k =
    let q : suc j + k ≡ suc (j + k) = omega arith in
    let r : at + suc j ≡ suc at + j = omega arith in
    rw (q, r) (go (eqb (get_or ms at 0) 1) (part_append ws ms (suc at) j k))
  where
    go : (t : Bool) → part ws ms (suc at) (j + k) ≡ part ws ms (suc at) j ++ part ws ms (suc at + j) k
        → cond t (get_or ws at 0 ∷ part ws ms (suc at) (j + k)) (part ws ms (suc at) (j + k)) ≡ cond t (get_or ws at 0 ∷ part ws ms (suc at) j) (part ws ms (suc at) j) ++ part ws ms (suc at + j) k
    go true e = ap (λ l. get_or ws at 0 ∷ l) e
    go false e = e

-- the first of two runs is stored, and the second is to come
pub sets_next : (out o : List ℕ) (to t : ℕ) (vs xs ys rs : List ℕ) → vs ≡ xs ++ ys → t ≡ to + length xs → o ≡ sets out to xs → sets out to vs ≡ rs → sets o t ys ≡ rs
sets_next out o to t vs xs ys rs v e w h = rw (w, e) (sym (sets_append out to xs ys) ∙ ap (sets out to) (sym v) ∙ h)

-- ---- one clause

module _ (ws ms : List ℕ) (at : ℕ) where
  pub entry_gone : (get_or ms at 0 ≡ 1 → ⊥) → entry_words (entry_at ws ms at) ≡ []
  unfolding entry_words entry_at
  entry_gone q = rw (ne_eqb _ _ q)

  pub entry_kept : get_or ms at 0 ≡ 1 → entry_words (entry_at ws ms at) ≡ clause_words (entry_at ws ms at).clause
  unfolding entry_words entry_at
  entry_kept q = rw (eq-eqb _ _ q)

-- a part's marks at 1 are as many as its atoms that are left
pub part_count : (ws ms : List ℕ) (a b k : ℕ) → b ≡ a + k → b ≤ length ms → count_by (λ m. eqb m 1) (take (b - a) (drop a ms)) ≡ length (part ws ms a k)
part_count ws ms a b k e l =
    let q : b - a ≡ k = omega arith in
    kept_between ms a b (omega arith) l ∙ ap (kept_from ms a) q ∙ sym (length_part ws ms a k)

-- the counts and the rest of a clause, whose atoms are from a to d
pub clause_words_lem : (ws ms : List ℕ) (at a d : ℕ) → a ≡ head_at at → d ≡ next_at ws at
    → clause_words (entry_at ws ms at).clause ≡ counts (entry_at ws ms at).clause ++ part ws ms a (d - a)
unfolding entry_at
clause_words_lem ws ms at a d e h =
    let H = get_or ws at 0 in
    let P = get_or ws (at + 1) 0 in
    let Q = get_or ws (at + 2) 0 in
    let w : d - a ≡ H + (P + Q) = omega arith in
    rw (w, e, part_append ws ms (head_at at) H (P + Q), part_append ws ms (head_at at + H) P Q)

-- where the clause fits, so does what follows its counts
pub clause_room : (ws ms : List ℕ) (at to a d n : ℕ) → a ≡ head_at at → d ≡ next_at ws at → to + length (clause_words (entry_at ws ms at).clause) ≤ n → to + 3 + length (part ws ms a (d - a)) ≤ n
clause_room ws ms at to a d n x w h = omega (arith, ap length (clause_words_lem ws ms at a d x w))

-- the place past it
pub clause_past : (ws ms : List ℕ) (at to a d e : ℕ) → a ≡ head_at at → d ≡ next_at ws at → e ≡ to + 3 + length (part ws ms a (d - a)) → e ≡ to + length (clause_words (entry_at ws ms at).clause)
clause_past ws ms at to a d e x w h = omega (arith, ap length (clause_words_lem ws ms at a d x w))

-- the counts are stored, then the rest
pub clause_stored : (ws ms out o e : List ℕ) (at to a d : ℕ) → o ≡ sets out to (counts (entry_at ws ms at).clause) → e ≡ sets o (to + 3) (part ws ms a (d - a)) → a ≡ head_at at → d ≡ next_at ws at
    → e ≡ sets out to (clause_words (entry_at ws ms at).clause)
clause_stored ws ms out o e at to a d h g x w =
    let c = (entry_at ws ms at).clause in
    g ∙ sets_next out o to (to + 3) (clause_words c) (counts c) (part ws ms a (d - a)) _ (clause_words_lem ws ms at a d x w) refl h refl

-- its size
pub entry_size : (ws ms : List ℕ) (at : ℕ) → get_or ms at 0 ≡ 1 → length (entry_words (entry_at ws ms at)) ≡ 3 + kept_from ms (at + 3) (next_at ws at - (at + 3))
entry_size ws ms at q = ap length (entry_kept ws ms at q ∙ clause_words_lem ws ms at (at + 3) (next_at ws at) refl refl)
    ∙ omega (arith, length_part ws ms (at + 3) (next_at ws at - (at + 3)))

-- no clause grows
pub entry_le : (ws ms : List ℕ) (at : ℕ) → length (entry_words (entry_at ws ms at)) + at ≤ next_at ws at
entry_le ws ms at = by_cases (ℕ_discrete (get_or ms at 0) 1)
    (λ q. omega (arith, entry_size ws ms at q, kept_le ms (at + 3) (next_at ws at - (at + 3))))
    (λ q. rw (entry_gone ws ms at q) (omega arith))

-- ---- all clauses

pub left_cons : (e : Entry) (P : Marked) → clauses_words (left (e ∷ P)) ≡ entry_words e ++ clauses_words (left P)
unfolding left clauses_words entry_words
left_cons e P = go e.kept
  where
    go : (t : Bool) → clauses_words (cond t (e.clause ∷ left P) (left P)) ≡ cond t (clause_words e.clause) [] ++ clauses_words (left P)
    go true = refl
    go false = refl

pub count_cons : (e : Entry) (P : Marked) → length (left (e ∷ P)) ≡ bit e.kept + length (left P)
unfolding left
count_cons e P = go e.kept
  where
    go : (t : Bool) → length (cond t (e.clause ∷ left P) (left P)) ≡ bit t + length (left P)
    go true = omega arith
    go false = omega arith

-- clause k, at `at`, and then those from b on
module _ (ws ms : List ℕ) (k m at b : ℕ) (h : k < m) (q : b ≡ next_at ws at) where
  pub left_on : clauses_words (left (entries_from ws ms (m - k) at)) ≡ entry_words (entry_at ws ms at) ++ clauses_words (left (entries_from ws ms (m - (k + 1)) b))
  unfolding entries_from
  left_on = rw (one_left k m h, q) (left_cons (entry_at ws ms at) (entries_from ws ms (m - (k + 1)) (next_at ws at)))

  -- the clause is stored, and the rest is to come
  pub copy_on : (out o : List ℕ) (to t : ℕ) (rs : List ℕ) → t ≡ to + length (entry_words (entry_at ws ms at)) → o ≡ sets out to (entry_words (entry_at ws ms at))
      → sets out to (clauses_words (left (entries_from ws ms (m - k) at))) ≡ rs → sets o t (clauses_words (left (entries_from ws ms (m - (k + 1)) b))) ≡ rs
  copy_on out o to t rs e w r = sets_next out o to t (clauses_words (left (entries_from ws ms (m - k) at))) (entry_words (entry_at ws ms at)) (clauses_words (left (entries_from ws ms (m - (k + 1)) b))) rs left_on e w r

  pub size_on : length (clauses_words (left (entries_from ws ms (m - k) at))) ≡ length (entry_words (entry_at ws ms at)) + length (clauses_words (left (entries_from ws ms (m - (k + 1)) b)))
  size_on = ap length left_on ∙ length-append (entry_words (entry_at ws ms at)) (clauses_words (left (entries_from ws ms (m - (k + 1)) b)))

  pub count_on : length (left (entries_from ws ms (m - k) at)) ≡ bit (eqb (get_or ms at 0) 1) + length (left (entries_from ws ms (m - (k + 1)) b))
  unfolding entries_from entry_at
  count_on = rw (one_left k m h, q) (count_cons (entry_at ws ms at) (entries_from ws ms (m - (k + 1)) (next_at ws at)))

pub left_end : (ws ms : List ℕ) (k m at : ℕ) → m ≤ k → left (entries_from ws ms (m - k) at) ≡ []
unfolding entries_from left
left_end ws ms k m at h = let z : m - k ≡ 0 = omega arith in rw z

pub size_end : (ws ms : List ℕ) (k m at : ℕ) → m ≤ k → length (clauses_words (left (entries_from ws ms (m - k) at))) ≡ 0
unfolding clauses_words
size_end ws ms k m at h = rw (left_end ws ms k m at h)

pub copy_end : (ws ms out : List ℕ) (k m at to : ℕ) → m ≤ k → sets out to (clauses_words (left (entries_from ws ms (m - k) at))) ≡ out
unfolding clauses_words
copy_end ws ms out k m at to h = rw (left_end ws ms k m at h)
