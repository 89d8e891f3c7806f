-- Laws of question 10: one mark at a time, span by span, and clause by clause.
use mathlib.Core.Path.{◌≡◌, refl, sym, ap, ap₂, ◌∙◌}
use mathlib.Core.Bool.{Bool, true, false, not, cond, ◌&&◌, ◌||◌}
use mathlib.Core.List.{List}
use Prim.Native.Nat.{ℕ, zero, suc, ◌+◌, ◌-◌, ◌≤◌, ◌<◌}
use native.Mathlib.Omega.{arith}
use native.Mathlib.Nat.{sub-zero, add-zero}
use lib.Dec.{eqb, leb, ltb}
use lib.ListN.{length, get_or, take, drop, length-take, length-drop}
use borrow.Author.Tests.{eq-eqb, ne_eqb, lt-ltb, le-ltb, le-leb, lt-leb}
use Rattle.semantics.proofs.Tests.{or_false}
use Rattle.answers.specs.declared.WordQuestion.TheVariants.{MarkAllowed}
use Rattle.answers.specs.declared.Refusal.{Refusal}
use Rattle.answers.specs.declared.Refusal.TheVariants.{Word}
use Rattle.std.specs.Prelude.{Ok, Err, Some, None}
use Rattle.std.specs.List.{position, position_or_len}
use Rattle.std.proofs.lemmas.List.{get_or-take, get_or-drop}
use Rattle.std.proofs.lemmas.List.Sums.{fails_before_first}
use Rattle.std.proofs.lemmas.Bool.{ltb-true, ltb-false}
use Rattle.std.proofs.lemmas.List.Quantifiers.{position-Some}
use Rattle.table.specs.Questions.{on_walk}
use Rattle.answers.specs.Answers.{ask}
use Rattle.table.specs.Places.{head_at, next_at, start_from, start_of}
use Rattle.table.proofs.View.{start_le}
use Rattle.reduced_marks.specs.Allowed.{clearable_in, clearable_from, allowed_where, allowed, marks_from}
use Rattle.reduced_marks.specs.Spans.{between}

-- ---- marks that are looked through

pub marks_end : (f : ℕ → Bool) (i e : ℕ) → e ≤ i → i ≤ e → marks_from f i (e - i) ≡ Ok e
unfolding marks_from
marks_end f i e h l = let z : e - i ≡ 0 = omega arith in let q : i ≡ e = omega arith in rw z (ap Ok q)

-- all of them are allowed
marks_all : (f : ℕ → Bool) (at k : ℕ) → ((j : ℕ) → j < k → f (at + j) ≡ true) → marks_from f at k ≡ Ok (at + k)
unfolding marks_from ask
marks_all f at zero h = ap Ok (sym (add-zero at))
marks_all f at (suc k) h =
    let here : f at ≡ true = ap f (sym (add-zero at)) ∙ h 0 (omega arith) in
    let e : at + 1 + k ≡ at + suc k = omega arith in
    rw here (marks_all f (at + 1) k (λ j l. let q : at + 1 + j ≡ at + suc j = omega arith in ap f q ∙ h (suc j) (omega arith)) ∙ ap Ok e)

-- the first that is not
marks_first : (f : ℕ → Bool) (at k i : ℕ) → i < k → ((j : ℕ) → j < i → f (at + j) ≡ true) → f (at + i) ≡ false → marks_from f at k ≡ Err (Word MarkAllowed (at + i))
unfolding marks_from ask
marks_first f at zero i l h b = absurd (omega arith)
marks_first f at (suc k) zero l h b =
    let here : f at ≡ false = ap f (sym (add-zero at)) ∙ b in
    rw (here, add-zero)
marks_first f at (suc k) (suc i) l h b =
    let here : f at ≡ true = ap f (sym (add-zero at)) ∙ h 0 (omega arith) in
    let e : at + 1 + i ≡ at + suc i = omega arith in
    rw here (marks_first f (at + 1) k i (omega arith) (λ j q. let d : at + 1 + j ≡ at + suc j = omega arith in ap f d ∙ h (suc j) (omega arith)) (ap f e ∙ b) ∙ ap (λ x. Err (Word MarkAllowed x)) e)

leb_not : (a b : ℕ) → leb a b ≡ not (ltb b a)
leb_not a b = go (ltb b a) refl
  where
    go : (t : Bool) → ltb b a ≡ t → leb a b ≡ not t
    go true e = lt-leb a b (ltb-true b a e)
    go false e = le-leb a b (ltb-false b a e)

good_bad : (least x : ℕ) → (leb least x && leb x 1) ≡ not (ltb x least || ltb 1 x)
good_bad least x = ap₂ (λ s t. s && t) (leb_not least x) (leb_not x 1) ∙ neither (ltb x least) (ltb 1 x)
  where
    neither : (s t : Bool) → (not s && not t) ≡ not (s || t)
    neither true t = refl
    neither false t = refl

none_bad : (p : ℕ → Bool) (xs : List ℕ) → position p xs ≡ None → (j : ℕ) → j < length xs → p (get_or xs j 0) ≡ false
none_bad p xs e j l = go (ltb (position_or_len p xs) (length xs)) refl e
  where
    go : (t : Bool) → ltb (position_or_len p xs) (length xs) ≡ t → cond t (Some (position_or_len p xs)) None ≡ None → p (get_or xs j 0) ≡ false
    go true q d = cc
    go false q d = fails_before_first p xs j 0 (omega (arith, ltb-false (position_or_len p xs) (length xs) q))

-- a mark that is not allowed is looked for among the marks from `at` up to `end`
module _ (ms : List ℕ) (least at end : ℕ) (order : at ≤ end) (within : end ≤ length ms) where
  abbrev bad : ℕ → Bool
  bad x = ltb x least || ltb 1 x

  abbrev span : List ℕ
  span = take (end - at) (drop at ms)

  span_length : length span ≡ end - at
  span_length = omega (arith, length-take (end - at) (drop at ms), length-drop at ms)

  span_at : (j : ℕ) → j < end - at → get_or span j 0 ≡ get_or ms (at + j) 0
  span_at j l = get_or-take (end - at) (drop at ms) j 0 l ∙ get_or-drop at ms j 0

  good : (t : Bool) (j : ℕ) → j < end - at → bad (get_or span j 0) ≡ t → between ms least (at + j) ≡ not t
  good t j l e = ap (λ x. leb least x && leb x 1) (sym (span_at j l)) ∙ good_bad least (get_or span j 0) ∙ ap not e

  pub span_found : (i : ℕ) → position bad span ≡ Some i → marks_from (between ms least) at (end - at) ≡ Err (Word MarkAllowed (at + i))
  span_found i e =
      let w = position-Some bad span i 0 e in
      let l : i < end - at = omega (arith, w.0, span_length) in
      marks_first (between ms least) at (end - at) i l (λ j q. good false j (omega arith) (w.2 j q)) (good true i l w.1)

  pub span_allowed : position bad span ≡ None → marks_from (between ms least) at (end - at) ≡ Ok end
  span_allowed e =
      let q : at + (end - at) ≡ end = omega arith in
      marks_all (between ms least) at (end - at) (λ j l. good false j l (none_bad bad span e j (omega (arith, span_length)))) ∙ ap Ok q

-- ---- spans

-- a walk that is not refused comes to the end of its span
pub marks_to : (f : ℕ → Bool) (at k e : ℕ) → marks_from f at k ≡ Ok e → e ≡ at + k
unfolding marks_from ask
marks_to f at zero e h = let q : at ≡ e = cc in omega arith
marks_to f at (suc k) e h = go (f at) (λ q. let r : e ≡ at + 1 + k = marks_to f (at + 1) k e q in omega arith) h
  where
    go : (t : Bool) → (marks_from f (at + 1) k ≡ Ok e → e ≡ at + suc k) → ask Err t (Word MarkAllowed at) (marks_from f (at + 1) k) ≡ Ok e → e ≡ at + suc k
    go true r h = r h
    go false r h = let z : ◌≡◌ {A = ℕ} 0 1 = cc in absurd (omega arith)

-- a span and the one after it
pub marks_append : (f : ℕ → Bool) (at j k : ℕ) → marks_from f at (j + k) ≡ on_walk Err (marks_from f at j) (λ _. marks_from f (at + j) k)
unfolding marks_from on_walk ask
marks_append f at zero k = let q : zero + k ≡ k = omega arith in let r : at + zero ≡ at = omega arith in rw (q, r)
marks_append f at (suc j) k =
    let q : suc j + k ≡ suc (j + k) = omega arith in
    let r : at + suc j ≡ at + 1 + j = omega arith in
    rw (q, r) (go (f at) (marks_append f (at + 1) j k))
  where
    go : (t : Bool) → marks_from f (at + 1) (j + k) ≡ on_walk Err (marks_from f (at + 1) j) (λ _. marks_from f (at + 1 + j) k)
        → ask Err t (Word MarkAllowed at) (marks_from f (at + 1) (j + k)) ≡ on_walk Err (ask Err t (Word MarkAllowed at) (marks_from f (at + 1) j)) (λ _. marks_from f (at + 1 + j) k)
    go true r = r
    go false r = refl

module _ (f : ℕ → Bool) (at i e : ℕ) (a : at ≤ i) (b : i ≤ e) where
  pub marks_split : marks_from f at (e - at) ≡ on_walk Err (marks_from f at (i - at)) (λ _. marks_from f i (e - i))
  marks_split =
      let q : e - at ≡ i - at + (e - i) = omega arith in
      let r : at + (i - at) ≡ i = omega arith in
      ap (marks_from f at) q ∙ marks_append f at (i - at) (e - i) ∙ ap (λ x. on_walk Err (marks_from f at (i - at)) (λ _. marks_from f x (e - i))) r

  -- past a span with nothing to refuse, the walk goes on
  pub marks_next : (x : ℕ) → marks_from f at (i - at) ≡ Ok x → marks_from f at (e - at) ≡ marks_from f i (e - i)
  unfolding on_walk
  marks_next x h = marks_split ∙ rw h

  pub marks_stop : (r : Refusal) → marks_from f at (i - at) ≡ Err r → marks_from f at (e - at) ≡ Err r
  unfolding on_walk
  marks_stop r h = marks_split ∙ rw h

-- two tests that agree on a span
pub marks_same : (f g : ℕ → Bool) (at k : ℕ) → ((i : ℕ) → at ≤ i → i < at + k → f i ≡ g i) → marks_from f at k ≡ marks_from g at k
unfolding marks_from
marks_same f g at zero h = refl
marks_same f g at (suc k) h = rw (h at (omega arith) (omega arith), marks_same f g (at + 1) k (λ i a b. h i (omega arith) (omega arith)))

-- where a mark may be cleared, from 0 to 1; where not, 1
allowed_yes : (f : ℕ → Bool) (ms : List ℕ) (i : ℕ) → f i ≡ true → allowed_where f ms i ≡ between ms 0 i
allowed_yes f ms i h = rw h (go (get_or ms i 0))
  where
    go : (x : ℕ) → (eqb x 1 || (eqb x 0 && true)) ≡ (leb 0 x && leb x 1)
    go zero = refl
    go (suc zero) = refl
    go (suc (suc x)) = rw (ne_eqb (suc (suc x)) 1 (λ e. omega arith), ne_eqb (suc (suc x)) 0 (λ e. omega arith), le-leb 0 (suc (suc x)) (omega arith), lt-leb (suc (suc x)) 1 (omega arith))

allowed_no : (f : ℕ → Bool) (ms : List ℕ) (i : ℕ) → f i ≡ false → allowed_where f ms i ≡ between ms 1 i
allowed_no f ms i h = rw h (go (get_or ms i 0))
  where
    go : (x : ℕ) → (eqb x 1 || (eqb x 0 && false)) ≡ (leb 1 x && leb x 1)
    go zero = refl
    go (suc zero) = refl
    go (suc (suc x)) = rw (ne_eqb (suc (suc x)) 1 (λ e. omega arith), ne_eqb (suc (suc x)) 0 (λ e. omega arith), le-leb 1 (suc (suc x)) (omega arith), lt-leb (suc (suc x)) 1 (omega arith))

span_same : (f g : ℕ → Bool) (at e : ℕ) → at ≤ e → ((i : ℕ) → at ≤ i → i < e → f i ≡ g i) → marks_from f at (e - at) ≡ marks_from g at (e - at)
span_same f g at e l h = marks_same f g at (e - at) (λ i a b. h i a (omega arith))

-- ---- a clause, and the place of each clause

clearable_first : (ws : List ℕ) (at i : ℕ) → at ≤ i → i < at + 1 → clearable_in ws at i ≡ true
clearable_first ws at i a b = rw (eq-eqb i at (omega arith))

clearable_counts : (ws : List ℕ) (at i : ℕ) → at + 1 ≤ i → i < head_at at → clearable_in ws at i ≡ false
clearable_counts ws at i a b = rw (ne_eqb i at (λ e. omega arith), lt-leb (head_at at) i b)

clearable_atoms : (ws : List ℕ) (at i : ℕ) → head_at at ≤ i → i < next_at ws at → clearable_in ws at i ≡ true
clearable_atoms ws at i a b = rw (ne_eqb i at (λ e. omega arith), le-leb (head_at at) i a, lt-ltb i (next_at ws at) b)

clearable_past : (ws : List ℕ) (at i : ℕ) → next_at ws at ≤ i → clearable_in ws at i ≡ false
clearable_past ws at i a = rw (ne_eqb i at (λ e. omega arith), le-leb (head_at at) i (omega arith), le-ltb i (next_at ws at) a)

clearable_before : (ws : List ℕ) (at i : ℕ) → i < at → clearable_in ws at i ≡ false
clearable_before ws at i a = rw (ne_eqb i at (λ e. omega arith), lt-leb (head_at at) i (omega arith))

-- the three spans of a clause, whose atoms are from b to d
pub clause_marks : (ws ms : List ℕ) (at b d : ℕ) → b ≡ head_at at → d ≡ next_at ws at
    → marks_from (allowed_where (clearable_in ws at) ms) at (next_at ws at - at) ≡ on_walk Err (marks_from (between ms 0) at (at + 1 - at)) (λ _. on_walk Err (marks_from (between ms 1) (at + 1) (b - (at + 1))) (λ _. marks_from (between ms 0) b (d - b)))
clause_marks ws ms at b d p q =
    let f = allowed_where (clearable_in ws at) ms in
    ap (λ x. marks_from f at (x - at)) (sym q)
    ∙ marks_split f at (at + 1) d (omega arith) (omega arith)
    ∙ ap (λ w. on_walk Err w (λ _. marks_from f (at + 1) (d - (at + 1)))) (span_same f (between ms 0) at (at + 1) (omega arith) (λ i x y. allowed_yes (clearable_in ws at) ms i (clearable_first ws at i x y)))
    ∙ ap (λ w. on_walk Err (marks_from (between ms 0) at (at + 1 - at)) (λ _. w))
    (marks_split f (at + 1) b d (omega arith) (omega arith)
    ∙ ap (λ w. on_walk Err w (λ _. marks_from f b (d - b))) (span_same f (between ms 1) (at + 1) b (omega arith) (λ i x y. allowed_no (clearable_in ws at) ms i (clearable_counts ws at i x (omega arith))))
    ∙ ap (λ w. on_walk Err (marks_from (between ms 1) (at + 1) (b - (at + 1))) (λ _. w)) (span_same f (between ms 0) b d (omega arith) (λ i x y. allowed_yes (clearable_in ws at) ms i (clearable_atoms ws at i (omega arith) (omega arith)))))

-- before the first clause nothing may be cleared
clearables_before : (ws : List ℕ) (m at i : ℕ) → i < at → clearable_from ws m at i ≡ false
unfolding clearable_from
clearables_before ws zero at i h = refl
clearables_before ws (suc m) at i h = rw (clearable_before ws at i h, clearables_before ws m (next_at ws at) i (omega arith))

-- within clause t, what may be cleared is that clause's
clearables_at : (ws : List ℕ) (m at t i : ℕ) → t < m → start_from ws at t ≤ i → i < next_at ws (start_from ws at t) → clearable_from ws m at i ≡ clearable_in ws (start_from ws at t) i
unfolding clearable_from start_from
clearables_at ws zero at t i h a b = absurd (omega arith)
clearables_at ws (suc m) at zero i h a b = rw (clearables_before ws m (next_at ws at) i b) (or_false (clearable_in ws at i))
clearables_at ws (suc m) at (suc t) i h a b = rw (clearable_past ws at i (omega (arith, start_le ws (next_at ws at) t))) (clearables_at ws m (next_at ws at) t i (omega arith) a b)

module _ (ws ms : List ℕ) where
  -- the words before the first clause
  pub front_marks : marks_from (allowed ws ms) 0 (2 - 0) ≡ marks_from (between ms 1) 0 (2 - 0)
  front_marks = span_same (allowed ws ms) (between ms 1) 0 2 (omega arith) (λ i a b. allowed_no (clearable_from ws (get_or ws 1 0) 2) ms i (clearables_before ws (get_or ws 1 0) 2 i b))

  pub at_clause : (t at : ℕ) → t < get_or ws 1 0 → at ≡ start_of ws t
      → marks_from (allowed ws ms) at (next_at ws at - at) ≡ marks_from (allowed_where (clearable_in ws at) ms) at (next_at ws at - at)
  at_clause t at h e = span_same (allowed ws ms) (allowed_where (clearable_in ws at) ms) at (next_at ws at) (omega arith) (λ i a b.
      ap (λ x. eqb (get_or ms i 0) 1 || (eqb (get_or ms i 0) 0 && x)) (clearables_at ws (get_or ws 1 0) 2 t i h (rw (sym e) a) (rw (sym e) b) ∙ ap (λ x. clearable_in ws x i) (sym e)))

  module _ (l : 2 ≤ length ws) where
    whole_marks : marks_from (allowed ws ms) 0 (length ws - 0) ≡ marks_from (allowed ws ms) 0 (length ws)
    whole_marks = ap (marks_from (allowed ws ms) 0) (sub-zero (length ws))

    pub front_stop : (r : Refusal) → marks_from (between ms 1) 0 (2 - 0) ≡ Err r → marks_from (allowed ws ms) 0 (length ws) ≡ Err r
    front_stop r h = sym whole_marks ∙ marks_stop (allowed ws ms) 0 2 (length ws) (omega arith) l r (front_marks ∙ h)

    pub front_next : (x : ℕ) → marks_from (between ms 1) 0 (2 - 0) ≡ Ok x → marks_from (allowed ws ms) 2 (length ws - 2) ≡ marks_from (allowed ws ms) 0 (length ws)
    front_next x h = sym (marks_next (allowed ws ms) 0 2 (length ws) (omega arith) l x (front_marks ∙ h)) ∙ whole_marks

  module _ (t at : ℕ) (h : t < get_or ws 1 0) (e : at ≡ start_of ws t) (l : next_at ws at ≤ length ws) where
    pub clause_stop : (r : Refusal) → marks_from (allowed_where (clearable_in ws at) ms) at (next_at ws at - at) ≡ Err r → marks_from (allowed ws ms) at (length ws - at) ≡ Err r
    clause_stop r q = marks_stop (allowed ws ms) at (next_at ws at) (length ws) (omega arith) l r (at_clause t at h e ∙ q)

    pub clause_next : (x : ℕ) → marks_from (allowed_where (clearable_in ws at) ms) at (next_at ws at - at) ≡ Ok x
        → (x ≡ next_at ws at) × (marks_from (allowed ws ms) at (length ws - at) ≡ marks_from (allowed ws ms) x (length ws - x))
    clause_next x q =
        let d : x ≡ next_at ws at = omega (arith, marks_to (allowed_where (clearable_in ws at) ms) at (next_at ws at - at) x q) in
        (d, rw d (marks_next (allowed ws ms) at (next_at ws at) (length ws) (omega arith) l x (at_clause t at h e ∙ q)))
