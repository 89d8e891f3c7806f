-- A line that is written is read, and a line that is read is what is written of the numbers that stand there, of which a list keeps each once, sorted.
use Prim.Native.Nat.{ℕ, zero, suc, ◌+◌, ◌-◌, ◌≤◌, ◌<◌}
use mathlib.Core.Path.{◌≡◌, refl, sym, ap, subst, ◌∙◌}
use mathlib.Core.Logic.{◌↔◌}
use mathlib.Core.List.Memᴰ
use mathlib.Core.List.{List, [], ◌∷◌, ◌++◌, append_assoc, append-nil}
use mathlib.Core.Bool.{Bool, true, false, ◌&&◌, cond, So}
use native.Mathlib.Omega.{arith}
use lib.ListN.{length, length-append, length-drop, get_or, take, drop}
use lib.Seq.{drop-drop, take-append_seam}
use lib.Dec.{ltb, eqb}
use borrow.Author.Tests.{lt-ltb, lt-leb, le-leb, eq-eqb, ne_eqb, leb-true, ltb-true, eqb-true}
use Rattle.semantics.specs.Lists.{◌∈◌}
use Rattle.semantics.proofs.Tests.{all_iff, so_false}
use Rattle.sorting.specs.Sorting.{sorted}
use Rattle.sorting.proofs.Sorted.{sorted_iff, sorted_ascends}
use Rattle.answers.specs.declared.ByteQuestion.{ByteQuestion}
use Rattle.answers.specs.declared.ByteQuestion.TheVariants.{WordLimit, TextAtomBelow}
use Rattle.answers.specs.declared.Refusal.{Refusal}
use Rattle.answers.specs.declared.Refusal.TheVariants.{Byte}
use Rattle.table.specs.Encoding.{Ordered}
use Rattle.table.specs.Places.{cut}
use Rattle.table.proofs.Stands.{past}
use Rattle.text_form.specs.Digits.{width, places, digits, others, commas}
use Rattle.text_form.specs.Render.{line_text}
use Rattle.text_form.specs.Reader.{Span, Value, Missing, Read, done, stop, then, starts, run, ended, span_at, numbers, on_span, value_of, value_at, number_at, count_at, all_below, list_of, list_at}
use Rattle.answers.specs.Answers.{ask}
use Rattle.text_form.proofs.Numbers.{FourDigits, numbers_of, numbers_inv}

-- no line feed
abbrev pub Free : List ℕ → Type 0
Free [] = Unit {0}
Free (b ∷ l) = (b ≡ 10 → ⊥) × Free l

free_append : (a b : List ℕ) → Free a → Free b → Free (a ++ b)
free_append [] b f g = g
free_append (x ∷ a) b f g = (f.0, free_append a b f.1 g)

free_places : (x k : ℕ) → Free (places x k)
unfolding places
free_places x zero = tt
free_places x (suc k) = (λ e. omega arith, free_places x k)

free_digits : (x : ℕ) → Free (digits x)
unfolding digits
free_digits x = free_places x (width x)

free_others : (xs : List ℕ) → Free (others xs)
unfolding others
free_others [] = tt
free_others (x ∷ xs) = (λ e. omega arith, free_append (digits x) (others xs) (free_digits x) (free_others xs))

free_commas : (xs : List ℕ) → Free (commas xs)
unfolding commas
free_commas [] = tt
free_commas (x ∷ xs) = free_append (digits x) (others xs) (free_digits x) (free_others xs)

starts_append : (key r : List ℕ) → starts key (key ++ r) ≡ true
unfolding starts
starts_append [] r = refl
starts_append (k ∷ ks) r = rw (eq-eqb k k refl) (starts_append ks r)

starts_inv : (key l : List ℕ) → starts key l ≡ true → l ≡ key ++ drop (length key) l
unfolding starts
starts_inv [] l h = refl
starts_inv (k ∷ ks) [] h = let z : ◌≡◌ {A = ℕ} 0 1 = cc in absurd (omega arith)
starts_inv (k ∷ ks) (b ∷ l) h = go (eqb b k) refl h (λ h. starts_inv ks l h)
  where
    go : (t : Bool) → eqb b k ≡ t → (t && starts ks l) ≡ true → (starts ks l ≡ true → l ≡ ks ++ drop (length ks) l) → b ∷ l ≡ k ∷ ks ++ drop (length ks) l
    go true e h f = let q = eqb-true b k e in let r = f h in cc
    go false e h f = let z : ◌≡◌ {A = ℕ} 0 1 = cc in absurd (omega arith)

run_free : (v r : List ℕ) → Free v → run (v ++ 10 ∷ r) ≡ length v
unfolding run
run_free [] r f = refl
run_free (b ∷ v) r f = rw (ne_eqb b 10 f.0) (ap suc (run_free v r f.1))

run_inv : (l : List ℕ) → run l < length l → l ≡ take (run l) l ++ 10 ∷ drop (suc (run l)) l
unfolding run
run_inv [] h = absurd (omega arith)
run_inv (b ∷ l) h = go (eqb b 10) refl h (λ h. run_inv l h)
  where
    go : (t : Bool) → eqb b 10 ≡ t → cond t 0 (suc (run l)) < suc (length l) → (run l < length l → l ≡ take (run l) l ++ 10 ∷ drop (suc (run l)) l)
        → b ∷ l ≡ take (cond t 0 (suc (run l))) (b ∷ l) ++ 10 ∷ drop (suc (cond t 0 (suc (run l)))) (b ∷ l)
    go true e h f = ap (λ x. x ∷ l) (eqb-true b 10 e)
    go false e h f = ap (λ t. b ∷ t) (f (omega arith))

line_append : (key v r : List ℕ) → line_text key v ++ r ≡ key ++ (v ++ 10 ∷ r)
unfolding line_text
line_append key v r = append_assoc key (v ++ 10 ∷ []) r ∙ ap (λ l. key ++ l) (append_assoc v (10 ∷ []) r)

-- ---- where a line's value stands

pub record Lies (ts key v r : List ℕ) (at from end : ℕ) : Type 0 where
  pub span : span_at ts key at ≡ Value from end
  pub value : cut ts from (end - from) ≡ v
  pub rest : drop (end + 1) ts ≡ r

pub line_of : (ts key v r : List ℕ) (at : ℕ) → drop at ts ≡ line_text key v ++ r → Free v → Lies ts key v r at (at + length key) (at + length key + length v)
unfolding span_at ended
line_of ts key v r at h f =
    let e : drop at ts ≡ key ++ (v ++ 10 ∷ r) = h ∙ line_append key v r in
    let d : drop (at + length key) ts ≡ v ++ 10 ∷ r = past ts key (v ++ 10 ∷ r) at e in
    let b = past ts v (10 ∷ r) (at + length key) d in
    let n : length ts - (at + length key) ≡ length v + suc (length r) = sym (length-drop (at + length key) ts) ∙ ap length d ∙ length-append v (10 ∷ r) in
    let s : starts key (drop at ts) ≡ true = rw e (starts_append key (v ++ 10 ∷ r)) in
    let u : run (drop (at + length key) ts) ≡ length v = rw d (run_free v r f) in
    let m : at + length key + length v - (at + length key) ≡ length v = omega arith in
    record {
      span = rw (s, u, lt-ltb (at + length key + length v) (length ts) (omega arith));
      value = rw (m, d) (take-append_seam v (10 ∷ r));
      rest = past ts (10 ∷ []) r (at + length key + length v) b;
    }

-- a line whose value stands there
pub record LineSpan (ts key : List ℕ) (at from end : ℕ) : Type 0 where
  pub text : drop at ts ≡ line_text key (cut ts from (end - from)) ++ drop (end + 1) ts
  pub order : from ≤ end
  pub inside : end < length ts

pub line_inv : (ts key : List ℕ) (at from end : ℕ) → span_at ts key at ≡ Value from end → LineSpan ts key at from end
unfolding span_at ended
line_inv ts key at from end h = go (starts key (drop at ts)) refl (ltb (f + run (drop f ts)) (length ts)) refl h
  where
    f : ℕ
    f = at + length key

    go : (s : Bool) → starts key (drop at ts) ≡ s → (l : Bool) → ltb (f + run (drop f ts)) (length ts) ≡ l
        → cond s (cond l (Value f (f + run (drop f ts))) Missing) Missing ≡ Value from end → LineSpan ts key at from end
    go true s true l h =
        let a : f ≡ from = cc in
        let b : f + run (drop f ts) ≡ end = cc in
        let j = ltb-true (f + run (drop f ts)) (length ts) l in
        let k : run (drop f ts) < length (drop f ts) = rw (length-drop f ts) (omega arith) in
        let e = run_inv (drop f ts) k in
        let m : end - from ≡ run (drop f ts) = omega arith in
        let i : f + suc (run (drop f ts)) ≡ end + 1 = omega arith in
        let p : drop (suc (run (drop f ts))) (drop f ts) ≡ drop (end + 1) ts = drop-drop (suc (run (drop f ts))) f ts ∙ ap (λ x. drop x ts) i in
        let q : drop at ts ≡ key ++ drop f ts = starts_inv key (drop at ts) s ∙ ap (λ l. key ++ l) (drop-drop (length key) at ts) in
        record {
          text = q ∙ ap (λ l. key ++ l) (e ∙ rw (p, ← m, a)) ∙ sym (line_append key (cut ts from (end - from)) (drop (end + 1) ts));
          order = omega arith;
          inside = omega arith;
        }
    go true s false l h = let z : ◌≡◌ {A = ℕ} 0 1 = cc in absurd (omega arith)
    go false s l k h = let z : ◌≡◌ {A = ℕ} 0 1 = cc in absurd (omega arith)

-- ---- numbers below n

pub below_iff : (n : ℕ) (xs : List ℕ) → So (all_below n xs) ↔ ((a : ℕ) → a ∈ xs → a < n)
below_iff n xs = (λ h a m. ltb-true a n ((all_iff (λ x. ltb x n) xs).0 h a m), λ f. (all_iff (λ x. ltb x n) xs).1 (λ a m. lt-ltb a n (f a m)))

below_small : (n : ℕ) (xs : List ℕ) → n ≤ 1024 → ((a : ℕ) → a ∈ xs → a < n) → FourDigits xs
below_small n [] l f = tt
below_small n (x ∷ xs) l f = (omega (arith, f x (Memᴰ.head refl)), below_small n xs l (λ a m. f a (Memᴰ.tail m)))

pub ordered_small : (n : ℕ) (xs : List ℕ) → n ≤ 1024 → Ordered n xs → FourDigits xs
ordered_small n xs l o = below_small n xs l o.below

-- a list whose sorted numbers are below n
pub sorted_small : (n : ℕ) (xs : List ℕ) → n ≤ 1024 → Ordered n (sorted xs) → FourDigits xs
sorted_small n xs l o = below_small n xs l (λ a m. o.below a ((sorted_iff a xs).1 m))

-- ---- what an answer that is not a refusal says

module _ {A : Type 0} where
  pub ask_inv : (t : Bool) (r : Refusal) (x : Read A) (a : A) (e : ℕ) → ask stop t r x ≡ done a e → (t ≡ true) × (x ≡ done a e)
  unfolding ask
  ask_inv true r x a e h = (refl, h)
  ask_inv false r x a e h = let z : ◌≡◌ {A = ℕ} 0 1 = cc in absurd (omega arith)

  pub span_inv : (s : Span) (at : ℕ) (f : ℕ → ℕ → Read A) (a : A) (e : ℕ) → on_span s at f ≡ done a e → (from : ℕ) × (end : ℕ) × (s ≡ Value from end) × (f from end ≡ done a e)
  unfolding on_span
  span_inv (Value from end) at f a e h = (from, end, refl, h)
  span_inv Missing at f a e h = let z : ◌≡◌ {A = ℕ} 0 1 = cc in absurd (omega arith)

module _ {A B : Type 0} where
  pub then_inv : (r : Read A) (f : A → ℕ → Read B) (b : B) (e : ℕ) → then r f ≡ done b e → (a : A) × (d : ℕ) × (r ≡ done a d) × (f a d ≡ done b e)
  unfolding then
  then_inv (done a d) f b e h = (a, d, refl, h)
  then_inv (stop r) f b e h = let z : ◌≡◌ {A = ℕ} 0 1 = cc in absurd (omega arith)

-- ---- the numbers of a line

pub value_of_lem : (ts key xs r : List ℕ) (at : ℕ) → drop at ts ≡ line_text key (commas xs) ++ r → FourDigits xs → (e : ℕ) × (value_at ts key at ≡ done xs e) × (drop e ts ≡ r)
unfolding value_at value_of on_span ask
value_of_lem ts key xs r at h s =
    let k = line_of ts key (commas xs) r at h (free_commas xs) in
    (at + length key + length (commas xs) + 1, rw (k.span, k.value, numbers_of xs s), k.rest)

pub value_inv : (ts key xs : List ℕ) (at e : ℕ) → value_at ts key at ≡ done xs e → (drop at ts ≡ line_text key (commas xs) ++ drop e ts) × (e ≤ length ts)
unfolding value_at value_of
value_inv ts key xs at e h =
    let (from, end, s, h1) = span_inv _ _ _ xs e h in
    let (ok, h2) = ask_inv _ _ _ xs e h1 in
    let q : (numbers (cut ts from (end - from))).xs ≡ xs = cc in
    let w : end + 1 ≡ e = cc in
    let k = line_inv ts key at from end s in
    (k.text ∙ ap (λ t. line_text key t ++ drop (end + 1) ts) ((numbers_inv (cut ts from (end - from)) ok).0 ∙ ap commas q) ∙ ap (λ x. line_text key (commas xs) ++ drop x ts) w, omega (arith, k.inside))

-- ---- a list line

-- a line that passes 24 and 25, with the numbers xs
module _ (ts key xs : List ℕ) (n used at e : ℕ) (h : value_at ts key at ≡ done xs e) where
  -- "question 26 counts what is kept", whatever the numbers are
  pub list_limit : 8192 < used + length (sorted xs) → list_at ts key n used at ≡ stop (Byte WordLimit at)
  unfolding list_at list_of then ask
  list_limit l = rw (h, lt-leb (used + length (sorted xs)) 8192 l)

  module _ (fits : used + length (sorted xs) ≤ 8192) where
    -- "then 6": a number that is not below n, wherever it stands and however often
    pub list_large : (a : ℕ) → a ∈ xs → n ≤ a → list_at ts key n used at ≡ stop (Byte TextAtomBelow at)
    unfolding list_at list_of then ask
    list_large a m l = rw (h, le-leb (used + length (sorted xs)) 8192 fits, so_false (all_below n (sorted xs)) (λ t. omega (arith, (below_iff n (sorted xs)).0 t a ((sorted_iff a xs).1 m))))

    -- and else what is kept
    pub list_kept : ((a : ℕ) → a ∈ xs → a < n) → list_at ts key n used at ≡ done (sorted xs) e
    unfolding list_at list_of then ask
    list_kept f = rw (h, le-leb (used + length (sorted xs)) 8192 fits, (below_iff n (sorted xs)).1 (λ a m. f a ((sorted_iff a xs).0 m)))

-- the numbers xs, in any order, are read as the sorted ones
pub list_of_lem : (ts key xs r : List ℕ) (n used at : ℕ) → drop at ts ≡ line_text key (commas xs) ++ r → n ≤ 1024 → Ordered n (sorted xs) → used + length (sorted xs) ≤ 8192
    → (e : ℕ) × (list_at ts key n used at ≡ done (sorted xs) e) × (drop e ts ≡ r)
list_of_lem ts key xs r n used at h l o u =
    let (e, a, d) = value_of_lem ts key xs r at h (sorted_small n xs l o) in
    (e, list_kept ts key xs n used at e a u (λ b m. o.below b ((sorted_iff b xs).1 m)), d)

-- what a list line that is read says: the numbers that stand there, which sorted are xs
pub record ListLine (ts key xs : List ℕ) (n used at e : ℕ) : Type 0 where
  pub list : List ℕ
  pub kept : sorted list ≡ xs
  pub text : drop at ts ≡ line_text key (commas list) ++ drop e ts
  pub next : e ≤ length ts
  pub ordered : Ordered n xs
  pub fits : used + length xs ≤ 8192

pub list_inv : (ts key xs : List ℕ) (n used at e : ℕ) → list_at ts key n used at ≡ done xs e → ListLine ts key xs n used at e
unfolding list_at list_of
list_inv ts key xs n used at e h =
    let (ys, d, a, h1) = then_inv _ _ xs e h in
    let (f, h2) = ask_inv _ _ _ xs e h1 in
    let (o, h3) = ask_inv _ _ _ xs e h2 in
    let q : sorted ys ≡ xs = cc in
    let w : d ≡ e = cc in
    let (t, l) = value_inv ts key ys at e (a ∙ ap (done ys) w) in
    record {
      list = ys;
      kept = q;
      text = t;
      next = l;
      ordered = subst (λ l. Ordered n l) q (record { below = (below_iff n (sorted ys)).0 o; ascends = sorted_ascends ys });
      fits = subst (λ l. used + length l ≤ 8192) q (leb-true (used + length (sorted ys)) 8192 f);
    }

-- ---- a line with one number, up to a limit

one : (xs : List ℕ) → length xs ≡ 1 → xs ≡ get_or xs 0 0 ∷ []
one [] h = absurd (omega arith)
one (x ∷ []) h = refl
one (x ∷ y ∷ xs) h = absurd (omega arith)

pub commas_one : (x : ℕ) → commas (x ∷ []) ≡ digits x
unfolding commas others
commas_one x = append-nil (digits x)

module _ (ts key : List ℕ) (limit : ℕ) (q : ByteQuestion) where
  pub count_of : (r : List ℕ) (x at : ℕ) → drop at ts ≡ line_text key (digits x) ++ r → x ≤ limit → limit ≤ 9999 → (e : ℕ) × (count_at ts key limit q at ≡ done x e) × (drop e ts ≡ r)
  unfolding count_at number_at then ask
  count_of r x at h l m =
      let (e, a, d) = value_of_lem ts key (x ∷ []) r at (h ∙ ap (λ t. line_text key t ++ r) (sym (commas_one x))) (omega arith, tt) in
      (e, rw (a, le-leb x limit l), d)

  pub count_inv : (x at e : ℕ) → count_at ts key limit q at ≡ done x e → (drop at ts ≡ line_text key (digits x) ++ drop e ts) × (e ≤ length ts) × (x ≤ limit)
  unfolding count_at number_at
  count_inv x at e h =
      let (n, d, a, h1) = then_inv _ _ x e h in
      let (f, h2) = ask_inv _ _ _ x e h1 in
      let (xs, b, v, h3) = then_inv _ _ n d a in
      let (single, h4) = ask_inv _ _ _ n d h3 in
      let w : n ≡ x = cc in
      let p : get_or xs 0 0 ≡ x = cc in
      let k : b ≡ e = cc in
      let z : xs ≡ x ∷ [] = one xs (eqb-true (length xs) 1 single) ∙ ap (λ y. y ∷ []) p in
      let (t, l) = value_inv ts key (x ∷ []) at e (v ∙ ap (λ y. done y b) z ∙ ap (done (x ∷ [])) k) in
      (t ∙ ap (λ t. line_text key t ++ drop e ts) (commas_one x), l, subst (λ z. z ≤ limit) w (leb-true n limit f))
