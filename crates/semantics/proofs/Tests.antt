-- What a test that comes out true says: of its parts, and of the members of a list.
use mathlib.Core.Path.{◌≡◌, refl, sym, ap, subst, ◌∙◌}
use mathlib.Core.Logic.{◌↔◌, ◌≢◌, ◌⊎◌, inl, inr}
use mathlib.Core.Bool.{Bool, true, false, not, cond, ◌&&◌, ◌||◌, So, true≢false, false≢true}
use mathlib.Core.List.Memᴰ
use mathlib.Core.List.{List, [], ◌∷◌, nil≢cons, cons≢nil, cons-eq-cons}
use Prim.Native.Nat.{ℕ, suc, ◌≤◌, ◌<◌}
use native.Mathlib.Omega.{arith}
use lib.Dec.{eqb, ltb}
use lib.ListN.{length}
use borrow.Author.Tests.{eqb-true, eq-eqb, ne_eqb, ltb-true}
use Rattle.semantics.specs.Lists.{bit, ◌∈◌, any, all, null, keep, count, mem, within, without, same, ascending}

-- ---- tests

pub and_iff : (a b : Bool) → So (a && b) ↔ (So a × So b)
and_iff true b = (λ h. (refl, h), λ h. h.1)
and_iff false b = (λ h. absurd (false≢true h), λ h. h.0)

pub not_iff : (a : Bool) → So (not a) ↔ ¬ So a
not_iff true = (λ h k. false≢true h, λ h. absurd (h refl))
not_iff false = (λ h k. false≢true k, λ h. refl)

pub or_iff : (a b : Bool) → So (a || b) ↔ (¬ So a → So b)
or_iff true b = (λ h k. absurd (k refl), λ h. refl)
or_iff false b = (λ h k. h, λ h. h (λ k. false≢true k))

pub or_left : (a b : Bool) → So a → So (a || b)
or_left a b h = (or_iff a b).1 (λ k. absurd (k h))

pub or_right : (a b : Bool) → So b → So (a || b)
or_right a b h = (or_iff a b).1 (λ k. h)

pub or_false : (b : Bool) → (b || false) ≡ b
or_false true = refl
or_false false = refl

pub so_dec : (b : Bool) → Dec (So b)
so_dec true = yes refl
so_dec false = no false≢true

pub so_by : (b : Bool) → ¬ ¬ So b → So b
so_by true h = refl
so_by false h = absurd (h false≢true)

pub not_so : {b : Bool} → b ≡ false → ¬ So b
not_so e h = true≢false (sym h ∙ e)

pub so_false : (b : Bool) → ¬ So b → b ≡ false
so_false true h = absurd (h refl)
so_false false h = refl

-- two tests that say the same are equal
pub so_ext : (a b : Bool) → (So a → So b) → (So b → So a) → a ≡ b
so_ext true b f g = sym (f refl)
so_ext false true f g = g refl
so_ext false false f g = refl

pub bit_le : (s t : Bool) → (So s → So t) → bit s ≤ bit t
bit_le true true h = omega arith
bit_le true false h = absurd (false≢true (h refl))
bit_le false t h = omega arith

pub bit_true : (s : Bool) → So s → bit s ≡ 1
bit_true true h = refl
bit_true false h = absurd (false≢true h)

pub bit_false : (s : Bool) → ¬ So s → bit s ≡ 0
bit_false true h = absurd (h refl)
bit_false false h = refl

pub bit_same : (s t : Bool) → bit s ≡ bit t → s ≡ t
bit_same true true h = refl
bit_same true false h = absurd (omega arith)
bit_same false true h = absurd (omega arith)
bit_same false false h = refl

pub bit_bound : (s : Bool) → bit s ≤ 1
bit_bound true = omega arith
bit_bound false = omega arith

-- ---- members of a list

module _ {A : Type 0} (p : A → Bool) where
  pub all_iff : (l : List A) → So (all p l) ↔ ((x : A) → x ∈ l → So (p x))
  all_iff l = (elims l, intro l)
    where
      elims : (l : List A) → So (all p l) → (x : A) → x ∈ l → So (p x)
      elims [] h x x4 = elim x4 [ ]
      elims (y ∷ l) h x (Memᴰ.head e) = subst (λ z. So (p z)) (sym e) ((and_iff _ _).0 h).0
      elims (y ∷ l) h x (Memᴰ.tail m) = elims l ((and_iff (p y) (all p l)).0 h).1 x m

      intro : (l : List A) → ((x : A) → x ∈ l → So (p x)) → So (all p l)
      intro [] h = refl
      intro (y ∷ l) h = (and_iff _ _).1 (h y (Memᴰ.head refl), intro l (λ x m. h x (Memᴰ.tail m)))

  pub any_iff : (l : List A) → So (any p l) ↔ ((x : A) × (x ∈ l) × So (p x))
  any_iff l = (elims l, λ h. intro l h.0 h.1 h.2)
    where
      step : (y : A) (l : List A) (b : Bool) → p y ≡ b → So (b || any p l) → (So (any p l) → (x : A) × (x ∈ l) × So (p x)) → (x : A) × (x ∈ y ∷ l) × So (p x)
      step y l true e h r = (y, Memᴰ.head refl, e)
      step y l false e h r = let w = r h in (w.0, Memᴰ.tail w.1, w.2)

      elims : (l : List A) → So (any p l) → (x : A) × (x ∈ l) × So (p x)
      elims [] h = absurd (false≢true h)
      elims (y ∷ l) h = step y l (p y) refl h (elims l)

      intro : (l : List A) (x : A) → x ∈ l → So (p x) → So (any p l)
      intro [] x x4 h = elim x4 [ ]
      intro (y ∷ l) x (Memᴰ.head e) h = subst (λ b. So (b || any p l)) (sym h ∙ ap p e) refl
      intro (y ∷ l) x (Memᴰ.tail m) h = or_right (p y) (any p l) (intro l x m h)

  -- a member of what is kept, a kept member
  pub keep_iff : (l : List A) (x : A) → (x ∈ keep p l) ↔ ((x ∈ l) × So (p x))
  keep_iff l x = (elims l, λ h. intro l h.0 h.1)
    where
      elims : (l : List A) → x ∈ keep p l → (x ∈ l) × So (p x)
      elims [] m = elim m [ ]
      elims (y ∷ l) m = go (p y) refl m (elims l)
        where
          go : (t : Bool) → p y ≡ t → x ∈ cond t (y ∷ keep p l) (keep p l) → (x ∈ keep p l → (x ∈ l) × So (p x)) → (x ∈ y ∷ l) × So (p x)
          go true e (Memᴰ.head q) f = (Memᴰ.head q, ap p q ∙ e)
          go true e (Memᴰ.tail q) f = (Memᴰ.tail (f q).0, (f q).1)
          go false e m f = (Memᴰ.tail (f m).0, (f m).1)

      intro : (l : List A) → x ∈ l → So (p x) → x ∈ keep p l
      intro [] x3 h = elim x3 [ ]
      intro (y ∷ l) (Memᴰ.head e) h = let k : p y ≡ true = ap p (sym e) ∙ h in rw k (Memᴰ.head e)
      intro (y ∷ l) (Memᴰ.tail m) h = go (p y) (intro l m h)
        where
          go : (t : Bool) → x ∈ keep p l → x ∈ cond t (y ∷ keep p l) (keep p l)
          go true m = Memᴰ.tail m
          go false m = m

pub mem_iff : (a : ℕ) (l : List ℕ) → So (mem a l) ↔ (a ∈ l)
mem_iff a l = (
  λ h. let w = (any_iff _ _).0 h in Memᴰ.cast (eqb-true _ _ w.2) w.1,
  λ m. (any_iff _ _).1 (a, m, eq-eqb a a refl),
)

pub within_iff : (k l : List ℕ) → So (within k l) ↔ ((a : ℕ) → a ∈ k → a ∈ l)
within_iff k l = (
  λ h a m. (mem_iff _ _).0 ((all_iff _ _).0 h a m),
  λ h. (all_iff _ _).1 (λ a m. (mem_iff _ _).1 (h a m)),
)

pub null_iff : {A : Type 0} (l : List A) → So (null l) ↔ (l ≡ [])
null_iff [] = (λ h. refl, λ h. refl)
null_iff (x ∷ l) = (λ h. absurd (false≢true h), λ h. absurd (cons≢nil h))

pub same_iff : (k l : List ℕ) → So (same k l) ↔ (k ≡ l)
unfolding same
same_iff [] [] = (λ h. refl, λ e. refl)
same_iff [] (y ∷ l) = (λ h. absurd (false≢true h), λ e. absurd (nil≢cons e))
same_iff (x ∷ k) [] = (λ h. absurd (false≢true h), λ e. absurd (cons≢nil e))
same_iff (x ∷ k) (y ∷ l) = (
  λ h. let w = (and_iff (eqb x y) (same k l)).0 h in cons-eq-cons.1 (eqb-true x y w.0, (same_iff k l).0 w.1),
  λ e. let w = cons-eq-cons.0 e in (and_iff (eqb x y) (same k l)).1 (eq-eqb x y w.0, (same_iff k l).1 w.1),
)

-- ---- a number taken out of a list

pub without_sub : (a b : ℕ) (l : List ℕ) → b ∈ without a l → b ∈ l
without_sub a b [] m = elim m [ ]
without_sub a b (x ∷ l) m = step (eqb a x) (λ k. without_sub _ _ _ k) m
  where
    step : (t : Bool) → (b ∈ without a l → b ∈ l) → b ∈ cond t (without a l) (x ∷ without a l) → b ∈ x ∷ l
    step true f m = Memᴰ.tail (f m)
    step false f (Memᴰ.head e) = Memᴰ.head e
    step false f (Memᴰ.tail m) = Memᴰ.tail (f m)

pub without_keeps : (a b : ℕ) (l : List ℕ) → b ∈ l → b ≢ a → b ∈ without a l
without_keeps a b [] m d = elim m [ ]
without_keeps a b (x ∷ l) m d = step (eqb a x) refl (λ k. without_keeps _ _ _ k d) (Memᴰ.cases_cons m)
  where
    step : (t : Bool) → eqb a x ≡ t → (b ∈ l → b ∈ without a l) → (b ≡ x) ⊎ (b ∈ l) → b ∈ cond t (without a l) (x ∷ without a l)
    step true q f (inl e) = absurd (d (e ∙ sym (eqb-true _ _ q)))
    step true q f (inr m) = f m
    step false q f (inl e) = Memᴰ.head e
    step false q f (inr m) = Memᴰ.tail (f m)

pub without_out : (a : ℕ) (l : List ℕ) → ¬ (a ∈ without a l)
without_out a [] m = elim m [ ]
without_out a (x ∷ l) m = step (eqb a x) refl (without_out a l) m
  where
    step : (t : Bool) → eqb a x ≡ t → ¬ (a ∈ without a l) → ¬ (a ∈ cond t (without a l) (x ∷ without a l))
    step true q f m = f m
    step false q f (Memᴰ.head e) = not_so q (eq-eqb _ _ e)
    step false q f (Memᴰ.tail m) = f m

pub without_none : (a : ℕ) (l : List ℕ) → ¬ (a ∈ l) → without a l ≡ l
without_none a [] h = refl
without_none a (x ∷ l) h = rw (ne_eqb _ _ (λ e. h (Memᴰ.head e)), without_none a l (λ m. h (Memᴰ.tail m)))

-- a number stands once in an ascending list
pub length_without : (a : ℕ) (l : List ℕ) → So (ascending l) → a ∈ l → suc (length (without a l)) ≡ length l
unfolding ascending
length_without a [] s x'' = elim x'' [ ]
length_without a (x ∷ l) s (Memᴰ.head e) =
    let w = (and_iff _ _).0 s in
    rw (eq-eqb _ _ e, without_none a l (λ m. let k = ltb-true x a ((all_iff (λ y. ltb x y) l).0 w.0 a m) in omega arith))
length_without a (x ∷ l) s (Memᴰ.tail m) =
    let w = (and_iff _ _).0 s in
    let k = ltb-true x a ((all_iff _ _).0 w.0 a m) in
    rw (ne_eqb a x (λ e. omega arith)) (ap suc (length_without a l w.1 m))

pub ascending_without : (a : ℕ) (l : List ℕ) → So (ascending l) → So (ascending (without a l))
unfolding ascending
ascending_without a [] s = refl
ascending_without a (x ∷ l) s = step (eqb a x) ((and_iff _ _).0 s) (ascending_without a l)
  where
    step : (t : Bool) → So (all (λ y. ltb x y) l) × So (ascending l) → (So (ascending l) → So (ascending (without a l))) → So (ascending (cond t (without a l) (x ∷ without a l)))
    step true w r = r w.1
    step false w r = (and_iff _ _).1
        ((all_iff _ _).1 (λ y m. (all_iff _ _).0 w.0 y (without_sub a y l m)), r w.1)

-- ---- how many elements pass a test

module _ {A : Type 0} where
  pub count_bound : (f : A → Bool) (l : List A) → count f l ≤ length l
  count_bound f [] = omega arith
  count_bound f (x ∷ l) = omega (arith, bit_bound (f x), count_bound f l)

  pub count_none : (f : A → Bool) (l : List A) → count f l ≤ 0 → (x : A) → x ∈ l → ¬ So (f x)
  count_none f [] h x x5 q = elim x5 [ ]
  count_none f (y ∷ l) h x (Memᴰ.head e) q =
      let b = bit_true _ (subst (λ z. So (f z)) e q) in omega arith
  count_none f (y ∷ l) h x (Memᴰ.tail m) q =
      count_none f l (omega arith) x m q

  module _ (f g : A → Bool) (h : (x : A) → So (f x) → So (g x)) where
    pub count_le : (l : List A) → count f l ≤ count g l
    count_le [] = omega arith
    count_le (x ∷ l) = omega (arith, bit_le _ _ (h x), count_le l)

    pub count_lt : (l : List A) (x : A) → x ∈ l → So (g x) → ¬ So (f x) → count f l < count g l
    count_lt [] x x5 q n = elim x5 [ ]
    count_lt (y ∷ l) x (Memᴰ.head e) q n =
        omega (arith, bit_true _ (subst (λ z. So (g z)) e q), bit_false _ (λ k. n (subst (λ z. So (f z)) (sym e) k)), count_le l)
    count_lt (y ∷ l) x (Memᴰ.tail m) q n = omega (arith, bit_le _ _ (h y), count_lt l x m q n)
