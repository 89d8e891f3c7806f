-- Kept heads of an atom, counted clause by clause.
use mathlib.Core.Path.{◌≡◌, refl, sym, ap, subst, ◌∙◌}
use mathlib.Core.Logic.{◌↔◌, by_cases}
use mathlib.Core.Bool.{Bool, true, false, not, cond, ◌&&◌, So}
use mathlib.Core.List.Memᴰ
use mathlib.Core.List.{List, [], ◌∷◌, ◌++◌}
use Prim.Native.Nat.{ℕ, ◌+◌, ◌-◌, ◌≤◌, ◌<◌}
use native.Mathlib.Omega.{arith}
use native.Mathlib.Decide.{ℕ_discrete, dec_lt}
use native.Mathlib.Numerals.{add-one}
use lib.Dec.{eqb}
use lib.ListN.{length, get_or, set, take, replicate, length-set, length-take, length-replicate, get_or-eq_default}
use lib.Seq.{get_or-set_same, get_or-set_other, take-suc, take_all}
use borrow.Author.Tests.{eqb-true, eq-eqb, ne_eqb}
use Rattle.semantics.specs.Lists.{◌∈◌, mem, count, bit, ascending}
use Rattle.semantics.specs.Programs.{Clause}
use Rattle.semantics.proofs.Tests.{mem_iff, so_false, so_ext, bit_false, bit_bound, count_bound, count_none}
use Rattle.rewriting.specs.Marked.{Marked, gone, entry, left}
use Rattle.rewriting.specs.Steps.{in_no_head, headed}
use Rattle.rewriting.specs.declared.Kind.TheVariants.{Loop as loop}
use Rattle.rewriting.specs.Reaches.{reach}
use Rattle.rewriting.proofs.Reach.{in_no_head_iff}
use Rattle.rewriting.proofs.Left.{left_each, left_le}
use Rattle.table.specs.Questions.{Passed}
use Rattle.table.specs.View.{view}
use Rattle.table.proofs.View.{length_view}
use Rattle.table.proofs.Parts.{view_straight}
use Rattle.step_parts.proofs.Walked.{all_above}
use Rattle.table.proofs.Slices.{zero_at}
use Rattle.step_reach.specs.Bytes.{in_bytes, Reached}
use Rattle.step_conditions.specs.Known.{head_count, Heads, Tallied, Positive}

-- "in the head of no kept clause" by the count
pub no_head_count : (cs : List Clause) (a : ℕ) → So (in_no_head cs a) ↔ (head_count cs a ≡ 0)
no_head_count cs a = (
  λ h. none cs ((in_no_head_iff cs a).0 h),
  λ e. (in_no_head_iff cs a).1 (λ c m k. count_none (λ c. mem a c.head) cs (omega arith) c m ((mem_iff _ _).1 k)),
)
  where
    none : (cs : List Clause) → ((c : Clause) → c ∈ cs → ¬ (a ∈ c.head)) → head_count cs a ≡ 0
    none [] h = refl
    none (c ∷ cs) h = omega (arith, bit_false (mem a c.head) (λ k. h c (Memᴰ.head refl) ((mem_iff _ _).0 k)), none cs (λ d m. h d (Memᴰ.tail m)))

pub no_head_is : (cs : List Clause) (a k : ℕ) → k ≡ head_count cs a → eqb k 0 ≡ in_no_head cs a
no_head_is cs a k e = so_ext (eqb k 0) (in_no_head cs a) (λ h. (no_head_count cs a).1 (sym e ∙ eqb-true _ _ h)) (λ h. eq-eqb _ _ (e ∙ (no_head_count cs a).0 h))

-- in a kept head and outside the reach, by the count and the byte
pub loop_atom_is : (ws ms hs rs : List ℕ) (a : ℕ) → Heads ws ms hs → Reached ws ms rs
    → (not (eqb (get_or hs a 0) 0) && not (in_bytes rs a)) ≡ (headed loop (left (view ws ms)) a && not (reach (left (view ws ms)) a))
loop_atom_is ws ms hs rs a h r = ap (λ x. not x && not (in_bytes rs a)) (no_head_is (left (view ws ms)) a (get_or hs a 0) (h.is a)) ∙ ap (λ x. not (in_no_head (left (view ws ms)) a) && not x) (r.is a)

-- ---- atom by atom

-- what is left of a list, counted now, gives what the whole gave at first
pub record Tallying (all s₀ s rest : List ℕ) : Type 0 where
  pub same : length s ≡ length s₀
  pub at : (a : ℕ) → a < length s₀ → get_or s a 0 + bit (mem a rest) ≡ get_or s₀ a 0 + bit (mem a all)
  pub past : (a : ℕ) → length s₀ ≤ a → get_or s a 0 ≡ 0
  pub rises : So (ascending rest)
  pub inside : (a : ℕ) → a ∈ rest → a ∈ all

pub tally_start : (all s : List ℕ) → So (ascending all) → Tallying all s s all
tally_start all s o = record { same = refl; at = λ a h. refl; past = λ a h. get_or-eq_default s 0 h; rises = o; inside = λ a m. m }

-- the next atom is not among those that follow
module _ {rest : List ℕ} (w : ℕ) (later : List ℕ) (e : rest ≡ w ∷ later) (o : So (ascending rest)) where
  apart : (So (ascending later)) × ((a : ℕ) → a ∈ later → w < a)
  apart = all_above w later (subst (λ l. So (ascending l)) e o)

  alone : mem w later ≡ false
  alone = so_false (mem w later) (λ m. omega (arith, apart.1 w ((mem_iff _ _).0 m)))

  here : mem w rest ≡ true
  here = rw (e, eq-eqb w w refl)

  there : (a : ℕ) → (a ≡ w → ⊥) → mem a rest ≡ mem a later
  there a n = rw (e, ne_eqb a w n)

  first_in : w ∈ rest
  first_in = subst (λ l. w ∈ l) (sym e) (Memᴰ.head refl)

module _ (all s₀ s : List ℕ) {rest : List ℕ} (w : ℕ) (later : List ℕ) (t : Tallying all s₀ s rest) (e : rest ≡ w ∷ later) where
  pub tally_room : ((a : ℕ) → get_or s₀ a 0 < 65535) → get_or s w 0 < 65535
  tally_room b = by_cases (dec_lt w (length s₀))
      (λ k. omega (arith, ap (λ x. get_or s w 0 + bit x) (sym (here w later e t.rises)) ∙ t.at w k, b w, bit_bound (mem w all)))
      (λ k. omega (arith, t.past w (omega arith)))

  pub tally_on : (s' : List ℕ) → s' ≡ set s w (get_or s w 0 + 1) → Tallying all s₀ s' later
  tally_on s' d = record {
    same = long ∙ t.same;
    at = λ a k. by_cases (ℕ_discrete a w)
        (λ q. rw (d, q, get_or-set_same s w (get_or s w 0 + 1) 0 (omega (arith, t.same)), alone w later e t.rises) (omega (arith, ap (λ x. get_or s w 0 + bit x) (sym (here w later e t.rises)) ∙ t.at w (omega arith))))
        (λ q. rw (d, get_or-set_other s w a (get_or s w 0 + 1) 0 q) (ap (λ x. get_or s a 0 + bit x) (sym (there w later e t.rises a q)) ∙ t.at a k));
    past = λ a k. get_or-eq_default s' 0 (omega (arith, long, t.same));
    rises = (apart w later e t.rises).0;
    inside = λ a m. t.inside a (subst (λ l. a ∈ l) (sym e) (Memᴰ.tail m));
  }
    where
      long : length s' ≡ length s
      long = ap length d ∙ length-set s w (get_or s w 0 + 1)

-- The other way: the counts now, with what the whole gives, are those at first with what is left.
module _ (all s s₀ : List ℕ) {rest : List ℕ} (w : ℕ) (later : List ℕ) (t : Tallying all s s₀ rest) (e : rest ≡ w ∷ later) where
  here_less : w < length s → get_or s₀ w 0 + 1 ≡ get_or s w 0 + bit (mem w all)
  here_less k = ap (λ x. get_or s₀ w 0 + bit x) (sym (here w later e t.rises)) ∙ t.at w k

  -- the atom is counted as it was at first
  pub untally_room : Positive all s₀ → 0 < get_or s w 0
  untally_room p = by_cases (dec_lt w (length s))
      (λ k. omega (arith, here_less k, p.above w within, bit_bound (mem w all)))
      (λ k. let z = t.past w (omega arith) in absurd (omega (arith, p.above w within)))
    where
      within : w ∈ all
      within = t.inside w (first_in w later e t.rises)

  pub untally_on : 0 < get_or s w 0 → (s' : List ℕ) → s' ≡ set s w (get_or s w 0 - 1) → Tallying all s' s₀ later
  untally_on b s' d = record {
    same = t.same ∙ sym long;
    at = λ a k. by_cases (ℕ_discrete a w)
        (λ q. rw (d, q, get_or-set_same s w (get_or s w 0 - 1) 0 (omega (arith, long)), alone w later e t.rises) (omega (arith, here_less (omega (arith, long)), b)))
        (λ q. rw (d, get_or-set_other s w a (get_or s w 0 - 1) 0 q) (ap (λ x. get_or s₀ a 0 + bit x) (sym (there w later e t.rises a q)) ∙ t.at a (omega (arith, long, k))));
    past = λ a k. t.past a (omega (arith, long));
    rises = (apart w later e t.rises).0;
    inside = λ a m. t.inside a (subst (λ l. a ∈ l) (sym e) (Memᴰ.tail m));
  }
    where
      long : length s' ≡ length s
      long = ap length d ∙ length-set s w (get_or s w 0 - 1)

-- an atom of a kept clause's head is counted
pub heads_positive : (ws ms hs : List ℕ) (t : ℕ) → Heads ws ms hs → So (entry (view ws ms) t).kept → Positive (entry (view ws ms) t).clause.head hs
heads_positive ws ms hs t h k = record {
  above = λ a m. by_cases (ℕ_discrete (get_or hs a 0) 0)
      (λ e. absurd ((left_each (λ c. ¬ (a ∈ c.head)) (view ws ms)).0 ((in_no_head_iff (left (view ws ms)) a).0 ((no_head_count (left (view ws ms)) a).1 (sym (h.is a) ∙ e))) t k m))
      (λ e. omega arith);
}

pub tally_end : (all s₀ s : List ℕ) {rest : List ℕ} → rest ≡ [] → Tallying all s₀ s rest → Tallied all s₀ s
tally_end all s₀ s e t = record { same = t.same; at = λ a k. omega (arith, ap (λ l. get_or s a 0 + bit (mem a l)) (sym e) ∙ t.at a k) }

-- ---- clause by clause

module _ {A : Type 0} where
  count_append : (f : A → Bool) (k l : List A) → count f (k ++ l) ≡ count f k + count f l
  count_append f [] l = omega arith
  count_append f (x ∷ k) l = omega (arith, count_append f k l)

left_append : (P Q : Marked) → left (P ++ Q) ≡ left P ++ left Q
unfolding left
left_append [] Q = refl
left_append (e ∷ P) Q = go e.kept (left_append P Q)
  where
    go : (t : Bool) → left (P ++ Q) ≡ left P ++ left Q → cond t (e.clause ∷ left (P ++ Q)) (left (P ++ Q)) ≡ cond t (e.clause ∷ left P) (left P) ++ left Q
    go true r = ap (λ l. e.clause ∷ l) r
    go false r = r

-- the heads of the clauses before t
abbrev pub heads_to : Marked → ℕ → ℕ → ℕ
heads_to P t a = head_count (left (take t P)) a

module _ (P : Marked) (t : ℕ) (h : t < length P) (a : ℕ) where
  heads_to_suc : heads_to P (t + 1) a ≡ heads_to P t a + head_count (left (entry P t ∷ [])) a
  heads_to_suc = rw (add-one t, take-suc P t gone h, left_append (take t P) (entry P t ∷ [])) (count_append (λ c. mem a c.head) (left (take t P)) (left (entry P t ∷ [])))

  pub heads_past : (entry P t).kept ≡ false → heads_to P (t + 1) a ≡ heads_to P t a
  unfolding left
  heads_past e = heads_to_suc ∙ rw e (omega arith)

  pub heads_on : (entry P t).kept ≡ true → heads_to P (t + 1) a ≡ heads_to P t a + bit (mem a (entry P t).clause.head)
  unfolding left
  heads_on e = heads_to_suc ∙ rw e (omega arith)

pub heads_to_bound : (P : Marked) (t a : ℕ) → heads_to P t a ≤ t
heads_to_bound P t a = omega (arith, count_bound (λ c. mem a c.head) (left (take t P)), left_le (take t P), length-take t P)

-- the counts of the clauses before t
pub record Counting (P : Marked) (n : ℕ) (s : List ℕ) (t : ℕ) : Type 0 where
  pub room : n ≤ length s
  pub at : (a : ℕ) → a < length s → get_or s a 0 ≡ heads_to P t a

pub counting_start : (P : Marked) (n k : ℕ) (s : List ℕ) → n ≤ k → s ≡ replicate k 0 → Counting P n s 0
unfolding left
counting_start P n k s h e = record { room = rw (e, length-replicate {A = ℕ} k 0) h; at = λ a _. rw e (zero_at k a) }

module _ (P : Marked) (n : ℕ) (s : List ℕ) (t : ℕ) (h : t < length P) (w : Counting P n s t) where
  pub counting_past : (entry P t).kept ≡ false → Counting P n s (t + 1)
  counting_past e = record { room = w.room; at = λ a k. w.at a k ∙ sym (heads_past P t h a e) }

  pub counting_on : (s' : List ℕ) → (entry P t).kept ≡ true → Tallied (entry P t).clause.head s s' → Counting P n s' (t + 1)
  counting_on s' e y = record { room = omega (arith, w.room, y.same); at = λ a k. let b : a < length s = omega (arith, y.same) in y.at a b ∙ ap (λ x. x + bit (mem a (entry P t).clause.head)) (w.at a b) ∙ sym (heads_on P t h a e) }

  pub counting_room : t < 65535 → (a : ℕ) → get_or s a 0 < 65535
  counting_room b a = by_cases (dec_lt a (length s)) (λ k. omega (arith, w.at a k, heads_to_bound P t a)) (λ k. omega (arith, get_or-eq_default s 0 (let q : length s ≤ a = omega arith in q)))

pub counting_end : (ws ms s : List ℕ) (t : ℕ) → Passed ws → get_or ws 1 0 ≤ t → Counting (view ws ms) (get_or ws 0 0) s t → Heads ws ms s
counting_end ws ms s t p h w = record {
  is = λ a. by_cases (dec_lt a (length s))
      (λ k. w.at a k ∙ ap (λ P. head_count (left P) a) (take_all t (view ws ms) (omega (arith, length_view ws ms))))
      (λ k. get_or-eq_default s 0 (let q : length s ≤ a = omega arith in q) ∙ sym ((no_head_count (left (view ws ms)) a).0 ((in_no_head_iff (left (view ws ms)) a).1 ((left_each (λ c. ¬ (a ∈ c.head)) (view ws ms)).1 (λ i _ m. omega (arith, (view_straight ws ms p i).head_below a m, w.room))))));
}
