-- The sets of kind 9 as bytes: the marks that D goes by, D, and the atoms that occur.
use mathlib.Core.Path.{◌≡◌, refl, sym, ap, subst, ◌∙◌}
use mathlib.Core.Logic.{◌⊎◌, inl, inr, ⊎_elim, by_cases}
use mathlib.Core.Bool.{Bool, true, false, cond, ◌&&◌, ◌||◌, So, false≢true}
use mathlib.Core.List.{List, [], ◌∷◌, ◌++◌, map}
use Prim.Native.Nat.{ℕ, zero, suc, ◌+◌, ◌≤◌, ◌<◌}
use native.Mathlib.Omega.{arith}
use native.Mathlib.Decide.{ℕ_discrete, dec_lt}
use lib.ListN.{length, get_or, set, take, drop, replicate, get_or-eq_default, get_or-append, length-take}
use lib.Seq.{get_or-set_same, get_or-set_other, get_or-take}
use Rattle.semantics.specs.Lists.{◌∈◌, any, mem, keep}
use Rattle.semantics.specs.Programs.{Clause, Atoms, Subset}
use Rattle.semantics.proofs.Tests.{mem_iff, any_iff, so_ext, or_left, or_right}
use Rattle.rewriting.specs.Marked.{Entry, Marked, gone, entry, left}
use Rattle.rewriting.specs.Reach.{closed}
use Rattle.rewriting.proofs.Left.{left_each, kept_lt}
use Rattle.table.specs.Questions.{Passed}
use Rattle.table.specs.Places.{head_at, pos_at, neg_at, next_at, start_of}
use Rattle.table.specs.View.{entry_at, view}
use Rattle.table.proofs.Places.{passed_good}
use Rattle.table.proofs.View.{entries_from_set, entry_view, length_view}
use Rattle.step_reach.specs.Bytes.{in_bytes, ReachedWith}
use Rattle.step_reach.specs.Counts.{Joined}
use Rattle.step_reach.proofs.Laws.{none_in}
use Rattle.rewriting.specs.Consequences.{definite, consequences}
use Rattle.rewriting.specs.Exclusion.{occurs}
use Rattle.rewriting.proofs.Consequences.{consequences_are}
use Rattle.table.proofs.Clearing.{part_agree, entry_agree}
use Rattle.step_exclusion.specs.Exclusions.{narrowed, Narrowed, ConsequencesIn, Occurring}

-- ---- the clauses that D goes by

-- Those before t are sorted out.
pub record Narrowing (ws ms : List ℕ) (t : ℕ) (ks : List ℕ) : Type 0 where
  pub before : (s : ℕ) → s < t → entry (view ws ks) s ≡ narrowed (entry (view ws ms) s)
  pub after : (s : ℕ) → t ≤ s → entry (view ws ks) s ≡ entry (view ws ms) s

entry_past : (ws ms : List ℕ) (s : ℕ) → get_or ws 1 0 ≤ s → entry (view ws ms) s ≡ gone
entry_past ws ms s h = get_or-eq_default (view ws ms) gone (omega (arith, length_view ws ms))

-- marks that are copied over the first n
pub copied_marks : (ms old : List ℕ) (n : ℕ) → n ≤ length ms → (i : ℕ) → i < n → get_or (take n ms ++ drop n old) i 0 ≡ get_or ms i 0
copied_marks ms old n l i h = get_or-append (take n ms) (drop n old) 0 i (simp length-take (omega arith)) ∙ get_or-take n ms i 0 h

-- the same, one mark after the other
pub copy_on : (ms ks : List ℕ) (i : ℕ) → i < length ks → ((j : ℕ) → j < i → get_or ks j 0 ≡ get_or ms j 0) → (j : ℕ) → j < i + 1 → get_or (set ks i (get_or ms i 0)) j 0 ≡ get_or ms j 0
copy_on ms ks i l h j k = by_cases (ℕ_discrete j i)
    (λ e. rw (e, get_or-set_same ks i (get_or ms i 0) 0 l))
    (λ e. get_or-set_other ks i j (get_or ms i 0) 0 e ∙ h j (omega arith))

pub narrow_start : (ws ms ks : List ℕ) → Passed ws → ((i : ℕ) → i < length ws → get_or ks i 0 ≡ get_or ms i 0) → Narrowing ws ms 0 ks
narrow_start ws ms ks p h = record {
  before = λ s l. absurd (omega arith);
  after = λ s _. by_cases (dec_lt s (get_or ws 1 0))
      (λ l. entry_view ws ks s l ∙ entry_agree ws ks ms (start_of ws s) (λ i a b. h i (omega (arith, (passed_good ws p s l).fits))) ∙ sym (entry_view ws ms s l))
      (λ l. entry_past ws ks s (omega arith) ∙ sym (entry_past ws ms s (omega arith)));
}

and_true : (b : Bool) → (b && true) ≡ b
and_true true = refl
and_true false = refl

and_false : (b : Bool) → (b && false) ≡ false
and_false true = refl
and_false false = refl

module _ (ws ms : List ℕ) (t : ℕ) (ks : List ℕ) (n : Narrowing ws ms t ks) where
  pub narrow_past : definite (entry (view ws ms) t).clause ≡ true → Narrowing ws ms (t + 1) ks
  narrow_past d = record {
    before = λ s l. by_cases (ℕ_discrete s t) (λ e. rw e (n.after t (omega arith) ∙ sym (same (entry (view ws ms) t) d))) (λ e. n.before s (omega arith));
    after = λ s l. n.after s (omega arith);
  }
    where
      same : (e : Entry) → definite e.clause ≡ true → narrowed e ≡ e
      same e d = rw (d, and_true e.kept)

  module _ (h : t < get_or ws 1 0) (long : next_at ws (start_of ws t) ≤ length ks) where
    abbrev at : ℕ
    at = start_of ws t

    without_first : entry_at ws (set ks at 0) at ≡ record { kept = false; clause = (entry_at ws ks at).clause }
    unfolding entry_at
    without_first = rw (
      get_or-set_same ks at 0 0 (omega arith),
      part_agree ws (set ks at 0) ks (head_at at) (get_or ws at 0) (λ i x y. get_or-set_other ks at i 0 0 (λ e. omega arith)),
      part_agree ws (set ks at 0) ks (pos_at ws at) (get_or ws (at + 1) 0) (λ i x y. get_or-set_other ks at i 0 0 (λ e. omega arith)),
      part_agree ws (set ks at 0) ks (neg_at ws at) (get_or ws (at + 2) 0) (λ i x y. get_or-set_other ks at i 0 0 (λ e. omega arith)),
    )

    set_view : view ws (set ks at 0) ≡ set (view ws ks) t (record { kept = false; clause = (entry (view ws ks) t).clause })
    unfolding view
    set_view = entries_from_set ws ks at 0 (get_or ws 1 0) 2 t (omega arith) (omega arith) h ∙ ap (set (view ws ks) t) (without_first ∙ ap (λ e. record { kept = false; clause = e.clause }) (sym (entry_view ws ks t h)))

    other : (s : ℕ) → (s ≡ t → ⊥) → entry (view ws (set ks at 0)) s ≡ entry (view ws ks) s
    other s e = ap (λ P. entry P s) set_view ∙ get_or-set_other (view ws ks) t s _ gone e

    pub narrow_on : definite (entry (view ws ms) t).clause ≡ false → Narrowing ws ms (t + 1) (set ks at 0)
    narrow_on d = record {
      before = λ s l. by_cases (ℕ_discrete s t)
          (λ e. rw e (ap (λ P. entry P t) set_view ∙ get_or-set_same (view ws ks) t _ gone (omega (arith, length_view ws ks)) ∙ ap (λ e. record { kept = false; clause = e.clause }) (n.after t (omega arith)) ∙ sym (lost (entry (view ws ms) t) d)))
          (λ e. other s e ∙ n.before s (omega arith));
      after = λ s l. other s (λ e. omega arith) ∙ n.after s (omega arith);
    }
      where
        lost : (e : Entry) → definite e.clause ≡ false → narrowed e ≡ record { kept = false; clause = e.clause }
        lost e d = rw (d, and_false e.kept)

pub narrow_at : (ws ms : List ℕ) (t : ℕ) (ks : List ℕ) (at : ℕ) → at ≡ start_of ws t → Narrowing ws ms t ks → t < get_or ws 1 0 → next_at ws at ≤ length ks → definite (entry (view ws ms) t).clause ≡ false → Narrowing ws ms (t + 1) (set ks at 0)
narrow_at ws ms t ks i e n h l d = subst (λ x. Narrowing ws ms (t + 1) (set ks x 0)) (sym e) (narrow_on ws ms t ks n h (subst (λ x. next_at ws x ≤ length ks) e l) d)

entry_map : (P : Marked) (s : ℕ) → entry (map narrowed P) s ≡ narrowed (entry P s)
entry_map [] s = refl
entry_map (e ∷ P) zero = refl
entry_map (e ∷ P) (suc s) = entry_map P s

length_map : (P : Marked) → length (map narrowed P) ≡ length P
length_map [] = refl
length_map (e ∷ P) = ap suc (length_map P)

entries_ext : (P Q : Marked) → length P ≡ length Q → ((s : ℕ) → entry P s ≡ entry Q s) → P ≡ Q
entries_ext [] [] l h = refl
entries_ext [] (e ∷ Q) l h = absurd (omega arith)
entries_ext (e ∷ P) [] l h = absurd (omega arith)
entries_ext (d ∷ P) (e ∷ Q) l h = rw (h zero, entries_ext P Q (omega arith) (λ s. h (suc s)))

pub narrow_end : (ws ms : List ℕ) (t : ℕ) (ks : List ℕ) → get_or ws 1 0 ≤ t → Narrowing ws ms t ks → Narrowed ws ms ks
narrow_end ws ms t ks h n = record {
  is = entries_ext (view ws ks) (map narrowed (view ws ms)) (length_view ws ks ∙ sym (length_map (view ws ms) ∙ length_view ws ms)) (λ s. by_cases (dec_lt s t)
      (λ l. n.before s l ∙ sym (entry_map (view ws ms) s))
      (λ l. entry_past ws ks s (omega arith) ∙ sym (entry_map (view ws ms) s ∙ ap narrowed (entry_past ws ms s (omega arith)))));
}

left_narrowed : (P : Marked) → left (map narrowed P) ≡ keep definite (left P)
unfolding left
left_narrowed [] = refl
left_narrowed (e ∷ P) = go e.kept (definite e.clause) refl (left_narrowed P)
  where
    go : (k d : Bool) → definite e.clause ≡ d → left (map narrowed P) ≡ keep definite (left P) → cond (k && d) (e.clause ∷ left (map narrowed P)) (left (map narrowed P)) ≡ keep definite (cond k (e.clause ∷ left P) (left P))
    go true true q r = rw (q, r)
    go true false q r = rw (q, r)
    go false d q r = r

-- the clauses are as they were
pub narrowed_clause : (ws ms ks : List ℕ) → Narrowed ws ms ks → (t : ℕ) → (entry (view ws ks) t).clause ≡ (entry (view ws ms) t).clause
narrowed_clause ws ms ks n t = ap (λ P. (entry P t).clause) n.is ∙ ap (λ e. e.clause) (entry_map (view ws ms) t)

-- ---- D

pub consequences_by : (ws ms ks : List ℕ) (a : ℕ) (s : List ℕ) → Narrowed ws ms ks → ReachedWith ws ks a s → ConsequencesIn ws ms a s
consequences_by ws ms ks a s n r =
    let cs = left (view ws ms) in
    let e : left (view ws ks) ≡ keep definite cs = ap left n.is ∙ left_narrowed (view ws ms) in
    let f = consequences_are cs a in
    record {
      is = λ b. so_ext (in_bytes s b) (consequences cs a b)
          (r.least (consequences cs a) f.start (subst (λ l. So (closed (consequences cs a) l)) (sym e) f.holds) b)
          (f.least (in_bytes s) r.joins (subst (λ l. So (closed (in_bytes s) l)) e r.holds) b);
    }

-- of the same bytes
pub consequences_as : {ws ms s s' : List ℕ} {a : ℕ} → s' ≡ s → ConsequencesIn ws ms a s → ConsequencesIn ws ms a s'
consequences_as e r = rw e r

-- ---- the atoms that occur

or_cases : (a b : Bool) → So (a || b) → So a ⊎ So b
or_cases true b h = inl refl
or_cases false b h = inr h

pub joined_three : (c : Clause) {s q s₁ q₁ s₂ q₂ s₃ q₃ : List ℕ} {k k₁ k₂ k₃ : ℕ} → Joined (λ a. a ∈ c.head) s q k s₁ q₁ k₁ → Joined (λ a. a ∈ c.pos) s₁ q₁ k₁ s₂ q₂ k₂ → Joined (λ a. a ∈ c.neg) s₂ q₂ k₂ s₃ q₃ k₃
    → Joined (λ a. So (occurs a c)) s q k s₃ q₃ k₃
joined_three c f g h = record {
  holds = λ a x. ⊎_elim (λ m. h.more a (g.more a (f.holds a ((mem_iff _ _).0 m))))
      (λ y. ⊎_elim (λ m. h.more a (g.holds a ((mem_iff _ _).0 m))) (λ m. h.holds a ((mem_iff _ _).0 m)) (or_cases (mem a c.pos) (mem a c.neg) y))
      (or_cases (mem a c.head) (mem a c.pos || mem a c.neg) x);
  only = λ T i t. h.only T
      (g.only T (f.only T i (λ a m. t a (or_left (mem a c.head) _ ((mem_iff _ _).1 m)))) (λ a m. t a (or_right (mem a c.head) _ (or_left (mem a c.pos) _ ((mem_iff _ _).1 m)))))
      (λ a m. t a (or_right (mem a c.head) _ (or_right (mem a c.pos) _ ((mem_iff _ _).1 m))));
  more = λ a m. h.more a (g.more a (f.more a m));
  long = h.long ∙ g.long ∙ f.long;
  longer = omega (arith, f.longer, g.longer, h.longer);
  before = λ j l. h.before j (omega (arith, f.longer, g.longer)) ∙ g.before j (omega (arith, f.longer)) ∙ f.before j l;
  queued = h.queued;
}

-- Those of the clauses before t.
pub record Seen (ws ms : List ℕ) (t : ℕ) (s : List ℕ) : Type 0 where
  pub holds : (u : ℕ) → u < t → So (entry (view ws ms) u).kept → (a : ℕ) → So (occurs a (entry (view ws ms) u).clause) → So (in_bytes s a)
  pub only : (T : Atoms) → ((u : ℕ) → u < t → So (entry (view ws ms) u).kept → (a : ℕ) → So (occurs a (entry (view ws ms) u).clause) → So (T a)) → Subset (in_bytes s) T

pub seen_none : (ws ms : List ℕ) (k : ℕ) (s : List ℕ) → s ≡ replicate k 0 → Seen ws ms 0 s
seen_none ws ms k s e = record { holds = λ u l. absurd (omega arith); only = λ T h. rw e (λ b m. absurd (none_in k b m)) }

module _ (ws ms : List ℕ) (t : ℕ) {s : List ℕ} (n : Seen ws ms t s) where
  pub seen_past : (entry (view ws ms) t).kept ≡ false → Seen ws ms (t + 1) s
  seen_past d = record {
    holds = λ u l k. by_cases (ℕ_discrete u t) (λ e. absurd (false≢true (sym d ∙ subst (λ v. So (entry (view ws ms) v).kept) e k))) (λ e. n.holds u (omega arith) k);
    only = λ T h. n.only T (λ u l. h u (omega arith));
  }

  pub seen_on : {q s' q' : List ℕ} {k k' : ℕ} → (entry (view ws ms) t).kept ≡ true → Joined (λ a. So (occurs a (entry (view ws ms) t).clause)) s q k s' q' k' → Seen ws ms (t + 1) s'
  seen_on d j = record {
    holds = λ u l k a o. by_cases (ℕ_discrete u t) (λ e. j.holds a (subst (λ v. So (occurs a (entry (view ws ms) v).clause)) e o)) (λ e. j.more a (n.holds u (omega arith) k a o));
    only = λ T h. j.only T (n.only T (λ u l. h u (omega arith))) (h t (omega arith) d);
  }

pub seen_end : (ws ms : List ℕ) (t : ℕ) (s : List ℕ) → get_or ws 1 0 ≤ t → Seen ws ms t s → Occurring ws ms s
seen_end ws ms t s h n =
    let P = view ws ms in
    record {
      is = λ b. so_ext (in_bytes s b) (any (occurs b) (left P))
          (n.only (λ a. any (occurs a) (left P)) (λ u l k a o. (any_iff (occurs a) (left P)).1 ((entry P u).clause, (left_each (λ c. c ∈ left P) P).0 (λ c m. m) u k, o)) b)
          (λ x. let (c, m, o) = (any_iff (occurs b) (left P)).0 x in (left_each (λ c. So (occurs b c) → So (in_bytes s b)) P).1 (λ u k. n.holds u (omega (arith, kept_lt P u k, length_view ws ms)) k b) c m o);
    }

-- of the same bytes
pub occurring_as : {ws ms s s' : List ℕ} → s' ≡ s → Occurring ws ms s → Occurring ws ms s'
occurring_as e r = rw e r
