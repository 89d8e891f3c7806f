-- An atom is put back: it is counted on place by place; and the first clause that lacks no atom, with fewer atoms and with more.
use mathlib.Core.Path.{◌≡◌, refl, sym, ap, subst, ◌∙◌}
use mathlib.Core.Logic.{by_cases}
use mathlib.Core.Bool.{So}
use mathlib.Core.List.{List}
use Prim.Native.Nat.{ℕ, min, ◌+◌, ◌≤◌, ◌<◌}
use native.Mathlib.Omega.{arith}
use native.Mathlib.Decide.{ℕ_discrete, dec_lt}
use lib.ListN.{length, get_or, set, take, length-take}
use lib.Seq.{get_or-set_same, get_or-set_other, get_or-take}
use borrow.Author.Tests.{eqb-true, eq-eqb, ne_eqb}
use Rattle.std.specs.Prelude.{Option, Some, None}
use Rattle.std.specs.Option.{MatchOption, unwrap_or}
use Rattle.std.specs.List.{zip, AllWithin, HoldsAt}
use Rattle.std.proofs.lemmas.Slice.Zip.{get_or-zip, length-zip}
use Rattle.semantics.specs.Lists.{◌∈◌}
use Rattle.rewriting.specs.Marked.{entry}
use Rattle.table.specs.Questions.{Passed}
use Rattle.table.specs.View.{view}
use Rattle.table.proofs.Parts.{view_straight}
use Rattle.step_parts.specs.Parts.{Stands, owner_at, Latest}
use Rattle.step_parts.specs.declared.Part.TheVariants.{Pos}
use Rattle.step_parts.proofs.Index.{stands_in, stands_clause, stands_small, stands_kept, kept_stands, stands_once}
use Rattle.step_reach.specs.Bytes.{in_bytes}
use Rattle.step_reach.specs.Counts.{lacks, ReachSettled}
use Rattle.step_parts.proofs.Walk.{latest_less, latest_above}
use Rattle.step_reach.proofs.Counts.{lacks_none, lacks_same, lacks_less, lacks_few}
use Rattle.search_closure.specs.Back.{Counted, Full, First, Lowest, Lesser, CountedOn, Newest}

-- ---- the first clause that lacks no atom

-- an asked-for byte and a count of 0
abbrev pub IsFull : ℕ × ℕ → Type 0
IsFull p = (p.0 ≡ 1) × (p.1 ≡ 0)

-- by the bytes of the first m clauses beside their counts
module _ (can missing : List ℕ) (m : ℕ) (l : m ≤ length can) (k : m ≤ length missing) where
  abbrev pub pairs : List (ℕ × ℕ)
  pairs = zip (take m can) missing

  many : length pairs ≡ m
  many = let few : length (take m can) ≡ m = simp length-take (omega arith) in length-zip (take m can) missing ∙ ap (λ x. min x (length missing)) few ∙ least
    where
      least : min m (length missing) ≡ m
      least = omega arith

  pair_at : (u : ℕ) → u < m → get_or pairs u (0, 0) ≡ (get_or can u 0, get_or missing u 0)
  pair_at u h = get_or-zip (take m can) missing u (0, 0) (simp length-take (omega arith)) (omega arith) ∙ ap (λ x. (x, get_or missing u 0)) (get_or-take m can u 0 h)

  pub first_by : (r : Option ℕ) → MatchOption r (AllWithin (λ p. IsFull p → ⊥) pairs 0 (length pairs)) (λ i. (i < length pairs) × HoldsAt IsFull pairs i × AllWithin (λ p. IsFull p → ⊥) pairs 0 i)
      → First (λ t. So (in_bytes can t) × (get_or missing t 0 ≡ 0)) m (unwrap_or r m)
  first_by None out = record { within = omega arith; hit = λ h. absurd (omega arith); before = λ u h x. subst (λ p. IsFull p → ⊥) (pair_at u h) (out u (0, 0) (omega arith) (omega (arith, many))) (eqb-true _ _ x.0, x.1) }
  first_by (Some i) (h, hit, out) =
      let few : i < m = omega (arith, many) in
      record {
        within = omega arith;
        hit = λ _. let w = subst IsFull (pair_at i few) (hit (0, 0)) in (eq-eqb _ _ w.0, w.1);
        before = λ u q x. subst (λ p. IsFull p → ⊥) (pair_at u (omega arith)) (out u (0, 0) (omega arith) q) (eqb-true _ _ x.0, x.1);
      }

-- a count of 0 says that no atom is lacked
pub first_settled : (ws ms can : List ℕ) {s missing q : List ℕ} {top r : ℕ} → ReachSettled ws ms s missing q top → First (λ t. So (in_bytes can t) × (get_or missing t 0 ≡ 0)) (get_or ws 1 0) r → First (Full ws ms can (take top q)) (get_or ws 1 0) r
first_settled ws ms can {r = r} c f = record {
  within = f.within;
  hit = λ l. (l, ((f.hit l).0, sym (c.rest.exact r l) ∙ (f.hit l).1));
  before = λ u l x. f.before u l (x.1.0, c.rest.exact u x.0 ∙ x.1.1);
}

module _ (ws ms can : List ℕ) where
  -- full with fewer atoms, so with more
  pub full_more : {fewer more : List ℕ} → ((a : ℕ) → a ∈ fewer → a ∈ more) → (t : ℕ) → Full ws ms can fewer t → Full ws ms can more t
  full_more {fewer} {more} f t x = (x.0, (x.1.0, (lacks_none more (entry (view ws ms) t).clause.pos).1 (λ a m. f a ((lacks_none fewer (entry (view ws ms) t).clause.pos).0 x.1.1 a m))))

  -- the same atoms
  pub lowest_none : (taken : List ℕ) (first : ℕ) → Lowest ws ms can taken taken first first
  lowest_none taken first = record { within = omega arith; hit = λ l. absurd (omega arith); before = λ u l x. x }

  module _ {more fewer : List ℕ} (sub : (a : ℕ) → a ∈ fewer → a ∈ more) where
    -- fewer atoms, and fewer again
    pub lowest_trans : {least : List ℕ} {first mid r : ℕ} → Lowest ws ms can more fewer first mid → Lowest ws ms can fewer least mid r → Lowest ws ms can more least first r
    lowest_trans {least} {first} {mid} {r} f g = record {
      within = omega (arith, f.within, g.within);
      hit = λ l. by_cases (dec_lt r mid) (λ k. full_more sub r (g.hit k)) (λ k. let e : mid ≡ r = omega (arith, g.within) in subst (Full ws ms can more) e (f.hit (omega arith)));
      before = λ u l x. g.before u l (f.before u (omega (arith, g.within)) x);
    }

    -- the first with the fewer atoms gives the first with the more
    pub first_more : {first r : ℕ} → First (Full ws ms can fewer) (get_or ws 1 0) first → Lowest ws ms can more fewer first r → First (Full ws ms can more) (get_or ws 1 0) r
    first_more {first} {r} f g = record {
      within = omega (arith, f.within, g.within);
      hit = λ l. by_cases (dec_lt r first) (λ k. g.hit k) (λ k. let e : first ≡ r = omega (arith, g.within) in subst (Full ws ms can more) e (full_more sub first (f.hit (omega arith))));
      before = λ u l x. f.before u (omega (arith, g.within)) (g.before u l x);
    }

-- ---- an atom is counted on, place by place

-- Atom b is the last of the more atoms. The places above i where it stands in a positive body are counted on; least is the lesser of `first` and their clauses.
pub record CountingOn (ws ms can : List ℕ) (b : ℕ) (more fewer : List ℕ) (first i : ℕ) (missing : List ℕ) (least : ℕ) : Type 0 where
  pub late : (t j : ℕ) → Stands ws Pos b t j → get_or ms j 0 ≡ 1 → j ≤ i → get_or missing t 0 ≡ lacks ws ms more t
  pub done : (t : ℕ) → t < get_or ws 1 0 → ((j : ℕ) → Stands ws Pos b t j → get_or ms j 0 ≡ 1 → i < j) → get_or missing t 0 ≡ lacks ws ms fewer t
  pub within : least ≤ first
  pub hit : least < first → Full ws ms can more least
  pub low : (t j : ℕ) → Stands ws Pos b t j → get_or ms j 0 ≡ 1 → i < j → So (in_bytes can t) → lacks ws ms more t ≡ 0 → least ≤ t

pub counting_as : {ws ms can : List ℕ} {b : ℕ} {more fewer : List ℕ} {first i j : ℕ} {missing : List ℕ} {least : ℕ} → i ≡ j → CountingOn ws ms can b more fewer first i missing least → CountingOn ws ms can b more fewer first j missing least
counting_as {ws} {ms} {can} {b} {more} {fewer} {first} {missing = missing} {least = least} e w = subst (λ k. CountingOn ws ms can b more fewer first k missing least) e w

module _ (ws ms can index q : List ℕ) (k first : ℕ) (p : Passed ws) (new : Newest q k) where
  abbrev b : ℕ
  b = get_or q k 0

  abbrev Counting : ℕ → List ℕ → ℕ → Type 0
  Counting = CountingOn ws ms can b (take (k + 1) q) (take k q) first

  -- a clause without the atom lacks as many
  without : (t : ℕ) → t < get_or ws 1 0 → ((j : ℕ) → Stands ws Pos b t j → get_or ms j 0 ≡ 1 → ⊥) → lacks ws ms (take k q) t ≡ lacks ws ms (take (k + 1) q) t
  without t l f = lacks_same q k new.there b refl (entry (view ws ms) t).clause.pos (λ m. let (j, st, e) = kept_stands ws ms Pos b t l m in f j st e)

  -- no place is counted on yet
  pub counting_start : {missing : List ℕ} {i : ℕ} → Counted ws ms (take (k + 1) q) missing → Latest ws index Pos b (length ws) i → Counting i missing first
  counting_start c w = record {
    late = λ t j st e l. c.exact t st.clause;
    done = λ t l f. c.exact t l ∙ sym (without t l (λ j st e. w.none t j st (f j st e) (stands_small p st).1));
    within = omega arith;
    hit = λ l. absurd (omega arith);
    low = λ t j st e l. absurd (w.none t j st l (stands_small p st).1);
  }

  module _ {i : ℕ} {missing : List ℕ} {least : ℕ} (w : Counting i missing least) (st : Stands ws Pos b (get_or index (owner_at i) 0) i) where
    abbrev own : ℕ
    own = get_or index (owner_at i) 0

    -- the count at the next place is small
    pub counting_few : get_or ms i 0 ≡ 1 → get_or missing own 0 ≤ 1024
    counting_few e = omega (arith, w.late own i st e (omega arith), lacks_few ws ms (take (k + 1) q) own p)

    module _ {missing' : List ℕ} {r : ℕ} (g : CountedOn ms can missing own i least missing' r) (long : own < length missing) {n : ℕ} (f : Latest ws index Pos b i n) where
      down : n < i
      down = latest_less f (omega (arith, stands_in st))

      -- a place that is not kept
      past : (get_or ms i 0 ≡ 1 → ⊥) → missing' ≡ missing → Counting n missing' r
      past e d = subst (λ x. Counting n x r) (sym d) (subst (Counting n missing) (sym (g.past e)) (record {
        late = λ t j z h l. w.late t j z h (omega (arith, down));
        done = λ t l a. w.done t l (λ j z h. latest_above f t j z (a j z h) (other j h));
        within = w.within;
        hit = w.hit;
        low = λ t j z h l. w.low t j z h (latest_above f t j z l (other j h));
      }))
        where
          other : (j : ℕ) → get_or ms j 0 ≡ 1 → j ≡ i → ⊥
          other j h y = e (subst (λ u. get_or ms u 0 ≡ 1) y h)

      -- one that is kept
      counted : get_or ms i 0 ≡ 1 → missing' ≡ set missing own (get_or missing own 0 + 1) → Counting n missing' r
      counted e d = record {
        late = λ t j z h l. rest t (λ y. let v = stands_once p (subst (λ u. Stands ws Pos b u j) y z) st in omega (arith, down)) ∙ w.late t j z h (omega (arith, down));
        done = λ t l a. by_cases (ℕ_discrete t own)
            (λ y. rw y (it ∙ more))
            (λ y. rest t y ∙ w.done t l (λ j z h. latest_above f t j z (a j z h) (λ x. y (stands_clause (subst (Stands ws Pos b t) x z) st))));
        within = omega (arith, w.within, here.within);
        hit = λ l. by_cases (dec_lt r least)
            (λ y. let (u, v) = here.hit y in subst (Full ws ms can (take (k + 1) q)) (sym u) (st.clause, (v.0, sym was ∙ v.1)))
            (λ y. let x : least ≡ r = omega (arith, here.within) in subst (Full ws ms can (take (k + 1) q)) x (w.hit (omega arith)));
        low = λ t j z h l c o. by_cases (ℕ_discrete j i)
            (λ y. let x = stands_clause (subst (Stands ws Pos b t) y z) st in omega (arith, here.least (subst (λ u. So (in_bytes can u)) x c) (was ∙ subst (λ u. lacks ws ms (take (k + 1) q) u ≡ 0) x o)))
            (λ y. omega (arith, here.within, w.low t j z h (latest_above f t j z l y) c o));
      }
        where
          here : Lesser can own (get_or missing own 0) least r
          here = g.here e

          was : get_or missing own 0 ≡ lacks ws ms (take (k + 1) q) own
          was = w.late own i st e (omega arith)

          it : get_or missing' own 0 ≡ get_or missing own 0 + 1
          it = rw d (get_or-set_same missing own (get_or missing own 0 + 1) 0 long)

          more : get_or missing own 0 + 1 ≡ lacks ws ms (take k q) own
          more = let v = lacks_less q k new.there b refl (entry (view ws ms) own).clause.pos (view_straight ws ms p own).pos (stands_kept ms st e) new.once in omega (arith, was, v)

          rest : (t : ℕ) → (t ≡ own → ⊥) → get_or missing' t 0 ≡ get_or missing t 0
          rest t y = rw d (get_or-set_other missing own t (get_or missing own 0 + 1) 0 y)

      -- one place more
      pub counting_on : Counting n missing' r
      counting_on = by_cases (ℕ_discrete (get_or ms i 0) 1)
          (λ e. counted e (g.counts ∙ rw (eq-eqb (get_or ms i 0) 1 e)))
          (λ e. past e (g.counts ∙ rw (ne_eqb (get_or ms i 0) 1 e)))

  -- every place is counted on
  pub counting_end : {i : ℕ} {missing : List ℕ} {least : ℕ} → Counting i missing least → i ≡ 0 → Counted ws ms (take k q) missing × Lowest ws ms can (take (k + 1) q) (take k q) first least
  counting_end {i} {missing} {least} w e = (
    record { exact = λ t l. w.done t l (λ j st m. omega (arith, stands_in st)) },
    record {
      within = w.within;
      hit = w.hit;
      before = λ u l x. (x.0, (x.1.0, without u x.0 (λ j st h. let o = w.low u j st h (omega (arith, stands_in st)) x.1.0 x.1.1 in omega arith) ∙ x.1.1));
    },
  )
