-- The set as bytes and the queue of its atoms: an atom joins, the atoms of a part join, the head of a clause joins.
use mathlib.Core.Path.{◌≡◌, refl, sym, ap, subst, ◌∙◌}
use mathlib.Core.Logic.{◌↔◌, ◌⊎◌, inl, inr, ⊎_elim, by_cases}
use mathlib.Core.Bool.{So}
use mathlib.Core.List.Memᴰ
use mathlib.Core.List.{List, [], ◌∷◌, ◌++◌, append_assoc, append-nil}
use Prim.Native.Nat.{ℕ, zero, suc, ◌+◌, ◌-◌, ◌≤◌, ◌<◌}
use native.Mathlib.Omega.{arith}
use native.Mathlib.Decide.{ℕ_discrete, dec_lt}
use native.Mathlib.Numerals.{add-one}
use lib.Dec.{eqb}
use lib.ListN.{length, get_or, set, take, replicate, length-set, length-take}
use lib.Seq.{get_or-set_same, get_or-set_other, get_or-take, take-suc, take-set-le, take-set-lt}
use borrow.Author.Tests.{eqb-true, eq-eqb, ne_eqb}
use Rattle.semantics.specs.Lists.{◌∈◌, mem}
use Rattle.semantics.specs.Programs.{Subset}
use Rattle.semantics.proofs.Tests.{mem_iff, so_ext, not_so, count_bound}
use Rattle.rewriting.specs.Marked.{Marked, entry, left}
use Rattle.rewriting.proofs.Left.{closed_left}
use Rattle.rewriting.proofs.Reach.{closed_iff}
use Rattle.table.specs.Questions.{Passed}
use Rattle.table.specs.View.{view}
use Rattle.table.proofs.Encoding.{passed_limits}
use Rattle.table.proofs.View.{count_set}
use Rattle.step_parts.specs.Parts.{part_of}
use Rattle.step_parts.specs.declared.Part.{Part}
use Rattle.step_parts.specs.declared.Part.TheVariants.{Head, Pos, Neg}
use Rattle.table.proofs.Parts.{view_straight}
use Rattle.step_reach.specs.Bytes.{in_bytes}
use Rattle.step_reach.specs.Counts.{ones, Queued, Joined, QueueSpread}
use Rattle.step_reach.proofs.Laws.{grown_none, grown_trans, none_in, is_out}

-- ---- the queue

-- one word more
pub take_more : (q : List ℕ) (k a : ℕ) → k < length q → (a ∈ take (k + 1) q) ↔ ((a ∈ take k q) ⊎ (a ≡ get_or q k 0))
take_more q k a h = (λ m. go (Memᴰ.append_cases (take k q) (subst (λ l. a ∈ l) one m)), λ m. subst (λ l. a ∈ l) (sym one) (back m))
  where
    one : take (k + 1) q ≡ take k q ++ (get_or q k 0 ∷ [])
    one = rw add-one (take-suc q k 0 h)

    go : (a ∈ take k q) ⊎ (a ∈ get_or q k 0 ∷ []) → (a ∈ take k q) ⊎ (a ≡ get_or q k 0)
    go (inl m) = inl m
    go (inr m) = inr (Memᴰ.eq_of_singleton m)

    back : (a ∈ take k q) ⊎ (a ≡ get_or q k 0) → a ∈ take k q ++ (get_or q k 0 ∷ [])
    back (inl m) = Memᴰ.append_left (get_or q k 0 ∷ []) m
    back (inr e) = Memᴰ.append_right (take k q) (Memᴰ.head e)

pub take_sub : (j n : ℕ) (q : List ℕ) {a : ℕ} → j ≤ n → a ∈ take j q → a ∈ take n q
take_sub zero n q h m = absurd (Memᴰ.not-nil m)
take_sub (suc j) zero q h m = absurd (omega arith)
take_sub (suc j) (suc n) [] h m = m
take_sub (suc j) (suc n) (x ∷ q) h (Memᴰ.head e) = Memᴰ.head e
take_sub (suc j) (suc n) (x ∷ q) h (Memᴰ.tail m) = Memᴰ.tail (take_sub j n q (omega arith) m)

-- the set has the atoms of the queue
pub queued_same : {s q : List ℕ} {top : ℕ} → Queued s q top → (a : ℕ) → So (in_bytes s a) ↔ (a ∈ take top q)
queued_same {s} {q} {top} z a = (λ m. (mem_iff a (take top q)).0 (sym (z.same a) ∙ m), λ m. z.same a ∙ (mem_iff a (take top q)).1 m)

-- bytes and a queue of the same atoms
same_by : (s l : List ℕ) (a : ℕ) → (So (in_bytes s a) → a ∈ l) → (a ∈ l → So (in_bytes s a)) → in_bytes s a ≡ mem a l
same_by s l a f g = so_ext (in_bytes s a) (mem a l) (λ m. (mem_iff a l).1 (f m)) (λ m. g ((mem_iff a l).0 m))

ones_few : (s : List ℕ) → ones (take 1024 s) ≤ 1024
ones_few s = let l : length (take 1024 s) ≤ 1024 = simp length-take (omega arith) in omega (arith, count_bound (λ x. eqb x 1) (take 1024 s))

pub queued_few : {s q : List ℕ} {top : ℕ} → Queued s q top → top ≤ 1024
queued_few {s} {q} {top} z = omega (arith, z.size, ones_few s)

-- atom k of the queue
pub queued_at : {s q : List ℕ} {top : ℕ} (k : ℕ) → Queued s q top → k < top → get_or q k 0 ∈ take top q
queued_at {s} {q} {top} k z h = go top h (omega (arith, queued_few z, z.room))
  where
    go : (n : ℕ) → k < n → n ≤ length q → get_or q k 0 ∈ take n q
    go zero h l = absurd (omega arith)
    go (suc n) h l = subst (λ i. get_or q k 0 ∈ take i q) (add-one n) ((take_more q n (get_or q k 0) (omega arith)).1 (by_cases (ℕ_discrete k n) (λ e. inr (ap (λ i. get_or q i 0) e)) (λ e. inl (go n (omega arith) (omega arith)))))

-- the same of equal arrays
pub queued_as : {s q s' q' : List ℕ} {top : ℕ} → s' ≡ s → q' ≡ q → Queued s q top → Queued s' q' top
queued_as d e z = rw (d, e) z

-- nothing has joined yet
pub queued_none : (k : ℕ) (s q : List ℕ) → s ≡ replicate k 0 → 1024 ≤ length q → Queued s q 0
queued_none k s q e h = subst (λ s. Queued s q 0) (sym e) (record {
  same = λ a. same_by (replicate k 0) [] a (λ m. absurd (none_in k a m)) (λ m. absurd (Memᴰ.not-nil m));
  once = λ j l. absurd (omega arith);
  below = λ a m. absurd (Memᴰ.not-nil m);
  size = sym (zeros 1024 k);
  room = h;
})
  where
    zeros : (n k : ℕ) → ones (take n (replicate k 0)) ≡ 0
    zeros zero k = refl
    zeros (suc n) zero = refl
    zeros (suc n) (suc k) = omega (arith, zeros n k)

-- a word past its end changes nothing
pub queued_past : (s q : List ℕ) (top a : ℕ) → Queued s q top → Queued s (set q top a) top
queued_past s q top a z =
    let same : take top (set q top a) ≡ take top q = take-set-le top q top a (omega arith) in
    record {
      same = λ b. rw same (z.same b);
      once = λ j h. rw (get_or-set_other q top j a 0 (λ e. omega arith), take-set-le j q top a (omega arith)) (z.once j h);
      below = λ b m. z.below b (rw same at m);
      size = z.size;
      room = rw (length-set q top a) z.room;
    }

-- ---- an atom joins

module _ (s q : List ℕ) (top a : ℕ) (z : Queued s q top) (h : a < 1024) (l : a < length s) where
  pub join_old : get_or s a 0 ≡ 1 → Joined (λ b. b ≡ a) s q top s q top
  join_old e = record { holds = λ b x. rw x (eq-eqb (get_or s a 0) 1 e); only = λ T k f. k; more = λ b k. k; long = refl; longer = omega arith; before = λ j g. refl; queued = z }

  module _ (n : get_or s a 0 ≡ 1 → ⊥) where
    size_more : ones (take 1024 (set s a 1)) ≡ top + 1
    size_more =
        let b : a < length (take 1024 s) = simp length-take (omega arith) in
        ap ones (take-set-lt 1024 s a 1 h) ∙ (let q = rw (get_or-take 1024 s a 0 h, ne_eqb (get_or s a 0) 1 n) at (count_set (λ x. eqb x 1) (take 1024 s) a 1 b) in omega (arith, q, z.size))

    pub join_room : top < 1024
    join_room = omega (arith, size_more, ones_few (set s a 1))

    fits : top < length q
    fits = omega (arith, join_room, z.room)

    here : get_or (set q top a) top 0 ≡ a
    here = get_or-set_same q top a 0 fits

    old : (b : ℕ) → (b ≡ a → ⊥) → So (in_bytes (set s a 1) b) → So (in_bytes s b)
    old b e m = rw (get_or-set_other s a b 1 0 e) at m

    new : (b : ℕ) → b ≡ a → So (in_bytes (set s a 1) b)
    new b e = rw (e, get_or-set_same s a 1 0 l)

    stays : Subset (in_bytes s) (in_bytes (set s a 1))
    stays b m = by_cases (ℕ_discrete b a) (new b) (λ e. rw (get_or-set_other s a b 1 0 e) m)

    more_at : (b : ℕ) → (b ∈ take (top + 1) (set q top a)) ↔ ((b ∈ take top q) ⊎ (b ≡ a))
    more_at b = rw (take-set-le top q top a (omega arith), here) at (take_more (set q top a) top b (rw (length-set q top a) fits))

    pub join_new : Joined (λ b. b ≡ a) s q top (set s a 1) (set q top a) (top + 1)
    join_new = record {
      holds = new;
      only = λ T k f b m. by_cases (ℕ_discrete b a) (λ e. f b e) (λ e. k b (old b e m));
      more = stays;
      long = length-set s a 1;
      longer = omega arith;
      before = λ j g. take-set-le j q top a g;
      queued = record {
        same = λ b. same_by _ _ b
            (λ m. (more_at b).1 (by_cases (ℕ_discrete b a) (λ e. inr e) (λ e. inl ((queued_same z b).0 (old b e m)))))
            (λ m. ⊎_elim (λ w. stays b ((queued_same z b).1 w)) (λ e. new b e) ((more_at b).0 m));
        once = λ j g. by_cases (dec_lt j top)
            (λ k m. z.once j k (rw (get_or-set_other q top j a 0 (λ e. omega arith), take-set-le j q top a (omega arith)) at m))
            (λ k. let e : j ≡ top = omega arith in rw (e, here, take-set-le top q top a (omega arith)) (λ m. n (eqb-true _ _ ((queued_same z a).1 m))));
        below = λ b m. ⊎_elim (λ w. z.below b w) (λ e. rw e h) ((more_at b).0 m);
        size = sym size_more;
        room = rw (length-set q top a) z.room;
      };
    }

-- ---- an atom leaves the queue and the sets

-- an atom whose byte is cleared is not in the set, and the others are as they were
pub left_out : (s : List ℕ) (b a : ℕ) → b < length s → a ≡ b → ¬ So (in_bytes (set s b 0) a)
left_out s b a l e = not_so (rw (e, get_or-set_same s b 0 0 l))

pub others_in : (s : List ℕ) (b a : ℕ) → (a ≡ b → ⊥) → in_bytes (set s b 0) a ≡ in_bytes s a
others_in s b a n = ap (λ x. eqb x 1) (get_or-set_other s b a 0 0 n)

-- the last atom's place is one less than their number
pub last_one : {s q : List ℕ} {top : ℕ} → 0 < top → Queued s q top → Queued s q (top - 1 + 1)
last_one {s} {q} {top} h z = subst (Queued s q) (let e : top ≡ top - 1 + 1 = omega arith in e) z

-- the last atom of the queue
module _ (s q : List ℕ) (k : ℕ) (z : Queued s q (k + 1)) where
  abbrev a : ℕ
  a = get_or q k 0

  there : k < length q
  there = omega (arith, queued_few z, z.room)

  pub queued_below : a < 1024
  queued_below = z.below a (queued_at k z (omega arith))

  once : ¬ (a ∈ take k q)
  once = z.once k (omega arith)

  was_in : So (in_bytes s a)
  was_in = (queued_same z a).1 (queued_at k z (omega arith))

  -- it has a byte
  pub queued_byte : a < length s
  queued_byte = by_cases (dec_lt a (length s)) (λ l. l) (λ l. absurd (not_so (is_out s a (omega arith)) was_in))

  size_less : k ≡ ones (take 1024 (set s a 0))
  size_less =
      let l : a < length (take 1024 s) = simp length-take (omega (arith, queued_byte, queued_below)) in
      let e = rw (get_or-take 1024 s a 0 queued_below, was_in) at (count_set (λ x. eqb x 1) (take 1024 s) a 0 l) in
      omega (arith, e, z.size, ap ones (take-set-lt 1024 s a 0 queued_below))

  -- without it
  pub queued_less : Queued (set s a 0) q k
  queued_less = record {
    same = λ c. same_by _ _ c
        (λ m. by_cases (ℕ_discrete c a)
        (λ e. absurd (left_out s a c queued_byte e m))
        (λ e. ⊎_elim (λ w. w) (λ d. absurd (e d)) ((take_more q k c there).0 ((queued_same z c).0 (sym (others_in s a c e) ∙ m)))))
        (λ m. others_in s a c (λ e. once (subst (λ x. x ∈ take k q) e m)) ∙ (queued_same z c).1 (take_sub k (k + 1) q (omega arith) m));
    once = λ j l. z.once j (omega arith);
    below = λ c m. z.below c (take_sub k (k + 1) q (omega arith) m);
    size = size_less;
    room = z.room;
  }

-- ---- the atoms of a part join

joined_none : (s q : List ℕ) (top : ℕ) → Queued s q top → Joined (λ a. a ∈ []) s q top s q top
joined_none s q top z = record { holds = λ a m. absurd (Memᴰ.not-nil m); only = λ T k f. k; more = λ b k. k; long = refl; longer = omega arith; before = λ j g. refl; queued = z }

joined_as : {X Y : ℕ → Type 0} {s q s' q' : List ℕ} {k k' : ℕ} → ((a : ℕ) → X a → Y a) → ((a : ℕ) → Y a → X a) → Joined X s q k s' q' k' → Joined Y s q k s' q' k'
joined_as f g j = record { holds = λ a y. j.holds a (g a y); only = λ T h t. j.only T h (λ a x. t a (f a x)); more = j.more; long = j.long; longer = j.longer; before = j.before; queued = j.queued }

pub joined_at : {X : ℕ → Type 0} {s q s' q' s'' q'' : List ℕ} {k k' : ℕ} → s'' ≡ s' → q'' ≡ q' → Joined X s q k s' q' k' → Joined X s q k s'' q'' k'
joined_at d e j = rw (d, e) j

-- The atoms of l have joined, but for those of the rest, which ends it.
pub record Joining (l rest s q : List ℕ) (k : ℕ) (s' q' : List ℕ) (k' : ℕ) : Type 0 where
  pub first : List ℕ
  pub all : l ≡ first ++ rest
  pub joined : Joined (λ a. a ∈ first) s q k s' q' k'

pub joining_none : (l rest s q : List ℕ) (k : ℕ) → l ≡ rest → Queued s q k → Joining l rest s q k s q k
joining_none l rest s q k e z = record { first = []; all = e; joined = joined_none s q k z }

module _ {l rest s q s' q' : List ℕ} {k k' : ℕ} (j : Joining l rest s q k s' q' k') where
  pub joining_next : {x : ℕ} {more : List ℕ} → rest ≡ x ∷ more → x ∈ l
  joining_next {x} {more} e = subst (λ l. x ∈ l) (sym (j.all ∙ ap (λ r. j.first ++ r) e)) (Memᴰ.append_right j.first (Memᴰ.head refl))

  pub joining_on : {x : ℕ} {more s'' q'' : List ℕ} {k'' : ℕ} → rest ≡ x ∷ more → Joined (λ a. a ≡ x) s' q' k' s'' q'' k'' → Joining l more s q k s'' q'' k''
  joining_on {x} {more} e g = record {
    first = j.first ++ (x ∷ []);
    all = j.all ∙ ap (λ r. j.first ++ r) e ∙ sym (append_assoc j.first (x ∷ []) more);
    joined = record {
      holds = λ a m. ⊎_elim (λ w. g.more a (j.joined.holds a w)) (λ w. g.holds a (Memᴰ.eq_of_singleton w)) (Memᴰ.append_cases j.first m);
      only = λ T h t. g.only T (j.joined.only T h (λ a m. t a (Memᴰ.append_left (x ∷ []) m))) (λ a d. t a (Memᴰ.append_right j.first (Memᴰ.head d)));
      more = λ a m. g.more a (j.joined.more a m);
      long = g.long ∙ j.joined.long;
      longer = omega (arith, g.longer, j.joined.longer);
      before = λ u h. g.before u (omega (arith, j.joined.longer)) ∙ j.joined.before u h;
      queued = g.queued;
    };
  }

  pub joining_end : rest ≡ [] → (l' : List ℕ) → l ≡ l' → Joined (λ a. a ∈ l') s q k s' q' k'
  joining_end e l' d = let same : j.first ≡ l' = sym (j.all ∙ ap (λ r. j.first ++ r) e ∙ append-nil j.first) ∙ d in joined_as (λ a m. subst (λ l. a ∈ l) same m) (λ a m. subst (λ l. a ∈ l) (sym same) m) j.joined

-- the atoms of a part are few
pub part_small : (ws ms : List ℕ) (t : ℕ) (x : Part) → Passed ws → (a : ℕ) → a ∈ part_of x (entry (view ws ms) t).clause → (a < get_or ws 0 0) × (a < 1024)
part_small ws ms t x p a m = let w = below x m in (w, omega (arith, w, (passed_limits ws p).few_atoms))
  where
    below : (x : Part) → a ∈ part_of x (entry (view ws ms) t).clause → a < get_or ws 0 0
    below Head m = (view_straight ws ms p t).head_below a m
    below Pos m = (view_straight ws ms p t).pos_below a m
    below Neg m = (view_straight ws ms p t).neg_below a m

-- ---- the set and the queue grow

pub spread_none : (P : Marked) (s q : List ℕ) (k : ℕ) → Queued s q k → QueueSpread P s q k s q k
spread_none P s q k z = record { grown = grown_none P s; more = λ a m. m; longer = omega arith; before = λ j h. refl; queued = z }

pub spread_trans : {P : Marked} {s q s' q' s'' q'' : List ℕ} {k k' k'' : ℕ} → QueueSpread P s q k s' q' k' → QueueSpread P s' q' k' s'' q'' k'' → QueueSpread P s q k s'' q'' k''
spread_trans f g = record {
  grown = grown_trans f.grown g.grown;
  more = λ a m. g.more a (f.more a m);
  longer = omega (arith, f.longer, g.longer);
  before = λ j h. g.before j (omega (arith, f.longer)) ∙ f.before j h;
  queued = g.queued;
}

-- the head of a kept clause whose positive atoms are in the set
pub spread_head : (P : Marked) (t : ℕ) {s q s' q' : List ℕ} {k k' : ℕ} → So (entry P t).kept → ((a : ℕ) → a ∈ (entry P t).clause.pos → So (in_bytes s a))
    → Joined (λ a. a ∈ (entry P t).clause.head) s q k s' q' k' → QueueSpread P s q k s' q' k'
spread_head P t e p j = record {
  grown = record { within = λ T c h. j.only T h ((closed_left T P).0 ((closed_iff T (left P)).0 c) t e (λ a m. h a (p a m))); same = j.long };
  more = j.more;
  longer = j.longer;
  before = j.before;
  queued = j.queued;
}
