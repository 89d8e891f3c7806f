-- The reach by counts: a clause is counted, an atom is counted off place by place; and once every atom is taken, the set is closed.
use mathlib.Core.Path.{◌≡◌, refl, sym, ap, subst, ◌∙◌}
use mathlib.Core.Logic.{◌↔◌, inl, inr, ⊎_elim, by_cases}
use mathlib.Core.Bool.{Bool, true, false, not, So}
use mathlib.Core.List.Memᴰ
use mathlib.Core.List.{List, [], ◌∷◌}
use Prim.Native.Nat.{ℕ, suc, ◌+◌, ◌-◌, ◌≤◌, ◌<◌}
use native.Mathlib.Omega.{arith}
use native.Mathlib.Decide.{ℕ_discrete}
use lib.Dec.{ltb}
use lib.ListN.{length, get_or, set, take}
use lib.Seq.{get_or-set_same, get_or-set_other}
use borrow.Author.Tests.{eq-eqb, ne_eqb, ltb-true}
use Rattle.semantics.specs.Lists.{◌∈◌, count, mem, ascending}
use Rattle.semantics.proofs.Tests.{and_iff, not_iff, all_iff, mem_iff, so_by, so_false, so_ext, count_none, count_bound}
use Rattle.rewriting.specs.Marked.{entry, left}
use Rattle.rewriting.specs.Reach.{closed}
use Rattle.rewriting.proofs.Left.{closed_left, kept_lt}
use Rattle.rewriting.proofs.Reach.{closed_iff}
use Rattle.table.specs.Questions.{Passed}
use Rattle.table.specs.View.{view}
use Rattle.table.proofs.Encoding.{passed_limits}
use Rattle.table.proofs.View.{length_view}
use Rattle.table.proofs.Parts.{view_straight}
use Rattle.step_parts.specs.Parts.{Stands, owner_at, Latest}
use Rattle.step_parts.specs.declared.Part.TheVariants.{Pos}
use Rattle.step_parts.proofs.Walk.{latest_less, latest_above}
use Rattle.step_parts.proofs.Index.{stands_in, stands_clause, stands_small, stands_kept, kept_stands, stands_once}
use Rattle.step_reach.specs.Bytes.{in_bytes}
use Rattle.step_reach.specs.Counts.{Queued, Joined, QueueSpread, lacks, Fired, Rest, CountRoom, Due, Lowered, ReachSettled, WithSettled}
use Rattle.step_reach.proofs.Queue.{queued_same, take_more, take_sub, queued_few, queued_at}

-- ---- how many pass a test

count_same : (f g : ℕ → Bool) (l : List ℕ) → ((a : ℕ) → a ∈ l → f a ≡ g a) → count f l ≡ count g l
count_same f g [] h = refl
count_same f g (x ∷ l) h = rw (h x (Memᴰ.head refl), count_same f g l (λ a m. h a (Memᴰ.tail m)))

count_less : (f g : ℕ → Bool) (b : ℕ) (l : List ℕ) → So (ascending l) → b ∈ l → f b ≡ true → g b ≡ false → ((a : ℕ) → (a ≡ b → ⊥) → f a ≡ g a) → count f l ≡ suc (count g l)
unfolding ascending
count_less f g b [] s x5 u v h = elim x5 [ ]
count_less f g b (x ∷ l) s (Memᴰ.head e) u v h =
    let w = (and_iff _ _).0 s in
    let r = count_same f g l (λ a m. h a (λ d. let k = ltb-true x a ((all_iff (λ y. ltb x y) l).0 w.0 a m) in omega arith)) in
    rw (sym e, u, v, r) (omega arith)
count_less f g b (x ∷ l) s (Memᴰ.tail m) u v h =
    let w = (and_iff _ _).0 s in
    let k = ltb-true x b ((all_iff (λ y. ltb x y) l).0 w.0 b m) in
    let q = h x (λ e. omega arith) in
    rw (q, count_less f g b l w.1 m u v h) (omega arith)

count_every : (f : ℕ → Bool) (l : List ℕ) → ((a : ℕ) → f a ≡ true) → count f l ≡ length l
count_every f [] h = refl
count_every f (x ∷ l) h = rw (h x, count_every f l h) (omega arith)

count_zero : (f : ℕ → Bool) (l : List ℕ) → ((a : ℕ) → a ∈ l → f a ≡ false) → count f l ≡ 0
count_zero f [] h = refl
count_zero f (x ∷ l) h = rw (h x (Memᴰ.head refl), count_zero f l (λ a m. h a (Memᴰ.tail m)))

-- none is lacked where each is taken
pub lacks_none : (taken l : List ℕ) → (count (λ a. not (mem a taken)) l ≡ 0) ↔ ((a : ℕ) → a ∈ l → a ∈ taken)
lacks_none taken l = (
  λ z a m. (mem_iff a taken).0 (so_by (mem a taken) (λ n. count_none (λ a. not (mem a taken)) l (omega arith) a m ((not_iff (mem a taken)).1 n))),
  λ h. count_zero (λ a. not (mem a taken)) l (λ a m. ap not ((mem_iff a taken).1 (h a m))),
)

-- one atom more is taken
module _ (q : List ℕ) (k : ℕ) (h : k < length q) (b : ℕ) (e : b ≡ get_or q k 0) where
  others : (a : ℕ) → (a ≡ b → ⊥) → not (mem a (take k q)) ≡ not (mem a (take (k + 1) q))
  others a n = ap not (so_ext (mem a (take k q)) (mem a (take (k + 1) q))
      (λ m. (mem_iff _ _).1 ((take_more q k a h).1 (inl ((mem_iff _ _).0 m))))
      (λ m. (mem_iff _ _).1 (⊎_elim (λ w. w) (λ d. absurd (n (d ∙ sym e))) ((take_more q k a h).0 ((mem_iff _ _).0 m)))))

  pub lacks_same : (l : List ℕ) → ¬ (b ∈ l) → count (λ a. not (mem a (take k q))) l ≡ count (λ a. not (mem a (take (k + 1) q))) l
  lacks_same l n = count_same _ _ l (λ a m. others a (λ d. n (subst (λ x. x ∈ l) d m)))

  pub lacks_less : (l : List ℕ) → So (ascending l) → b ∈ l → ¬ (b ∈ take k q) → count (λ a. not (mem a (take k q))) l ≡ suc (count (λ a. not (mem a (take (k + 1) q))) l)
  lacks_less l s m n = count_less _ _ b l s m
      (ap not (so_false (mem b (take k q)) (λ w. n ((mem_iff _ _).0 w))))
      (ap not ((mem_iff b (take (k + 1) q)).1 ((take_more q k b h).1 (inr e))))
      others

-- distinct atoms from `low` on and below n are few
few_from : (l : List ℕ) (low n : ℕ) → low ≤ n → So (ascending l) → ((a : ℕ) → a ∈ l → (low ≤ a) × (a < n)) → low + length l ≤ n
unfolding ascending
few_from [] low n h s f = omega arith
few_from (x ∷ l) low n h s f =
    let w = (and_iff _ _).0 s in
    let (u, v) = f x (Memᴰ.head refl) in
    let r = few_from l (x + 1) n (omega arith) w.1 (λ a m. (let k = ltb-true x a ((all_iff (λ y. ltb x y) l).0 w.0 a m) in omega arith, (f a (Memᴰ.tail m)).1)) in
    omega arith

-- a clause has few positive atoms
pub few_pos : (ws ms : List ℕ) (t : ℕ) → Passed ws → length (entry (view ws ms) t).clause.pos ≤ 1024
few_pos ws ms t p = let s = view_straight ws ms p t in omega (arith, few_from (entry (view ws ms) t).clause.pos 0 (get_or ws 0 0) (omega arith) s.pos (λ a m. (omega arith, s.pos_below a m)), (passed_limits ws p).few_atoms)

-- a count is small
pub lacks_few : (ws ms taken : List ℕ) (t : ℕ) → Passed ws → lacks ws ms taken t ≤ 1024
lacks_few ws ms taken t p = omega (arith, few_pos ws ms t p, count_bound (λ a. not (mem a taken)) (entry (view ws ms) t).clause.pos)

-- arrays of the same length have the same room
pub room_same : {ws s missing s' missing' : List ℕ} → length s' ≡ length s → length missing' ≡ length missing → CountRoom ws s missing → CountRoom ws s' missing'
room_same e f r = record { bytes = omega (arith, e, r.bytes); counts = omega (arith, f, r.counts) }

-- the same three arrays as before, and again
pub same_trans : {A : Type 0} {b b' b'' m m' m'' q q' q'' : A} → (b' ≡ b) × (m' ≡ m) × (q' ≡ q) → (b'' ≡ b') × (m'' ≡ m') × (q'' ≡ q') → (b'' ≡ b) × (m'' ≡ m) × (q'' ≡ q)
same_trans e f = (f.0 ∙ e.0, f.1 ∙ e.1, f.2 ∙ e.2)

-- ---- a clause is counted

pub none_left : (l : List ℕ) (c : ℕ) → c ≡ length l → c ≡ 0 → (a : ℕ) → ¬ (a ∈ l)
none_left [] c e z a m = Memᴰ.not-nil m
none_left (x ∷ l) c e z a m = absurd (omega arith)

pub rest_start : (ws ms s missing q : List ℕ) → Queued s q 0 → Rest ws ms 0 0 s missing q 0
rest_start ws ms s missing q z = record { queued = z; taken = omega arith; exact = λ t h. absurd (omega arith); heads = λ t h. absurd (omega arith) }

pub rest_enter : (ws ms : List ℕ) (t c : ℕ) {s q s' q' : List ℕ} (missing : List ℕ) {top top' : ℕ} → t < length missing → c ≡ length (entry (view ws ms) t).clause.pos
    → Rest ws ms t 0 s missing q top → QueueSpread (view ws ms) s q top s' q' top' → Fired s' (entry (view ws ms) t) c → Rest ws ms (t + 1) 0 s' (set missing t c) q' top'
rest_enter ws ms t c missing l e r g f = record {
  queued = g.queued;
  taken = omega arith;
  exact = λ u h. by_cases (ℕ_discrete u t)
      (λ d. rw (d, get_or-set_same missing t c 0 l) (e ∙ sym (count_every (λ a. not (mem a [])) (entry (view ws ms) t).clause.pos (λ a. refl))))
      (λ d. get_or-set_other missing t u c 0 d ∙ r.exact u (omega arith));
  heads = λ u h. by_cases (ℕ_discrete u t)
      (λ d. rw (d, get_or-set_same missing t c 0 l) f)
      (λ d k z a m. g.more a (r.heads u (omega arith) k (rw (get_or-set_other missing t u c 0 d) at z) a m));
}

-- ---- an atom is counted off at a place

module _ (ws ms s missing q : List ℕ) (top t i : ℕ) where
  pub lowered_here : get_or ms i 0 ≡ 1 → t < length missing → (u : ℕ) → u ≡ t → {s' q' : List ℕ} {top' : ℕ} → QueueSpread (view ws ms) s q top s' q' top' → Fired s' (entry (view ws ms) u) (get_or missing u 0 - 1)
      → Lowered ws ms s missing q top t i s' (set missing u (get_or missing u 0 - 1)) q' top'
  lowered_here e l u h g f = record {
    spread = g;
    counts = rw (eq-eqb (get_or ms i 0) 1 e, h);
    fired = λ _. rw (h, get_or-set_same missing t (get_or missing t 0 - 1) 0 l) (rw h at f);
  }

-- ---- an atom is counted off, place by place

-- Atom b is the last of those taken, and the places above i where it stands in a positive body are counted off.
pub record CountingOff (ws ms : List ℕ) (b : ℕ) (taken : List ℕ) (i : ℕ) (s missing : List ℕ) : Type 0 where
  pub late : (t j : ℕ) → Stands ws Pos b t j → get_or ms j 0 ≡ 1 → j ≤ i → get_or missing t 0 ≡ suc (lacks ws ms taken t)
  pub done : (t : ℕ) → t < get_or ws 1 0 → ((j : ℕ) → Stands ws Pos b t j → get_or ms j 0 ≡ 1 → i < j) → get_or missing t 0 ≡ lacks ws ms taken t
  pub heads : (t : ℕ) → t < get_or ws 1 0 → Fired s (entry (view ws ms) t) (get_or missing t 0)
  pub inside : (a : ℕ) → a ∈ taken → So (in_bytes s a)

pub counting_as : {ws ms : List ℕ} {b : ℕ} {taken : List ℕ} {i j : ℕ} {s missing : List ℕ} → i ≡ j → CountingOff ws ms b taken i s missing → CountingOff ws ms b taken j s missing
counting_as {ws} {ms} {b} {taken} {s = s} {missing = missing} e w = subst (λ k. CountingOff ws ms b taken k s missing) e w

pub walk_start : (ws ms index : List ℕ) (k : ℕ) {s q missing : List ℕ} {top i : ℕ} → Passed ws → k < top → Rest ws ms (get_or ws 1 0) k s missing q top
    → Latest ws index Pos (get_or q k 0) (length ws) i → CountingOff ws ms (get_or q k 0) (take (k + 1) q) i s missing
walk_start ws ms index k {s} {q} {missing} {top} {i} p h r w = record {
  late = λ t j st e l. r.exact t st.clause ∙ lacks_less q k fits (get_or q k 0) refl (entry (view ws ms) t).clause.pos (view_straight ws ms p t).pos (stands_kept ms st e) (r.queued.once k h);
  done = λ t l f. r.exact t l ∙ lacks_same q k fits (get_or q k 0) refl (entry (view ws ms) t).clause.pos (λ m. let (j, st, e) = kept_stands ws ms Pos (get_or q k 0) t l m in w.none t j st (f j st e) (stands_small p st).1);
  heads = r.heads;
  inside = λ a m. (queued_same r.queued a).1 (⊎_elim (λ v. take_sub k top q (omega arith) v) (λ e. subst (λ x. x ∈ take top q) (sym e) (queued_at k r.queued h)) ((take_more q k a fits).0 m));
}
  where
    fits : k < length q
    fits = omega (arith, queued_few r.queued, r.queued.room)

module _ (ws ms index : List ℕ) (b i : ℕ) (taken : List ℕ) {s missing : List ℕ} (p : Passed ws) (w : CountingOff ws ms b taken i s missing) (st : Stands ws Pos b (get_or index (owner_at i) 0) i) where
  pub walk_due : Due ws ms s missing (get_or index (owner_at i) 0) i
  walk_due = record {
    some = λ e. omega (arith, w.late (get_or index (owner_at i) 0) i st e (omega arith));
    last = λ e h a m. w.inside a ((lacks_none taken (entry (view ws ms) (get_or index (owner_at i) 0)).clause.pos).0 (omega (arith, w.late (get_or index (owner_at i) 0) i st e (omega arith))) a m);
  }

  module _ {q s' missing' q' : List ℕ} {top top' : ℕ} (g : Lowered ws ms s missing q top (get_or index (owner_at i) 0) i s' missing' q' top') (long : get_or index (owner_at i) 0 < length missing) {n : ℕ} (f : Latest ws index Pos b i n) where
    abbrev own : ℕ
    own = get_or index (owner_at i) 0

    down : n < i
    down = latest_less f (omega (arith, stands_in st))

    past : (get_or ms i 0 ≡ 1 → ⊥) → missing' ≡ missing → CountingOff ws ms b taken n s' missing'
    past e d = subst (CountingOff ws ms b taken n s') (sym d) (record {
      late = λ t j q k h. w.late t j q k (omega (arith, down));
      done = λ t h a. w.done t h (λ j q k. latest_above f t j q (a j q k) (λ z. e (subst (λ u. get_or ms u 0 ≡ 1) z k)));
      heads = λ t h k z a m. g.spread.more a (w.heads t h k z a m);
      inside = λ a m. g.spread.more a (w.inside a m);
    })

    counted : get_or ms i 0 ≡ 1 → missing' ≡ set missing own (get_or missing own 0 - 1) → CountingOff ws ms b taken n s' missing'
    counted e d = record {
      late = λ t j q k h. rest t (λ z. let v = stands_once p (subst (λ u. Stands ws Pos b u j) z q) st in omega (arith, down)) ∙ w.late t j q k (omega (arith, down));
      done = λ t h a. by_cases (ℕ_discrete t own)
          (λ z. rw z (it ∙ (let v = w.late own i st e (omega arith) in omega arith)))
          (λ z. rest t z ∙ w.done t h (λ j q k. latest_above f t j q (a j q k) (λ y. z (stands_clause (subst (Stands ws Pos b t) y q) st))));
      heads = λ t h. by_cases (ℕ_discrete t own) (λ z. rw z (g.fired e)) (λ z k c a m. g.spread.more a (w.heads t h k (sym (rest t z) ∙ c) a m));
      inside = λ a m. g.spread.more a (w.inside a m);
    }
      where
        it : get_or missing' own 0 ≡ get_or missing own 0 - 1
        it = rw d (get_or-set_same missing own (get_or missing own 0 - 1) 0 long)

        rest : (t : ℕ) → (t ≡ own → ⊥) → get_or missing' t 0 ≡ get_or missing t 0
        rest t z = rw d (get_or-set_other missing own t (get_or missing own 0 - 1) 0 z)

    pub walk_on : CountingOff ws ms b taken n s' missing'
    walk_on = by_cases (ℕ_discrete (get_or ms i 0) 1)
        (λ e. counted e (g.counts ∙ rw (eq-eqb (get_or ms i 0) 1 e)))
        (λ e. past e (g.counts ∙ rw (ne_eqb (get_or ms i 0) 1 e)))

-- every place is counted off
pub walk_end : (ws ms : List ℕ) (k b i : ℕ) (q : List ℕ) {s s' missing' q' : List ℕ} {top top' : ℕ} → k < top → CountingOff ws ms b (take (k + 1) q) i s' missing' → i ≡ 0 → QueueSpread (view ws ms) s q top s' q' top'
    → Rest ws ms (get_or ws 1 0) (k + 1) s' missing' q' top'
walk_end ws ms k b i q h w e g = record {
  queued = g.queued;
  taken = omega (arith, g.longer);
  exact = λ t l. w.done t l (λ j st m. omega (arith, stands_in st)) ∙ ap (λ u. lacks ws ms u t) (sym (g.before (k + 1) (omega arith)));
  heads = w.heads;
}

-- ---- every atom is taken

pub rest_closed : (ws ms : List ℕ) (k : ℕ) {s missing q : List ℕ} {top : ℕ} → Rest ws ms (get_or ws 1 0) k s missing q top → top ≤ k → So (closed (in_bytes s) (left (view ws ms)))
rest_closed ws ms k {s} {missing} {q} {top} r h = (closed_iff (in_bytes s) (left (view ws ms))).1 ((closed_left (in_bytes s) (view ws ms)).1 (λ t e p.
    let l : t < get_or ws 1 0 = omega (arith, kept_lt (view ws ms) t e, length_view ws ms) in
    r.heads t l e (r.exact t l ∙ (lacks_none (take k q) (entry (view ws ms) t).clause.pos).1 (λ a m. take_sub top k q h ((queued_same r.queued a).0 (p a m))))))

pub settled_closed : (ws ms : List ℕ) {s missing q : List ℕ} {top : ℕ} → ReachSettled ws ms s missing q top → So (closed (in_bytes s) (left (view ws ms)))
settled_closed ws ms {top = top} z = rest_closed ws ms top z.rest (omega arith)

-- ---- one atom more

pub rest_join : (ws ms : List ℕ) (m k a : ℕ) {s missing q s' q' : List ℕ} {top top' : ℕ} → Rest ws ms m k s missing q top → Joined (λ b. b ≡ a) s q top s' q' top' → Rest ws ms m k s' missing q' top'
rest_join ws ms m k a r j = record {
  queued = j.queued;
  taken = omega (arith, r.taken, j.longer);
  exact = λ t h. r.exact t h ∙ ap (λ u. lacks ws ms u t) (sym (j.before k r.taken));
  heads = λ t h e z b w. j.more b (r.heads t h e z b w);
}

pub settled_with : (ws ms : List ℕ) (a : ℕ) {s missing q s' missing' q' s'' q'' : List ℕ} {top top' top'' : ℕ} → ReachSettled ws ms s missing q top → Joined (λ b. b ≡ a) s q top s' q' top'
    → QueueSpread (view ws ms) s' q' top' s'' q'' top'' → Rest ws ms (get_or ws 1 0) top'' s'' missing' q'' top'' → WithSettled ws ms a q top s'' missing' q'' top''
settled_with ws ms a {top = top} {top'' = top''} z j g r = record {
  reached = record {
    joins = g.more a (j.holds a refl);
    holds = rest_closed ws ms top'' r (omega arith);
    least = λ T t c. g.grown.within T c (j.only T (z.within T c) (λ b e. rw e t));
  };
  rest = r;
  longer = omega (arith, j.longer, g.longer);
  before = g.before top j.longer ∙ j.before top (omega arith);
}
