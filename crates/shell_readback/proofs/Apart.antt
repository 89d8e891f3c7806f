-- Atoms that clauses and choices do not have: what a set has of them is nothing to these, and a context that sees no others stands beside them.
use mathlib.Core.Path.{◌≡◌, refl, sym, subst}
use mathlib.Core.Logic.{◌↔◌, by_cases}
use mathlib.Core.Bool.{Bool, true, false, cond, ◌||◌, So, false≢true}
use mathlib.Core.List.Memᴰ
use mathlib.Core.List.{List}
use Prim.Native.Nat.{ℕ}
use Rattle.semantics.specs.Lists.{◌∈◌, mem}
use Rattle.semantics.specs.Programs.{Clause, Atoms, Subset}
use Rattle.semantics.proofs.Tests.{mem_iff, or_iff, or_left, or_right, so_dec, so_ext, so_false}
use Rattle.semantics.proofs.Models.{All, Any, Models}
use Rattle.shell_choices.specs.Stable.{Choice, rule, Context, free, StableWith, StableChoice}
use Rattle.shell_choices.proofs.Members.{Chooses, Working, with_iff}
use Rattle.shell_guards.specs.Guards.{HeadsIn}
use Rattle.shell_readback.specs.Beside.{Apart, AgreeOn, Sees}

-- ---- one set on the atoms of G, another off them

unfoldable pub join : Atoms → Atoms → Atoms → Atoms
join G Y X a = cond (G a) (Y a) (X a)

pub join_on : (G Y X : Atoms) (a : ℕ) → So (G a) → join G Y X a ≡ Y a
unfolding join
join_on G Y X a h = rw h

pub join_off : (G Y X : Atoms) (a : ℕ) → ¬ So (G a) → join G Y X a ≡ X a
unfolding join
join_off G Y X a h = rw (so_false (G a) h)

pub join_within : (G Y X M : Atoms) → ((a : ℕ) → So (G a) → So (Y a) → So (M a)) → ((a : ℕ) → ¬ So (G a) → So (X a) → So (M a)) → Subset (join G Y X) M
join_within G Y X M f g a h = by_cases (so_dec (G a)) (λ y. f a y (subst So (join_on G Y X a y) h)) (λ y. g a y (subst So (join_off G Y X a y) h))

-- the atoms of M that are not of G
abbrev pub off : Atoms → Atoms → Atoms
off G M = join G (λ a. false) M

pub off_iff : (G M : Atoms) (a : ℕ) → So (off G M a) ↔ ((¬ So (G a)) × So (M a))
unfolding join
off_iff G M a = go (G a) (M a)
  where
    go : (s t : Bool) → So (cond s false t) ↔ ((¬ So s) × So t)
    go true t = (λ h. absurd (false≢true h), λ h. absurd (h.0 refl))
    go false t = (λ h. (λ k. false≢true k, h), λ h. h.1)

-- ---- sets that are the same off G

abbrev pub AgreeOff : Atoms → Atoms → Atoms → Type 0
AgreeOff G M N = (a : ℕ) → ¬ So (G a) → M a ≡ N a

pub agree_same : (G M : Atoms) → AgreeOff G M M
agree_same G M a h = refl

pub agree_off_sym : (G M N : Atoms) → AgreeOff G M N → AgreeOff G N M
agree_off_sym G M N e a h = sym (e a h)

abbrev pub NoneOf : Atoms → List ℕ → Type 0
NoneOf G l = (a : ℕ) → a ∈ l → ¬ So (G a)

pub all_off : (G X Y : Atoms) (l : List ℕ) → NoneOf G l → AgreeOff G X Y → All X l → All Y l
all_off G X Y l o e h a m = subst So (e a (o a m)) (h a m)

pub any_off : (G X Y : Atoms) (l : List ℕ) → NoneOf G l → AgreeOff G X Y → Any X l → Any Y l
any_off G X Y l o e h = (h.0, h.1, subst So (e h.0 (o h.0 h.1)) h.2)

-- the same of sets that are the same on F
pub all_on : (F X Y : Atoms) (l : List ℕ) → All F l → AgreeOn F X Y → All X l → All Y l
all_on F X Y l o e h a m = subst So (e a (o a m)) (h a m)

pub any_on : (F X Y : Atoms) (l : List ℕ) → All F l → AgreeOn F X Y → Any X l → Any Y l
any_on F X Y l o e h = (h.0, h.1, subst So (e h.0 (o h.0 h.1)) h.2)

module _ (G : Atoms) (c : Clause) (o : Apart G c) where
  pub head_off : NoneOf G c.head
  head_off a m y = o a y (or_left _ _ ((mem_iff a c.head).1 m))

  pub pos_off : NoneOf G c.pos
  pos_off a m y = o a y (or_right (mem a c.head) (mem a c.pos || mem a c.neg) (or_left _ _ ((mem_iff a c.pos).1 m)))

  pub neg_off : NoneOf G c.neg
  neg_off a m y = o a y (or_right (mem a c.head) (mem a c.pos || mem a c.neg) (or_right (mem a c.pos) (mem a c.neg) ((mem_iff a c.neg).1 m)))

pub apart_by : (G : Atoms) (c : Clause) → NoneOf G c.head → NoneOf G c.pos → NoneOf G c.neg → Apart G c
apart_by G c h p q a y o = q a ((mem_iff a c.neg).0 ((or_iff (mem a c.pos) (mem a c.neg)).0
    ((or_iff (mem a c.head) (mem a c.pos || mem a c.neg)).0 o (λ m. h a ((mem_iff a c.head).0 m) y)) (λ m. p a ((mem_iff a c.pos).0 m) y))) y

-- clauses and choices without atoms of G ask the same of such sets
pub models_off : (G : Atoms) (cs : List Clause) → ((c : Clause) → c ∈ cs → Apart G c) → (M N X Y : Atoms) → AgreeOff G M N → AgreeOff G X Y → Models M X cs → Models N Y cs
models_off G cs o M N X Y e f h c m g p = any_off G X Y c.head (head_off G c (o c m)) f
    (h c m (λ w. g (any_off G M N c.neg (neg_off G c (o c m)) e w)) (all_off G Y X c.pos (pos_off G c (o c m)) (agree_off_sym G X Y f) p))

chooses_off : (G : Atoms) (ks : List Choice) → ((k : Choice) → k ∈ ks → Apart G (rule k)) → (M N X Y : Atoms) → AgreeOff G M N → AgreeOff G X Y → Chooses M X ks → Chooses N Y ks
chooses_off G ks o M N X Y e f h k m y g p = subst So (f k.atom own) (h k m (subst So (sym (e k.atom own)) y)
    (λ w. g (any_off G M N k.neg (neg_off G (rule k) (o k m)) e w)) (all_off G Y X k.pos (pos_off G (rule k) (o k m)) (agree_off_sym G X Y f) p))
  where
    own : ¬ So (G k.atom)
    own = head_off G (rule k) (o k m) k.atom (Memᴰ.head refl)

-- ---- clauses and choices without atoms of G

module _ (n : ℕ) (cs : List Clause) (ks : List Choice) (G : Atoms) (oc : (c : Clause) → c ∈ cs → Apart G c) (ok : (k : Choice) → k ∈ ks → Apart G (rule k)) where
  -- Off the heads of the context a stable model within it is one without it.
  pub part_off : (sat : Context) → HeadsIn G sat → (M : Atoms) → StableWith n cs ks sat M → StableChoice n cs ks (off G M)
  part_off sat hi M s = (with_iff n cs ks free N).1 (
    λ a h. w.0 a ((off_iff G M a).0 h).1,
    models_off G cs oc M N M N down down w.1,
    tt,
    λ X sub h k t a m. let v = (off_iff G M a).0 m in subst So (join_off G M X a v.0) (w.3 (join G M X) (part X sub)
        (models_off G cs oc N M X (join G M X) (agree_off_sym G M N down) (up X) h)
        (chooses_off G ks ok N M X (join G M X) (agree_off_sym G M N down) (up X) k)
        (hi M (join G M X) (part X sub) (λ b y q. subst So (sym (join_on G M X b y)) q) w.2) a v.1),
  )
    where
      N : Atoms
      N = off G M

      w : Working n cs ks sat M
      w = (with_iff n cs ks sat M).0 s

      down : AgreeOff G M N
      down a h = sym (join_off G (λ a. false) M a h)

      up : (X : Atoms) → AgreeOff G X (join G M X)
      up X a h = sym (join_off G M X a h)

      part : (X : Atoms) → Subset X N → Subset (join G M X) M
      part X sub = join_within G M X M (λ a y q. q) (λ a y q. ((off_iff G M a).0 (sub a q)).1)

-- ---- a context that sees the atoms of F alone

pub sees_heads : (F : Atoms) (sat : Context) → Sees F sat → HeadsIn F sat
sees_heads F sat e M X sub f h = e M M M X (λ a y. refl) (λ a y. so_ext (M a) (X a) (f a y) (sub a)) h

-- Clauses and choices that keep their stable models keep them beside it.
pub beside : (n : ℕ) (F : Atoms) (sat : Context) → Sees F sat → (cs ds : List Clause) (ks js : List Choice)
    → ((c : Clause) → c ∈ cs → Apart F c) → ((k : Choice) → k ∈ ks → Apart F (rule k)) → ((c : Clause) → c ∈ ds → Apart F c) → ((k : Choice) → k ∈ js → Apart F (rule k))
    → ((N : Atoms) → StableChoice n cs ks N → StableChoice n ds js N) → (M : Atoms) → StableWith n cs ks sat M → StableWith n ds js sat M
beside n F sat see cs ds ks js oc ok od oj f M s = (with_iff n ds js sat M).1 (
  w.0,
  models_off F ds od N M N M up up t.1,
  w.2,
  λ X sub h k q a m. by_cases (so_dec (F a))
      (λ y. subst So (join_on F X M a y) (w.3 (join F X M) (join_within F X M M (λ b z r. sub b r) (λ b z r. r))
      (models_off F cs oc M M M (join F X M) (agree_same F M) (λ b z. sym (join_off F X M b z)) w.1)
      (chooses_off F ks ok M M M (join F X M) (agree_same F M) (λ b z. sym (join_off F X M b z)) (λ c r z g p. z))
      (see M M X (join F X M) (λ b z. refl) (λ b z. sym (join_on F X M b z)) q) a m))
      (λ y. ((off_iff F X a).0 (t.3 (off F X) (λ b r. let v = (off_iff F X b).0 r in (off_iff F M b).1 (v.0, sub b v.1))
      (models_off F ds od M N X (off F X) (agree_off_sym F N M up) (λ b z. sym (join_off F (λ a. false) X b z)) h)
      (chooses_off F js oj M N X (off F X) (agree_off_sym F N M up) (λ b z. sym (join_off F (λ a. false) X b z)) k)
      tt a ((off_iff F M a).1 (y, m)))).1),
)
  where
    N : Atoms
    N = off F M

    w : Working n cs ks sat M
    w = (with_iff n cs ks sat M).0 s

    t : Working n ds js free N
    t = (with_iff n ds js free N).0 (f N (part_off n cs ks F oc ok sat (sees_heads F sat see) M s))

    up : AgreeOff F N M
    up a h = join_off F (λ a. false) M a h
