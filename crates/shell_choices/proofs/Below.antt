-- Atoms below n: what clauses over n atoms say of two sets that agree there, and sets put together from one below n and another from n on.
use mathlib.Core.Path.{◌≡◌, sym, subst, ◌∙◌, fun_ext}
use mathlib.Core.Logic.{◌↔◌, ◌⊎◌, inl, inr, ⊎_elim}
use mathlib.Core.Bool.{cond, So}
use mathlib.Core.List.{List}
use Prim.Native.Nat.{ℕ, ◌≤◌, ◌<◌}
use native.Mathlib.Omega.{arith}
use lib.Dec.{ltb}
use borrow.Author.Tests.{ltb-true, lt-ltb}
use Rattle.semantics.specs.Lists.{◌∈◌}
use Rattle.semantics.specs.Programs.{Clause, Atoms, Subset}
use Rattle.semantics.proofs.Tests.{and_iff, so_dec, so_ext, so_false}
use Rattle.semantics.proofs.Models.{All, Any, Models}
use Rattle.shell_choices.specs.Translation.{OverClause, restrict}

-- the two sets are the same below n
abbrev pub AgreeBelow : ℕ → Atoms → Atoms → Type 0
AgreeBelow n M N = (a : ℕ) → a < n → M a ≡ N a

abbrev pub Lower : ℕ → List ℕ → Type 0
Lower n l = (a : ℕ) → a ∈ l → a < n

pub agree_sym : (n : ℕ) (M N : Atoms) → AgreeBelow n M N → AgreeBelow n N M
agree_sym n M N e a l = sym (e a l)

pub all_agree : (n : ℕ) (M N : Atoms) (l : List ℕ) → Lower n l → AgreeBelow n M N → All M l → All N l
all_agree n M N l o e h a m = subst So (e a (o a m)) (h a m)

pub any_agree : (n : ℕ) (M N : Atoms) (l : List ℕ) → Lower n l → AgreeBelow n M N → Any M l → Any N l
any_agree n M N l o e h = (h.0, h.1, subst So (e h.0 (o h.0 h.1)) h.2)

-- whether clauses over n atoms are satisfied is a matter of the atoms below n
pub models_agree : (n : ℕ) (cs : List Clause) (M N X Y : Atoms) → ((c : Clause) → c ∈ cs → OverClause n c) → AgreeBelow n M N → AgreeBelow n X Y → Models M X cs → Models N Y cs
models_agree n cs M N X Y o e f h c m g p =
    any_agree n X Y c.head (o c m).head f
    (h c m (λ w. g (any_agree n M N c.neg (o c m).neg e w)) (all_agree n Y X c.pos (o c m).pos (agree_sym n X Y f) p))

-- ---- the atoms of a set below n

pub restrict_iff : (n : ℕ) (M : Atoms) (a : ℕ) → So (restrict n M a) ↔ ((a < n) × So (M a))
unfolding restrict
restrict_iff n M a = (
  λ h. let w = (and_iff _ _).0 h in (ltb-true _ _ w.0, w.1),
  λ h. (and_iff _ _).1 (lt-ltb _ _ h.0, h.1),
)

pub restrict_agree : (n : ℕ) (M : Atoms) → AgreeBelow n (restrict n M) M
unfolding restrict
restrict_agree n M a l = rw (lt-ltb a n l)

pub agree_restrict : (n : ℕ) (M N : Atoms) → AgreeBelow n M N → restrict n M ≡ restrict n N
agree_restrict n M N e = fun_ext (λ a. so_ext (restrict n M a) (restrict n N a)
    (λ h. let w = (restrict_iff n M a).0 h in (restrict_iff n N a).1 (w.0, subst So (e a w.0) w.1))
    (λ h. let w = (restrict_iff n N a).0 h in (restrict_iff n M a).1 (w.0, subst So (sym (e a w.0)) w.1)))

pub restrict_self : (n : ℕ) (M : Atoms) → ((a : ℕ) → So (M a) → a < n) → restrict n M ≡ M
restrict_self n M b = fun_ext (λ a. so_ext (restrict n M a) (M a)
    (λ h. ((restrict_iff n M a).0 h).1) (λ h. (restrict_iff n M a).1 (b a h, h)))

-- a set that agrees with one below n
pub restrict_is : (n : ℕ) (M N : Atoms) → AgreeBelow n M N → ((a : ℕ) → So (N a) → a < n) → restrict n M ≡ N
restrict_is n M N e b = agree_restrict n M N e ∙ restrict_self n N b

-- ---- one set below n, another from n on

unfoldable pub split : ℕ → Atoms → Atoms → Atoms
split n X Y a = cond (ltb a n) (X a) (Y a)

pub split_low : (n : ℕ) (X Y : Atoms) → AgreeBelow n (split n X Y) X
unfolding split
split_low n X Y a l = rw (lt-ltb a n l)

pub split_high : (n : ℕ) (X Y : Atoms) (a : ℕ) → n ≤ a → split n X Y a ≡ Y a
unfolding split
split_high n X Y a h = rw (so_false (ltb a n) (λ k. omega (arith, ltb-true a n k)))

pub low_or_high : (a n : ℕ) → (a < n) ⊎ (n ≤ a)
low_or_high a n = go (so_dec (ltb a n))
  where
    go : Dec (So (ltb a n)) → (a < n) ⊎ (n ≤ a)
    go (yes h) = inl (ltb-true a n h)
    go (no h) = let x : ¬ (a < n) = λ k. h (lt-ltb a n k) in inr (omega arith)

pub split_within : (n : ℕ) (X Y M : Atoms) → ((a : ℕ) → a < n → So (X a) → So (M a)) → ((a : ℕ) → n ≤ a → So (Y a) → So (M a)) → Subset (split n X Y) M
split_within n X Y M f g a h = ⊎_elim
    (λ l. f a l (subst So (split_low n X Y a l) h))
    (λ l. g a l (subst So (split_high n X Y a l) h)) (low_or_high a n)
