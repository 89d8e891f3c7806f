-- The consequences of an atom: the computed set is the smallest one that it has to be, and those of a consequence are among them.
use mathlib.Core.Path.{refl}
use mathlib.Core.Logic.{◌↔◌}
use mathlib.Core.Bool.{So}
use mathlib.Core.List.Memᴰ
use mathlib.Core.List.{List, ◌∷◌}
use Prim.Native.Nat.{ℕ}
use Rattle.semantics.specs.Lists.{keep}
use Rattle.semantics.specs.Programs.{Clause, Atoms, Subset}
use Rattle.semantics.proofs.Models.{Closed}
use Rattle.rewriting.specs.Consequences.{definite, AreConsequences, fact_of, consequences}
use Rattle.rewriting.proofs.Reach.{closed_iff, reach_closed, reach_least}

pub consequences_least : (S : Atoms) (cs : List Clause) (a : ℕ) → So (S a) → Closed S (keep definite cs) → Subset (consequences cs a) S
unfolding consequences
consequences_least S cs a s h = reach_least (λ b. So (S b)) (fact_of a ∷ keep definite cs) go
  where
    go : Closed S (fact_of a ∷ keep definite cs)
    go c (Memᴰ.head e) p b m = rw (Memᴰ.eq_of_singleton (rw e at m)) s
    go c (Memᴰ.tail m) p b k = h c m p b k

-- The computed set is D.
pub consequences_are : (cs : List Clause) (a : ℕ) → AreConsequences cs a (consequences cs a)
unfolding consequences
consequences_are cs a = let r = reach_closed (fact_of a ∷ keep definite cs) in record {
  start = r (fact_of a) (Memᴰ.head refl) (λ b m. absurd (Memᴰ.not-nil m)) a (Memᴰ.head refl);
  holds = (closed_iff _ _).1 (λ c m. r c (Memᴰ.tail m));
  least = λ S s h. consequences_least S cs a s ((closed_iff _ _).0 h);
}

-- There is one.
pub consequences_unique : (cs : List Clause) (a : ℕ) (D E : Atoms) → AreConsequences cs a D → AreConsequences cs a E → (b : ℕ) → So (D b) ↔ So (E b)
consequences_unique cs a D E d e b = (λ h. d.least E e.start e.holds b h, λ h. e.least D d.start d.holds b h)

-- The consequences of a consequence are consequences.
pub consequences_within : (cs : List Clause) (a b : ℕ) → So (consequences cs a b) → Subset (consequences cs b) (consequences cs a)
consequences_within cs a b h = consequences_least (consequences cs a) cs b h ((closed_iff (consequences cs a) (keep definite cs)).0 (consequences_are cs a).holds)
