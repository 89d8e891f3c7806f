-- Stable models within a context: equal models below a set keep them, and a closed set with the context's heads holds each.
use mathlib.Core.Bool.{◌&&◌, So}
use mathlib.Core.List.{List}
use Prim.Native.Nat.{ℕ}
use Rattle.semantics.specs.Programs.{Clause, Atoms, Subset}
use Rattle.semantics.proofs.Tests.{and_iff}
use Rattle.semantics.proofs.Models.{Same, Closed}
use Rattle.shell_choices.specs.Stable.{Context, StableIn}
use Rattle.shell_choices.proofs.Members.{in_iff}
use Rattle.shell_guards.specs.Guards.{HeadsIn}

module _ (n : ℕ) (sat : Context) where
  pub same_in : (cs ds : List Clause) (M : Atoms) → Same M cs ds → StableIn n cs sat M → StableIn n ds sat M
  same_in cs ds M e s =
      let w = (in_iff n cs sat M).0 s in
      (in_iff n ds sat M).1 (w.0, (e M (λ a h. h)).0 w.1, w.2, λ X sub h. w.3 X sub ((e X sub).1 h))

  -- the part of M within R is a model: M has no unfounded atoms outside R
  pub in_within : (H R : Atoms) (cs : List Clause) (M : Atoms) → HeadsIn H sat → Subset H R → Closed R cs → StableIn n cs sat M → Subset M R
  in_within H R cs M k f r s a m =
      let w = (in_iff n cs sat M).0 s in
      (both a (w.3 (λ b. M b && R b) (λ b h. (both b h).0)
      (λ c q g p. let e = w.1 c q g (λ b x. (both b (p b x)).0) in
      (e.0, e.1, (and_iff _ _).1 (e.2, r c q (λ b x. (both b (p b x)).1) e.0 e.1)))
      (k M (λ b. M b && R b) (λ b h. (both b h).0) (λ b h x. (and_iff _ _).1 (x, f b h)) w.2) a m)).1
    where
      both : (b : ℕ) → So (M b && R b) → So (M b) × So (R b)
      both b h = (and_iff _ _).0 h
