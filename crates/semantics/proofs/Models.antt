-- Stable models in the working form of membership; equal models below a set, which is strong equivalence where it holds
-- below every set; and that a closed set holds every stable model.
use mathlib.Core.Path.{◌≡◌, refl}
use mathlib.Core.Logic.Iff
use mathlib.Core.Logic.{◌↔◌}
use mathlib.Core.Bool.{Bool, true, false, not, cond, ◌&&◌, So}
use mathlib.Core.List.Memᴰ
use mathlib.Core.List.{List, ◌∷◌, ◌++◌, []}
use mathlib.Core.Logic.{⊎_elim}
use Prim.Native.Nat.{ℕ, ◌<◌}
use Rattle.semantics.specs.Lists.{◌∈◌, any}
use Rattle.semantics.specs.Programs.{Clause, Program, program, Atoms, satisfies, strip, reduct, models, Subset, Stable}
use Rattle.semantics.proofs.Tests.{and_iff, not_iff, or_iff, all_iff, any_iff, so_by, so_false, not_so}

-- ---- the working form

abbrev pub All : Atoms → List ℕ → Type 0
All X l = (a : ℕ) → a ∈ l → So (X a)

abbrev pub Any : Atoms → List ℕ → Type 0
Any X l = (a : ℕ) × (a ∈ l) × So (X a)

-- the clause, if the reduct by M has it, is satisfied by X
abbrev pub Holds : Atoms → Atoms → Clause → Type 0
Holds M X c = ¬ Any M c.neg → All X c.pos → Any X c.head

-- X satisfies the reduct of the clauses by M
abbrev pub Models : Atoms → Atoms → List Clause → Type 0
Models M X cs = (c : Clause) → c ∈ cs → Holds M X c

satisfies_iff : (X : Atoms) (c : Clause) → So (satisfies X c) ↔ (All X c.pos → Any X c.head)
unfolding satisfies
satisfies_iff X c = (
  λ h p. (any_iff _ _).0 ((or_iff _ _).0 h
      (λ k. let w = (any_iff out c.pos).0 k in (not_iff _).0 w.2 (p w.0 w.1))),
  λ f. (or_iff _ _).1 (λ k. (any_iff _ _).1 (f (λ a m. so_by _ (λ x. k ((any_iff out c.pos).1 (a, m, (not_iff _).1 x)))))),
)
  where
    out : Atoms
    out a = not (X a)

pub reduct_iff : (M : Atoms) (cs : List Clause) (d : Clause) → (d ∈ reduct M cs) ↔ ((c : Clause) × (c ∈ cs) × (¬ Any M c.neg) × (d ≡ strip c))
unfolding reduct
reduct_iff M cs d = (to cs, λ h. from cs h.0 h.1 h.2 h.3)
  where
    Left : List Clause → Type 0
    Left cs = (c : Clause) × (c ∈ cs) × (¬ Any M c.neg) × (d ≡ strip c)

    to : (cs : List Clause) → d ∈ reduct M cs → Left cs
    to [] m = elim m [ ]
    to (c ∷ cs) m = go (any M c.neg) refl m (to cs)
      where
        go : (t : Bool) → any M c.neg ≡ t → d ∈ cond t (reduct M cs) (strip c ∷ reduct M cs) → (d ∈ reduct M cs → Left cs) → Left (c ∷ cs)
        go true e m f = let w = f m in (w.0, Memᴰ.tail w.1, w.2, w.3)
        go false e (Memᴰ.head q) f = (c, Memᴰ.head refl, λ w. not_so e ((any_iff _ _).1 w), q)
        go false e (Memᴰ.tail m) f = let w = f m in (w.0, Memᴰ.tail w.1, w.2, w.3)

    from : (cs : List Clause) (c : Clause) → c ∈ cs → ¬ Any M c.neg → d ≡ strip c → d ∈ reduct M cs
    from [] c x3 n q = elim x3 [ ]
    from (b ∷ cs) c (Memᴰ.head e) n q = rw (so_false (any M b.neg) (λ s. n (rw e ((any_iff _ _).0 s)))) (Memᴰ.head (rw e at q))
    from (b ∷ cs) c (Memᴰ.tail m) n q = go (any M b.neg) (from cs c m n q)
      where
        go : (t : Bool) → d ∈ reduct M cs → d ∈ cond t (reduct M cs) (strip b ∷ reduct M cs)
        go true m = m
        go false m = Memᴰ.tail m

pub models_iff : (M X : Atoms) (cs : List Clause) → So (models X (reduct M cs)) ↔ Models M X cs
unfolding models
models_iff M X cs = (
  λ h c m n. (satisfies_iff X (strip c)).0 ((all_iff (satisfies X) (reduct M cs)).0 h (strip c) ((reduct_iff M cs (strip c)).1 (c, m, n, refl))),
  λ h. (all_iff (satisfies X) (reduct M cs)).1 (λ d m.
      let w = (reduct_iff M cs d).0 m in rw w.3 ((satisfies_iff X (strip w.0)).1 (h w.0 w.1 w.2))),
)

-- no proper subset: every subset that models holds all of M
pub stable_iff : (P : Program) (M : Atoms) → Stable P M ↔
    (((a : ℕ) → So (M a) → a < P.atoms) × Models M M P.clauses × ((X : Atoms) → Subset X M → Models M X P.clauses → Subset M X))
stable_iff P M = (
  λ s. (s.below, (models_iff _ _ _).0 s.model, λ X sub h a m. so_by _ (λ x. s.minimal X (record { subset = sub; atom = a; inside = m; outside = so_false (X a) x }) ((models_iff _ _ _).1 h))),
  λ s. record { below = s.0; model = (models_iff _ _ _).1 s.1; minimal = λ X p h. not_so p.outside (s.2 X p.subset ((models_iff _ _ _).0 h) p.atom p.inside) },
)

-- ---- equal models below M; below every M this is strong equivalence

abbrev pub Same : Atoms → List Clause → List Clause → Type 0
Same M cs ds = (X : Atoms) → Subset X M → Models M X cs ↔ Models M X ds

pub same_sym : {M : Atoms} {cs ds : List Clause} → Same M cs ds → Same M ds cs
same_sym e X sub = Iff.symm (e X sub)

pub same_trans : {M : Atoms} {cs ds es : List Clause} → Same M cs ds → Same M ds es → Same M cs es
same_trans e f X sub = Iff.trans (e X sub) (f X sub)

pub same_stable : (n : ℕ) (cs ds : List Clause) (M : Atoms) → Same M cs ds → Stable (program n cs) M → Stable (program n ds) M
same_stable n cs ds M e s =
    let w = (stable_iff _ _).0 s in
    (stable_iff (program n ds) M).1 (w.0, (e M (λ a h. h)).0 w.1, λ X sub h. w.2 X sub ((e X sub).1 h))

pub same_iff : (n : ℕ) (cs ds : List Clause) (M : Atoms) → Same M cs ds → Stable (program n cs) M ↔ Stable (program n ds) M
same_iff n cs ds M e = (same_stable _ _ _ _ e, same_stable _ _ _ _ (same_sym e))

-- clauses may be added to both
pub same_append : (M : Atoms) (cs ds es : List Clause) → Same M cs ds → Same M (cs ++ es) (ds ++ es)
same_append M cs ds es e X sub = (carry cs ds (e X sub).0, carry ds cs (e X sub).1)
  where
    carry : (cs ds : List Clause) → (Models M X cs → Models M X ds) → Models M X (cs ++ es) → Models M X (ds ++ es)
    carry cs ds f h c m = ⊎_elim (f (λ b k. h b (Memᴰ.append_left es k)) c) (λ k. h c (Memᴰ.append_right cs k)) (Memᴰ.append_cases ds m)

-- ---- a closed set holds every stable model

-- R holds all head atoms of every clause whose positive atoms it holds
abbrev pub Closed : Atoms → List Clause → Type 0
Closed R cs = (c : Clause) → c ∈ cs → All R c.pos → All R c.head

pub stable_within : (P : Program) (M R : Atoms) → Closed R P.clauses → Stable P M → Subset M R
stable_within P M R r s a m =
    let w = (stable_iff _ _).0 s in
    (both a (w.2 (λ b. M b && R b) (λ b h. (both b h).0) (λ c k g p.
    let e = w.1 c k g (λ b q. (both b (p b q)).0) in
    (e.0, e.1, (and_iff _ _).1 (e.2, r c k (λ b q. (both b (p b q)).1) e.0 e.1))) a m)).1
  where
    both : (b : ℕ) → So (M b && R b) → So (M b) × So (R b)
    both b h = (and_iff _ _).0 h
