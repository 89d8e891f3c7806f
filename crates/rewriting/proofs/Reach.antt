-- The reach: the computed set is the smallest closed one. A closed set that lacks an atom keeps the atom out of every stable model.
use mathlib.Core.Path.{◌≡◌, refl, sym}
use mathlib.Core.Logic.{◌↔◌, ◌⊎◌, inl, inr, ⊎_elim}
use mathlib.Core.Bool.{Bool, true, false, not, cond, ◌||◌, So}
use mathlib.Core.List.Memᴰ
use mathlib.Core.List.{List, [], ◌∷◌, ◌++◌}
use Prim.Native.Nat.{ℕ, zero, suc, ◌≤◌, ◌<◌}
use native.Mathlib.Omega.{arith}
use lib.Dec.{eqb}
use lib.ListN.{length}
use borrow.Author.Tests.{eqb-true, eq-eqb}
use Rattle.semantics.specs.Lists.{◌∈◌, all, mem, within, count}
use Rattle.semantics.specs.Programs.{Clause, Atoms, Stable, program, among}
use Rattle.semantics.proofs.Tests.{and_iff, not_iff, or_iff, all_iff, any_iff, mem_iff, so_by, not_so, count_bound, count_none, count_lt}
use Rattle.semantics.proofs.Models.{All, Same, same_stable, same_sym, Closed, stable_within}
use Rattle.rewriting.specs.Reach.{closed, IsReach}
use Rattle.rewriting.specs.Reaches.{ready, fire, reach_from, reach}
use Rattle.rewriting.specs.Steps.{in_no_head}

pub closed_iff : (R : Atoms) (cs : List Clause) → So (closed R cs) ↔ Closed R cs
unfolding closed
closed_iff R cs = (
  λ h c m p. (all_iff R c.head).0 ((or_iff _ _).0 ((all_iff test cs).0 h c m) (λ x. (not_iff _).0 x ((all_iff R c.pos).1 p))),
  λ h. (all_iff test cs).1 (λ c m. (or_iff _ _).1 (λ x. (all_iff R c.head).1 (h c m ((all_iff R c.pos).0 (so_by _ (λ y. x ((not_iff _).1 y))))))),
)
  where
    test : Clause → Bool
    test c = not (all R c.pos) || all R c.head

-- ---- an atom in no head

pub in_no_head_iff : (cs : List Clause) (a : ℕ) → So (in_no_head cs a) ↔ ((c : Clause) → c ∈ cs → ¬ (a ∈ c.head))
unfolding in_no_head
in_no_head_iff cs a = (
  λ h c m k. (not_iff _).0 h ((any_iff test cs).1 (c, m, (mem_iff _ _).1 k)),
  λ h. (not_iff _).1 (λ x. let w = (any_iff test cs).0 x in h w.0 w.1 ((mem_iff _ _).0 w.2)),
)
  where
    test : Clause → Bool
    test c = mem a c.head

pub in_head_iff : (cs : List Clause) (a : ℕ) → (¬ So (in_no_head cs a)) ↔ ((c : Clause) × (c ∈ cs) × (a ∈ c.head))
unfolding in_no_head
in_head_iff cs a = (
  λ h. let w = (any_iff test cs).0 (so_by _ (λ x. h ((not_iff _).1 x))) in (w.0, w.1, (mem_iff _ _).0 w.2),
  λ (c, m, k) h. (not_iff _).0 h ((any_iff test cs).1 (c, m, (mem_iff _ _).1 k)),
)
  where
    test : Clause → Bool
    test c = mem a c.head

-- everything but one atom
abbrev pub all_but : ℕ → Atoms
all_but a b = not (eqb b a)

pub others_closed : (cs : List Clause) (a : ℕ) → So (in_no_head cs a) → Closed (all_but a) cs
others_closed cs a h c m p b k = (not_iff _).1 (λ e. (in_no_head_iff _ _).0 h c m (Memᴰ.cast (sym (eqb-true _ _ e)) k))

pub others_not : (a : ℕ) → ¬ So (all_but a a)
others_not a h = (not_iff _).0 h (eq-eqb a a refl)

-- equal models below every set without the atom are enough where neither program has a stable model with it
pub same_without : (n : ℕ) (cs ds : List Clause) (M R : Atoms) (a : ℕ) → Closed R cs → Closed R ds → ¬ So (R a)
    → (¬ So (M a) → Same M cs ds) → Stable (program n cs) M ↔ Stable (program n ds) M
same_without n cs ds M R a p q r e = (
  λ s. same_stable _ _ _ _ (e (λ m. r (stable_within (program n cs) M R p s a m))) s,
  λ s. same_stable _ _ _ _ (same_sym (e (λ m. r (stable_within (program n ds) M R q s a m)))) s,
)

-- ---- the computed reach

-- one round: nothing is ready and nothing is added, or a ready clause's head is
data Fired (S : List ℕ) (cs : List Clause) (r : List ℕ) : Type 0 where
  quiet : r ≡ [] → ((c : Clause) → c ∈ cs → ¬ So (ready S c)) → Fired S cs r
  fired : (c : Clause) → c ∈ cs → So (ready S c) → r ≡ c.head → Fired S cs r

fire_cases : (S : List ℕ) (cs : List Clause) → Fired S cs (fire S cs)
unfolding fire
fire_cases S [] = quiet refl (λ c m. absurd (Memᴰ.not-nil m))
fire_cases S (c ∷ cs) = step (ready S c) refl (fire_cases S cs)
  where
    none : ready S c ≡ false → ((d : Clause) → d ∈ cs → ¬ So (ready S d)) → (d : Clause) → d ∈ c ∷ cs → ¬ So (ready S d)
    none e h d (Memᴰ.head q) = rw q (not_so e)
    none e h d (Memᴰ.tail m) = h d m

    step : (t : Bool) → ready S c ≡ t → Fired S cs (fire S cs) → Fired S (c ∷ cs) (cond t c.head (fire S cs))
    step true e r = fired c (Memᴰ.head refl) e refl
    step false e (quiet z h) = quiet z (none e h)
    step false e (fired d m h z) = fired d (Memᴰ.tail m) h z

ready_iff : (S : List ℕ) (c : Clause) → So (ready S c) ↔ (All (among S) c.pos × ¬ All (among S) c.head)
ready_iff S c = (
  λ h. let v = (and_iff _ _).0 h in ((all_iff _ _).0 v.0, λ k. (not_iff _).0 v.1 ((all_iff _ _).1 k)),
  λ h. (and_iff _ _).1 ((all_iff _ _).1 h.0, (not_iff _).1 (λ k. h.1 ((all_iff _ _).0 k))),
)

-- a clause whose head is not all in S
abbrev missing : List ℕ → Clause → Bool
missing S c = not (within c.head S)

missing_iff : (S : List ℕ) (c : Clause) → So (missing S c) ↔ ¬ All (among S) c.head
missing_iff S c = (λ h k. (not_iff _).0 h ((all_iff _ _).1 k), λ h. (not_iff _).1 (λ k. h ((all_iff _ _).0 k)))

closed_by : (S : List ℕ) (cs : List Clause) → ((c : Clause) → c ∈ cs → All (among S) c.pos → ¬ ¬ All (among S) c.head) → Closed (among S) cs
closed_by S cs h c m p a k = so_by _ (λ x. h c m p (λ g. x (g a k)))

fire_less : (S : List ℕ) (cs : List Clause) (c : Clause) → c ∈ cs → So (ready S c) → count (missing (c.head ++ S)) cs < count (missing S) cs
fire_less S cs c m r =
    let w = (ready_iff S c).0 r in
    count_lt (missing (c.head ++ S)) (missing S)
    (λ d h. (missing_iff S d).1 (λ k. (missing_iff (c.head ++ S) d).0 h (λ a q. (mem_iff _ _).1 (Memᴰ.append_right c.head ((mem_iff _ _).0 (k a q))))))
    cs c m ((missing_iff S c).1 w.1)
    (λ h. (missing_iff (c.head ++ S) c).0 h (λ a q. (mem_iff _ _).1 (Memᴰ.append_left S q)))

round : (cs : List Clause) (k : ℕ) (S r : List ℕ) → Fired S cs r → (count (missing S) cs ≤ suc k) ⊎ Closed (among S) cs → (count (missing (r ++ S)) cs ≤ k) ⊎ Closed (among (r ++ S)) cs
round cs k S r (quiet z q) h = inr (rw z (closed_by S cs (λ c m p x. q c m ((ready_iff S c).1 (p, x)))))
round cs k S r (fired c m d z) (inl h) = inl (rw z (omega (arith, fire_less S cs c m d)))
round cs k S r (fired c m d z) (inr f) = let w = (ready_iff S c).0 d in absurd (w.1 (f c m w.0))

reach_from_closed : (cs : List Clause) (k : ℕ) (S : List ℕ) → (count (missing S) cs ≤ k) ⊎ Closed (among S) cs → Closed (among (reach_from cs k S)) cs
unfolding reach_from
reach_from_closed cs zero S (inl h) = closed_by S cs (λ c m p x. count_none (missing S) cs h c m ((missing_iff S c).1 x))
reach_from_closed cs zero S (inr h) = h
reach_from_closed cs (suc k) S h = reach_from_closed cs k (fire S cs ++ S) (round cs k S (fire S cs) (fire_cases S cs) h)

-- what is closed holds of all that is added; T need not be a test
module _ (T : ℕ → Type 0) (cs : List Clause) (c : (d : Clause) → d ∈ cs → ((a : ℕ) → a ∈ d.pos → T a) → (a : ℕ) → a ∈ d.head → T a) where
  fire_within : (S r : List ℕ) → ((a : ℕ) → a ∈ S → T a) → Fired S cs r → (a : ℕ) → a ∈ r → T a
  fire_within S r h (quiet z q) a m = absurd (Memᴰ.not-nil (rw z at m))
  fire_within S r h (fired d k f z) a m =
      let w = (ready_iff S d).0 f in
      c d k (λ b q. h b ((mem_iff _ _).0 (w.0 b q))) a (rw z at m)

  pub reach_from_least : (k : ℕ) (S : List ℕ) → ((a : ℕ) → a ∈ S → T a) → (a : ℕ) → a ∈ reach_from cs k S → T a
  unfolding reach_from
  reach_from_least zero S h = h
  reach_from_least (suc k) S h = reach_from_least k (fire S cs ++ S)
      (λ a m. ⊎_elim (λ l. fire_within S (fire S cs) h (fire_cases S cs) a l) (λ r. h a r) (Memᴰ.append_cases (fire S cs) m))

  pub reach_least : (a : ℕ) → So (reach cs a) → T a
  unfolding reach
  reach_least a m = reach_from_least (length cs) [] (λ b k. absurd (Memᴰ.not-nil k)) a ((mem_iff _ _).0 m)

-- an atom in no head is outside the reach
pub bare_out : (cs : List Clause) (a : ℕ) → So (in_no_head cs a) → ¬ So (reach cs a)
bare_out cs a h r = others_not a (reach_least (λ b. So (all_but a b)) cs (others_closed cs a h) a r)

pub reach_closed : (cs : List Clause) → Closed (reach cs) cs
unfolding reach
reach_closed cs = reach_from_closed cs (length cs) [] (inl (count_bound (missing []) cs))

-- The computed set is the reach.
pub reach_is : (cs : List Clause) → IsReach cs (reach cs)
reach_is cs = record {
  holds = (closed_iff _ _).1 (reach_closed cs);
  least = λ S c. reach_least (λ a. So (S a)) cs ((closed_iff _ _).0 c);
}

-- The smallest closed set is one.
pub reach_unique : (cs : List Clause) (R S : Atoms) → IsReach cs R → IsReach cs S → (a : ℕ) → So (R a) ↔ So (S a)
reach_unique cs R S r s a = (λ h. r.least S s.holds a h, λ h. s.least R r.holds a h)
