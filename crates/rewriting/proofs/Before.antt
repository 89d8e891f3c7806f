-- Steps as they were before slip 6 of document 02, when a step of kind 7 asked for no head: a failure was a loop step too, and now no step is both. The reducer's
-- lists are those of before.
use mathlib.Core.Path.{◌≡◌, refl, sym, ap, subst}
use mathlib.Core.Logic.{◌↔◌, ◌⊎◌, inl, inr, by_cases, ⊎_elim}
use mathlib.Core.Bool.{Bool, cond, not, ◌&&◌, So, false≢true}
use mathlib.Core.List.{List}
use Prim.Native.Nat.{ℕ, ◌≤◌, ◌<◌}
use native.Mathlib.Omega.{arith}
use lib.Dec.{eqb}
use borrow.Author.Tests.{lt-ltb}
use Rattle.semantics.specs.Lists.{◌∈◌, mem}
use Rattle.semantics.specs.Programs.{Clause}
use Rattle.semantics.proofs.Tests.{and_iff, not_iff, mem_iff, so_dec, so_ext}
use Rattle.rewriting.specs.Marked.{Marked, entry, left}
use Rattle.rewriting.specs.Reaches.{reach}
use Rattle.rewriting.specs.Steps.{Step, step, in_no_head, headed, target_kept, partner_kept, atom_known, atom_headed, condition, condition_holds, applies}
use Rattle.rewriting.specs.Kinds.{Kind, failure, loop, number}
use Rattle.rewriting.specs.Reducer.{Less, less_kind, less_target, less_partner, less_atom, passed_over, eligible, IsFirst, Greedy, stop, take}
use Rattle.rewriting.proofs.Rows.{each_kind, loops}
use Rattle.rewriting.proofs.Reach.{bare_out}
use Rattle.rewriting.proofs.Effect.{asks}
use Rattle.rewriting.proofs.Equal.{eligible_iff, eligible_same}

-- ---- the definition that was there

-- 7 "the atom is in its positive body and outside the reach", and no more
unfoldable pub condition_before : Marked → Step → Bool
unfolding reach condition_holds left
condition_before P s = cond (eqb (number s.kind) 7) (mem s.atom (entry P s.target).clause.pos && not (reach (left P) s.atom)) (condition_holds P s)

unfoldable pub applies_before : ℕ → Marked → Step → Bool
unfolding condition_before
applies_before n P s = target_kept P s && (partner_kept P s && (atom_known n s && condition_before P s))

-- of these, what the reducer would choose among
unfoldable pub eligible_before : ℕ → Marked → Step → Bool
unfolding applies_before passed_over
eligible_before n P s = applies_before n P s && not (passed_over P s)

-- ---- a failure was a loop step, and no loop step is one now

-- the failure with the words of a step
abbrev pub as_failure : Step → Step
as_failure s = step failure s.target s.partner s.atom

module _ (P : Marked) (t p a : ℕ) where
  abbrev the : Clause
  the = (entry P t).clause

  abbrev by : Clause
  by = (entry P p).clause

  -- the condition of before, kind by kind
  abbrev Was : Kind → Bool
  Was k = cond (eqb (number k) 7) (mem a the.pos && not (reach (left P) a)) (condition k (left P) the by a)

  was : (k : Kind) → So (condition k (left P) the by a) → So (Was k)
  was = each_kind (λ k. So (condition k (left P) the by a) → So (Was k)) (λ h. h) (λ h. h) (λ h. h) (λ h. h) (λ h. h) (λ h. h)
      (λ h. let w = (loops (left P) the by a).0 h in (and_iff _ _).1 ((mem_iff _ _).1 w.there, (not_iff _).1 w.outside)) (λ h. h) (λ h. h)

  fails : So (condition failure (left P) the by a) → So (in_no_head (left P) a)
  unfolding condition
  fails h = ((and_iff (mem a the.pos) (in_no_head (left P) a)).0 h).1

  failure_was : So (condition failure (left P) the by a) → So (Was loop)
  unfolding condition
  failure_was h = let w = (and_iff (mem a the.pos) (in_no_head (left P) a)).0 h in (and_iff _ _).1 (w.0, (not_iff _).1 (bare_out (left P) a w.1))

  not_both : So (condition failure (left P) the by a) → ¬ So (condition loop (left P) the by a)
  not_both h l = ((loops (left P) the by a).0 l).head (fails h)

  splits : (k : Kind) → So (Was k) → So (condition k (left P) the by a) ⊎ ((k ≡ loop) × So (condition failure (left P) the by a))
  unfolding condition
  splits = each_kind (λ k. So (Was k) → So (condition k (left P) the by a) ⊎ ((k ≡ loop) × So (condition failure (left P) the by a)))
      inl inl inl inl inl inl
      (λ h. let w = (and_iff (mem a the.pos) (not (reach (left P) a))).0 h in by_cases (so_dec (in_no_head (left P) a))
      (λ x. inr (refl, (and_iff (mem a the.pos) (in_no_head (left P) a)).1 (w.0, x)))
      (λ x. inl ((loops (left P) the by a).1 (record { there = (mem_iff _ _).0 w.0; head = x; outside = (not_iff _).0 w.1 }))))
      inl inl

-- Behind 32 the condition is the one that was there.
pub condition_same : (P : Marked) (s : Step) → So (atom_headed P s) → condition_holds P s ≡ condition_before P s
unfolding condition_holds condition_before atom_headed
condition_same P s h = so_ext _ _ (was P s.target s.partner s.atom s.kind)
    (λ b. ⊎_elim (λ c. c) (λ (e, f). absurd ((not_iff _).0 (subst (λ k. So (headed k (left P) s.atom)) e h) (fails P s.target s.partner s.atom f))) (splits P s.target s.partner s.atom s.kind b))

module _ (n : ℕ) (P : Marked) where
  -- Every step that applies now applied before.
  pub applied : (s : Step) → So (applies n P s) → So (applies_before n P s)
  unfolding applies applies_before condition_holds condition_before
  applied s h = let w = simp and_iff at h in
      (and_iff _ _).1 (w.0, (and_iff _ _).1 (w.1.0, (and_iff _ _).1 (w.1.1.0, was P s.target s.partner s.atom s.kind w.1.1.1)))

  -- A step that applied before applies now, or is a loop step whose words make a failure.
  pub applied_or : (s : Step) → So (applies_before n P s) → So (applies n P s) ⊎ ((s.kind ≡ loop) × So (applies n P (as_failure s)))
  unfolding applies applies_before condition_holds condition_before
  applied_or s h =
      let w = simp and_iff at h in
      ⊎_elim (λ q. inl ((and_iff _ _).1 (w.0, (and_iff _ _).1 (w.1.0, (and_iff _ _).1 (w.1.1.0, q)))))
      (λ (e, q). inr (
        e,
        (and_iff (target_kept P (as_failure s)) _).1 (
          w.0,
          (and_iff (partner_kept P (as_failure s)) _).1 (
            subst (λ k. So (partner_kept P (step k s.target s.partner s.atom))) e w.1.0,
            (and_iff (atom_known n (as_failure s)) _).1
                (subst (λ k. So (atom_known n (step k s.target s.partner s.atom))) e w.1.1.0, q),
          ),
        ),
      ))
      (splits P s.target s.partner s.atom s.kind w.1.1.1)

  -- "Every failure is also a loop step"
  pub failure_looped : (t p a : ℕ) → So (applies n P (step failure t p a)) → So (applies_before n P (step loop t p a))
  unfolding applies applies_before condition_holds condition_before
  failure_looped t p a h = let w = simp and_iff at h in
      (and_iff _ _).1 (w.0, (and_iff _ _).1 (w.1.0, (and_iff _ _).1 (w.1.1.0, failure_was P t p a ((and_iff _ _).1 (w.1.1.1.0, w.1.1.1.1)))))

  -- now no words make both, and a loop step is what was one, but for failures
  pub loop_now : (t p a : ℕ) → So (applies n P (step loop t p a)) ↔ (So (applies_before n P (step loop t p a)) × ¬ So (applies n P (step failure t p a)))
  loop_now t p a = (λ h. (applied (step loop t p a) h, λ f. not_both P t p a (asks n P _ f) (asks n P _ h)), λ (b, f). ⊎_elim (λ h. h) (λ (e, h). absurd (f h)) (applied_or (step loop t p a) b))

-- ---- the reducer's choice and its list

less_kind_lem : (u s : Step) → Less u s → number u.kind ≤ number s.kind
less_kind_lem u s (less_kind l) = omega arith
less_kind_lem u s (less_target e l) = omega (arith, ap number e)
less_kind_lem u s (less_partner e f l) = omega (arith, ap number e)
less_kind_lem u s (less_atom e f g l) = omega (arith, ap number e)

-- a failure comes before every step that comes no earlier than a loop step
failure_less : (u s : Step) → u.kind ≡ loop → number u.kind ≤ number s.kind → Less (as_failure u) s
failure_less u s e l = less_kind (omega (arith, ap number e))

module _ (n : ℕ) (P : Marked) where
  was_eligible : (s : Step) → So (eligible n P s) → So (eligible_before n P s)
  unfolding eligible_before
  was_eligible s h = let w = (eligible_iff P s n).0 h in (and_iff (applies_before n P s) (not (passed_over P s))).1 (applied n P s w.0, (not_iff _).1 w.1)

  -- no failure is passed over
  was_eligible_or : (s : Step) → So (eligible_before n P s) → So (eligible n P s) ⊎ ((s.kind ≡ loop) × So (eligible n P (as_failure s)))
  unfolding eligible_before
  was_eligible_or s b = let w = (and_iff (applies_before n P s) (not (passed_over P s))).0 b in
      ⊎_elim (λ h. inl ((eligible_iff P s n).1 (h, (not_iff _).0 w.1))) (λ (e, h). inr (e, subst So (sym (eligible_same n P (as_failure s) false≢true)) h)) (applied_or n P s w.0)

module _ (n : ℕ) where
  -- The step that the reducer takes is the one that it would take.
  pub first_as_before : (P : Marked) (s : Step) → IsFirst (eligible n) P s ↔ IsFirst (eligible_before n) P s
  first_as_before P s = (
    λ f. record {
      applicable = was_eligible n P s f.applicable;
      smallest = λ u l b. ⊎_elim (f.smallest u l) (λ (e, h). f.smallest (as_failure u) (failure_less u s e (less_kind_lem u s l)) h) (was_eligible_or n P u b);
    },
    λ f. record {
      applicable = ⊎_elim (λ h. h) (λ (e, h). absurd (f.smallest (as_failure s) (failure_less s s e (omega arith)) (was_eligible n P (as_failure s) h))) (was_eligible_or n P s f.applicable);
      smallest = λ u l h. f.smallest u l (was_eligible n P u h);
    },
  )

  -- where no step is eligible now, none was before, and the other way round
  pub none_as_before : (P : Marked) → ((u : Step) → ¬ So (eligible n P u)) ↔ ((u : Step) → ¬ So (eligible_before n P u))
  none_as_before P = (λ f u b. ⊎_elim (f u) (λ (e, h). f (as_failure u) h) (was_eligible_or n P u b), λ f u h. f u (was_eligible n P u h))

  -- "The reducer's lists already take 6 first": its list is the one that it was.
  pub lists_as_before : (P : Marked) (l : List Step) → Greedy (eligible n) P l ↔ Greedy (eligible_before n) P l
  lists_as_before P l = (to, from)
    where
      to : {P : Marked} {l : List Step} → Greedy (eligible n) P l → Greedy (eligible_before n) P l
      to (stop {P = P} f) = stop ((none_as_before P).0 f)
      to (take {P = P} {s = s} f g) = take ((first_as_before P s).0 f) (to g)

      from : {P : Marked} {l : List Step} → Greedy (eligible_before n) P l → Greedy (eligible n) P l
      from (stop {P = P} f) = stop ((none_as_before P).1 f)
      from (take {P = P} {s = s} f g) = take ((first_as_before P s).1 f) (from g)

  -- Where the reducer chooses a loop step, no failure is open, so that no atom of a kept positive body is in no head.
  pub loop_chosen : (P : Marked) (s : Step) → IsFirst (eligible n) P s → s.kind ≡ loop → (t : ℕ) → So (entry P t).kept → (a : ℕ) → a ∈ (entry P t).clause.pos → a < n → ¬ So (in_no_head (left P) a)
  unfolding applies condition_holds condition
  loop_chosen P s f e t k a m l b = f.smallest (step failure t 0 a) (failure_less (step loop t 0 a) s refl (omega (arith, ap number e))) (subst So (sym (eligible_same n P (step failure t 0 a) false≢true))
      ((and_iff _ _).1 (k, (and_iff _ _).1 (refl, (and_iff _ _).1 (lt-ltb a n l, (and_iff (mem a (entry P t).clause.pos) (in_no_head (left P) a)).1 ((mem_iff _ _).1 m, b))))))
