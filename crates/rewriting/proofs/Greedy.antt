-- The reducer's list: the smallest eligible step each time, until none is. It is accepted, no step is open behind it, and it is no longer than what the measure lost: exactly as
-- long, where kind 9 is not among its steps.
use mathlib.Core.Path.{◌≡◌, refl, sym, ap, subst, ◌∙◌}
use mathlib.Core.Logic.{◌⊎◌, inl, inr, by_cases, ⊎_elim}
use mathlib.Core.Bool.{Bool, So}
use mathlib.Core.List.{List, [], ◌∷◌}
use mathlib.Core.Option.{Option, none, some}
use Prim.Native.Nat.{ℕ, zero, suc, ◌+◌, ◌≤◌}
use native.Mathlib.Omega.{arith}
use native.Mathlib.Decide.{dec_lt}
use lib.ListN.{length}
use Rattle.semantics.proofs.Tests.{and_iff}
use Rattle.rewriting.specs.Marked.{Marked, entry}
use Rattle.rewriting.specs.Steps.{Step, step, applies, effect}
use Rattle.rewriting.specs.Kinds.{number, kind_of, on_target}
use Rattle.rewriting.specs.Runs.{accepted, leaves, without_nine}
use Rattle.rewriting.specs.Reducer.{Less, less_kind, less_target, less_partner, less_atom, eligible, IsFirst, Greedy, stop, take}
use Rattle.rewriting.specs.Search.{first_step, reduce}
use Rattle.rewriting.specs.Measure.{measure}
use Rattle.rewriting.proofs.Measure.{Tidy, step_measure, step_less, tidy_effect}
use Rattle.rewriting.proofs.Rows.{kind_of_number}
use Rattle.rewriting.proofs.Equal.{eligible_applies, none_applies}
use Rattle.rewriting.proofs.Search.{first_step_none, first_step_some}

-- The reducer's list takes the smallest eligible step each time, until none is.
pub reduce_greedy : (n fuel : ℕ) (P : Marked) → ((i : ℕ) → Tidy (entry P i)) → measure P ≤ fuel → Greedy (eligible n) P (reduce n fuel P)
unfolding reduce
reduce_greedy n zero P u h = stop (λ s k. omega (arith, step_less n P s u (eligible_applies n P s k)))
reduce_greedy n (suc fuel) P u h = go (first_step n P) refl (λ s k. reduce_greedy n fuel (effect P s) (tidy_effect P s u) (omega (arith, step_less n P s u (eligible_applies n P s k))))
  where
    go : (o : Option Step) → first_step n P ≡ o → ((s : Step) → So (eligible n P s) → Greedy (eligible n) (effect P s) (reduce n fuel (effect P s)))
        → Greedy (eligible n) P (elim o [ none ↦ [] | some s ↦ s ∷ reduce n fuel (effect P s) ])
    go none e r = stop (first_step_none n P e)
    go (some s) e r = let f = first_step_some n P s e in take f (r s f.applicable)

-- The reducer's list is accepted.
pub greedy_accepted : (n : ℕ) {P : Marked} {l : List Step} → Greedy (eligible n) P l → So (accepted n P l)
unfolding accepted
greedy_accepted n (stop h) = refl
greedy_accepted n (take {P = P} {s = s} {l = l} f g) = (and_iff (applies n P s) (accepted n (effect P s) l)).1 (eligible_applies n P s f.applicable, greedy_accepted n g)

-- No step is open at its end, passed over or not.
pub greedy_end : (n : ℕ) {P : Marked} {l : List Step} → Greedy (eligible n) P l → (u : Step) → ¬ So (applies n (leaves n P l) u)
unfolding leaves
greedy_end n (stop {P = P} h) = none_applies n P h
greedy_end n (take {P = P} {s = s} f g) = rw (eligible_applies n P s f.applicable) (greedy_end n g)

-- The number of steps of an accepted list is at most what the measure lost,
pub accepted_less : (n : ℕ) (P : Marked) (l : List Step) → ((i : ℕ) → Tidy (entry P i)) → So (accepted n P l) → length l + measure (leaves n P l) ≤ measure P
unfolding accepted leaves
accepted_less n P [] u h = omega arith
accepted_less n P (s ∷ l) u h =
    let w = (and_iff (applies n P s) (accepted n (effect P s) l)).0 h in
    rw w.0 (omega (arith, step_less n P s u w.0, accepted_less n (effect P s) l (tidy_effect P s u) w.1))

-- and where kind 9 is not among them, it is that.
pub accepted_measure : (n : ℕ) (P : Marked) (l : List Step) → So (without_nine l) → ((i : ℕ) → Tidy (entry P i)) → So (accepted n P l) → length l + measure (leaves n P l) ≡ measure P
unfolding accepted leaves
accepted_measure n P [] o u h = omega arith
accepted_measure n P (s ∷ l) o u h =
    let w = (and_iff (applies n P s) (accepted n (effect P s) l)).0 h in
    let v = (and_iff (on_target s.kind) (without_nine l)).0 o in
    rw w.0 (omega (arith, step_measure n P s v.0 u w.0, accepted_measure n (effect P s) l v.1 (tidy_effect P s u) w.1))

-- ---- one list

-- two steps, by the order in which the reducer looks at them
order : (s u : Step) → Less s u ⊎ (s ≡ u) ⊎ Less u s
order s u = by_cases (dec_lt (number s.kind) (number u.kind)) (λ l. inl (less_kind l))
    (λ x. by_cases (dec_lt (number u.kind) (number s.kind)) (λ l. inr (inr (less_kind l)))
    (λ y. let e : number s.kind ≡ number u.kind = omega arith in targets (sym (kind_of_number s.kind) ∙ ap kind_of e ∙ kind_of_number u.kind)))
  where
    atoms : s.kind ≡ u.kind → s.target ≡ u.target → s.partner ≡ u.partner → Less s u ⊎ (s ≡ u) ⊎ Less u s
    atoms e f g = by_cases (dec_lt s.atom u.atom) (λ l. inl (less_atom e f g l))
        (λ x. by_cases (dec_lt u.atom s.atom) (λ l. inr (inr (less_atom (sym e) (sym f) (sym g) l)))
        (λ y. let h : s.atom ≡ u.atom = omega arith in inr (inl (
        ap (λ k. step k s.target s.partner s.atom) e
        ∙ ap (λ t. step u.kind t s.partner s.atom) f
        ∙ ap (λ p. step u.kind u.target p s.atom) g
        ∙ ap (λ a. step u.kind u.target u.partner a) h
        ))))

    partners : s.kind ≡ u.kind → s.target ≡ u.target → Less s u ⊎ (s ≡ u) ⊎ Less u s
    partners e f = by_cases (dec_lt s.partner u.partner) (λ l. inl (less_partner e f l))
        (λ x. by_cases (dec_lt u.partner s.partner) (λ l. inr (inr (less_partner (sym e) (sym f) l))) (λ y. atoms e f (omega arith)))

    targets : s.kind ≡ u.kind → Less s u ⊎ (s ≡ u) ⊎ Less u s
    targets e = by_cases (dec_lt s.target u.target) (λ l. inl (less_target e l))
        (λ x. by_cases (dec_lt u.target s.target) (λ l. inr (inr (less_target (sym e) l))) (λ y. partners e (omega arith)))

module _ (among : Marked → Step → Bool) where
  first_one : (P : Marked) (s u : Step) → IsFirst among P s → IsFirst among P u → s ≡ u
  first_one P s u f g = ⊎_elim (λ l. absurd (g.smallest s l f.applicable)) (⊎_elim (λ e. e) (λ l. absurd (f.smallest u l g.applicable))) (order s u)

  -- There is one such list.
  pub greedy_one : {P : Marked} {l k : List Step} → Greedy among P l → Greedy among P k → l ≡ k
  greedy_one (stop f) (stop g) = refl
  greedy_one (stop f) (take {s = s} g h) = absurd (f s g.applicable)
  greedy_one (take {s = s} f h) (stop g) = absurd (g s f.applicable)
  greedy_one (take {P = P} {s = s} {l = l} f h) (take {s = u} {l = k} g j) =
      let e = first_one P s u f g in
      ap (λ x. x ∷ l) e ∙ ap (λ x. u ∷ x) (greedy_one (subst (λ x. Greedy among (effect P x) l) e h) j)
