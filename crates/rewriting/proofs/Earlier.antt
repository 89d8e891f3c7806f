-- The reducer's lists before slip 7 of document 02, when it took the smallest applicable step and passed nothing over, and its lists now: what they have in common, and of which
-- clauses the earlier one stays.
use mathlib.Core.Path.{◌≡◌, refl, sym, subst}
use mathlib.Core.Logic.{◌↔◌, ◌≢◌}
use mathlib.Core.Bool.{Bool, true, not, ◌&&◌, So}
use mathlib.Core.List.{List, [], ◌∷◌}
use Prim.Native.Nat.{ℕ}
use borrow.Author.Tests.{eqb-true}
use Rattle.semantics.proofs.Tests.{and_iff, not_iff}
use Rattle.rewriting.specs.Marked.{Marked, entry, left}
use Rattle.rewriting.specs.Steps.{Step, step, condition, condition_holds, applies, effect}
use Rattle.rewriting.specs.Kinds.{subsumed}
use Rattle.rewriting.specs.Runs.{leaves}
use Rattle.rewriting.specs.Reducer.{passed_over, eligible, IsFirst, Greedy, stop, take}
use Rattle.rewriting.proofs.Equal.{subsumed_self, eligible_iff, eligible_applies}
use Rattle.rewriting.proofs.Greedy.{greedy_end, greedy_one}

-- no step of the list is passed over on what the steps before it leave
unfoldable pub none_passed : Marked → List Step → Bool
unfolding passed_over effect
none_passed P [] = true
none_passed P (s ∷ l) = not (passed_over P s) && none_passed (effect P s) l

module _ (n : ℕ) where
  -- No step of the reducer's list is passed over: where target and partner are equal, the earlier one stays.
  pub greedy_passes : {P : Marked} {l : List Step} → Greedy (eligible n) P l → So (none_passed P l)
  unfolding none_passed
  greedy_passes (stop f) = refl
  greedy_passes (take {P = P} {s = s} {l = l} f g) = (and_iff (not (passed_over P s)) (none_passed (effect P s) l)).1 ((not_iff _).1 ((eligible_iff P s n).0 f.applicable).1, greedy_passes g)

  -- the smallest applicable step, where it is not passed over, is the smallest eligible one
  first_kept : (P : Marked) (s : Step) → IsFirst (applies n) P s → ¬ So (passed_over P s) → IsFirst (eligible n) P s
  first_kept P s f o = record { applicable = (eligible_iff P s n).1 (f.applicable, o); smallest = λ u l h. f.smallest u l (eligible_applies n P u h) }

  list_kept : {P : Marked} {l : List Step} → Greedy (applies n) P l → So (none_passed P l) → Greedy (eligible n) P l
  unfolding none_passed
  list_kept (stop {P = P} f) h = stop (λ u e. f u (eligible_applies n P u e))
  list_kept (take {P = P} {s = s} {l = l} f g) h = let w = (and_iff (not (passed_over P s)) (none_passed (effect P s) l)).0 h in take (first_kept P s f ((not_iff _).0 w.0)) (list_kept g w.1)

  -- The list that the reducer wrote is the one that it writes exactly where no step of it is passed over.
  pub list_changes : {P : Marked} {old new : List Step} → Greedy (applies n) P old → Greedy (eligible n) P new → (old ≡ new) ↔ So (none_passed P old)
  list_changes {P} f g = (λ e. subst (λ l. So (none_passed P l)) (sym e) (greedy_passes g), λ h. greedy_one (eligible n) (list_kept f h) g)

  -- At the end of the reducer's list no two kept clauses are equal.
  pub end_differs : {P : Marked} {l : List Step} → Greedy (eligible n) P l → (t p : ℕ) → t ≢ p → So (entry (leaves n P l) t).kept → So (entry (leaves n P l) p).kept → (entry (leaves n P l) t).clause ≢ (entry (leaves n P l) p).clause
  unfolding applies condition_holds
  end_differs {P} {l} g t p d a b e = greedy_end n g (step subsumed t p 0) ((and_iff _ _).1 (
    a,
    (and_iff _ _).1 (
      (and_iff _ _).1 (b, (not_iff _).1 (λ z. d (sym (eqb-true p t z)))),
      (and_iff _ _).1 (refl, subst (λ c. So (condition subsumed (left (leaves n P l)) (entry (leaves n P l) t).clause c 0)) e (subsumed_self (left (leaves n P l)) (entry (leaves n P l) t).clause 0)),
    ),
  ))
