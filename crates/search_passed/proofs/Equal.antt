-- Equal clauses of a table: each is within the other; and which steps with them are passed over.
use mathlib.Core.Path.{◌≡◌, refl, sym, subst}
use mathlib.Core.Logic.{◌≢◌}
use mathlib.Core.Bool.{Bool, true, false, So}
use mathlib.Core.List.{List}
use Prim.Native.Nat.{ℕ, ◌≤◌, ◌<◌}
use native.Mathlib.Omega.{arith}
use borrow.Author.Tests.{lt-ltb}
use Rattle.semantics.specs.Programs.{Clause}
use Rattle.semantics.proofs.Tests.{so_ext, so_false, not_so}
use Rattle.rewriting.specs.Marked.{entry, left}
use Rattle.rewriting.specs.Steps.{step, condition}
use Rattle.rewriting.specs.Kinds.{Kind, blocked, subsumed}
use Rattle.rewriting.specs.Reducer.{equal, spares, passed_over}
use Rattle.rewriting.proofs.Rows.{each_kind}
use Rattle.rewriting.proofs.Equal.{equal_iff, subsumed_self, equal_within, passed_iff}
use Rattle.table.specs.Questions.{Passed}
use Rattle.table.specs.View.{view}
use Rattle.table.proofs.Parts.{view_ascends}

-- only steps of kinds 5 and 8 can be passed over
unspared : (k : Kind) → k ≢ blocked → k ≢ subsumed → spares k ≡ false
unspared = each_kind (λ k. k ≢ blocked → k ≢ subsumed → spares k ≡ false)
    (λ x y. refl) (λ x y. refl) (λ x y. refl) (λ x y. refl) (λ x y. absurd (x refl)) (λ x y. refl) (λ x y. refl) (λ x y. absurd (y refl)) (λ x y. refl)

module _ (ws ms : List ℕ) (ok : Passed ws) (t p : ℕ) where
  abbrev target : Clause
  target = (entry (view ws ms) t).clause

  abbrev partner : Clause
  partner = (entry (view ws ms) p).clause

  -- each part of the first clause within the same part of the second
  abbrev inside : Clause → Clause → Bool
  inside c d = condition subsumed (left (view ws ms)) d c 0

  -- clauses of which each is within the other are equal
  both_equal : So (inside target partner) → So (inside partner target) → target ≡ partner
  both_equal a b = equal_within (left (view ws ms)) target partner 0 0 (view_ascends ws ms ok t) (view_ascends ws ms ok p) b a

  pub not_equal : inside target partner ≡ false → false ≡ equal target partner
  not_equal e = sym (so_false _ (λ h. not_so e (subst (λ d. So (inside target d)) ((equal_iff target partner).0 h) (subsumed_self (left (view ws ms)) target 0))))

  pub is_equal : inside target partner ≡ true → inside partner target ≡ equal target partner
  is_equal e = so_ext _ _ (λ h. (equal_iff target partner).1 (both_equal e h))
      (λ h. subst (λ d. So (inside d target)) ((equal_iff target partner).0 h) (subsumed_self (left (view ws ms)) target 0))

  -- the later clause is passed over by no step, of two equal ones the earlier by kinds 5 and 8, and by no other kind
  pub passed_later : p ≤ t → (k : Kind) (a : ℕ) → false ≡ passed_over (view ws ms) (step k t p a)
  passed_later l k a = sym (so_false _ (λ o. omega (arith, ((passed_iff (view ws ms) (step k t p a)).0 o).lower)))

  pub passed_equal : t < p → (k : Kind) → So (spares k) → (a : ℕ) → equal target partner ≡ passed_over (view ws ms) (step k t p a)
  unfolding passed_over
  passed_equal l k x a = rw (x, lt-ltb t p l)

  pub passed_kind : (k : Kind) → k ≢ blocked → k ≢ subsumed → (a : ℕ) → false ≡ passed_over (view ws ms) (step k t p a)
  unfolding passed_over
  passed_kind k x y a = rw (unspared k x y)
