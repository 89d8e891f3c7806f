-- The smallest step of kind 9 is what the search of that kind finds.
use mathlib.Core.Path.{◌≡◌, refl, sym, ap, subst, ◌∙◌}
use mathlib.Core.Logic.{◌↔◌}
use mathlib.Core.Bool.{◌&&◌, So}
use mathlib.Core.Option.{none, some}
use Prim.Native.Nat.{ℕ, ◌<◌}
use native.Mathlib.Omega.{arith}
use lib.Dec.{ltb}
use borrow.Author.Tests.{ltb-true, lt-ltb}
use Rattle.semantics.proofs.Tests.{and_iff, so_false}
use Rattle.rewriting.specs.Marked.{Marked, entry, left}
use Rattle.rewriting.specs.Kinds.{Kind, excluded}
use Rattle.rewriting.specs.Exclusion.{excludes}
use Rattle.rewriting.specs.Steps.{step, condition}
use Rattle.rewriting.specs.Reducer.{eligible}
use Rattle.rewriting.specs.Search.{least, given, first_atom, first_partner, first_target}
use Rattle.rewriting.proofs.Left.{kept_lt}
use Rattle.rewriting.proofs.Quiet.{least_none, least_some}
use Rattle.rewriting.proofs.Order.{atom_form, search_end, search_hit}
use Rattle.step_conditions.specs.declared.Step as row
use Rattle.std.specs.Prelude.{Some, None}
use Rattle.search_targets.specs.Searches.{found_of}
use Rattle.std.specs.Prelude as rust
use Rattle.search_exclusion.specs.declared.Exclusion.{Exclusion}
use Rattle.search_exclusion.specs.Smallest.{Excluding, Least, Smallest}

module _ (n : ℕ) (P : Marked) where
  excluding_iff : (t a : ℕ) → So (eligible n P (step excluded t 0 a)) ↔ Excluding n P t a
  unfolding condition
  excluding_iff t a =
      let f = atom_form n P excluded t a refl in
      let x = excludes (left P) (entry P t).clause a in (
        λ h. let w = (and_iff (entry P t).kept (ltb a n && x)).0 (subst So f h) in let v = (and_iff (ltb a n) x).0 w.1 in record { kept = w.0; below = ltb-true a n v.0; applies = v.1 },
        λ e. subst So (sym f) ((and_iff (entry P t).kept (ltb a n && x)).1 (e.kept, (and_iff (ltb a n) x).1 (lt-ltb a n e.below, e.applies))),
      )

  -- at a target
  target_none : (t : ℕ) → ((a : ℕ) → ¬ Excluding n P t a) → first_partner n P excluded t ≡ none
  unfolding first_partner first_atom least
  target_none t h = least_none n _ (λ a l. ap (λ b. given b (step excluded t 0 a)) (so_false _ (λ e. h a ((excluding_iff t a).0 e))))

  target_some : (t a : ℕ) → Excluding n P t a → ((b : ℕ) → b < a → ¬ Excluding n P t b) → first_partner n P excluded t ≡ some (step excluded t 0 a)
  unfolding first_partner first_atom least
  target_some t a e h = least_some n _ (step excluded t 0 a) a e.below (ap (λ b. given b (step excluded t 0 a)) ((excluding_iff t a).1 e))
      (λ b l. ap (λ x. given x (step excluded t 0 b)) (so_false _ (λ y. h b l ((excluding_iff t b).0 y))))

  pub exclusion_some : (t a : ℕ) → Least n P t a → first_target n P excluded ≡ some (step excluded t 0 a)
  exclusion_some t a l = search_hit n P excluded t (step excluded t 0 a) (kept_lt P t l.step.kept)
      (target_some t a l.step (λ b i e. let w = (l.before t b e).1 refl in omega arith))
      (λ j i. target_none j (λ b e. let w = (l.before j b e).0 in omega arith))

  pub exclusion_none : ((t a : ℕ) → ¬ Excluding n P t a) → first_target n P excluded ≡ none
  exclusion_none h = search_end n P excluded (λ j i. target_none j (h j))

-- as the search gives it
pub excluded_one : (n : ℕ) (P : Marked) (r : rust.Option Exclusion) (pair : Exclusion) (s : row.Step Kind) → Smallest n P r → r ≡ Some pair → s ≡ record { kind = excluded; target = pair.target; partner = 0; atom = pair.atom }
    → Some s ≡ found_of (first_target n P excluded)
unfolding found_of
excluded_one n P r pair s w e q = ap Some q ∙ sym (ap found_of (exclusion_some n P pair.target pair.atom (w.some pair e)))

pub excluded_nothing : (n : ℕ) (P : Marked) (r : rust.Option Exclusion) → Smallest n P r → r ≡ None → None ≡ found_of (first_target n P excluded)
unfolding found_of
excluded_nothing n P r w e = sym (ap found_of (exclusion_none n P (w.none e)))
