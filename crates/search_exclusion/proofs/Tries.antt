-- What is known of the atoms tried, and that the best pair is the smallest step.
use mathlib.Core.Path.{◌≡◌, sym, subst, ◌∙◌}
use mathlib.Core.Logic.{by_cases}
use mathlib.Core.Bool.{true, So}
use mathlib.Core.List.{List}
use Prim.Native.Nat.{ℕ, ◌+◌, ◌≤◌, ◌<◌}
use native.Mathlib.Omega.{arith}
use native.Mathlib.Decide.{ℕ_discrete, dec_lt}
use lib.ListN.{length}
use Rattle.semantics.specs.Lists.{any}
use Rattle.semantics.specs.Programs.{Atoms}
use Rattle.semantics.proofs.Tests.{and_iff, all_iff, so_dec}
use Rattle.rewriting.specs.Marked.{Marked, entry, left}
use Rattle.rewriting.specs.Consequences.{consequences}
use Rattle.rewriting.specs.Exclusion.{occurs}
use Rattle.rewriting.proofs.Left.{kept_lt}
use Rattle.rewriting.proofs.Exclusion.{excludes_iff, excludes_within}
use Rattle.search_exclusion.specs.declared.Exclusion.{Exclusion}
use Rattle.std.specs.Prelude.{Option, Some, None, IfSome}
use Rattle.search_exclusion.specs.Smallest.{Excluding, Least, Smallest}
use Rattle.search_exclusion.specs.Tries.{Best, best_of, Targets, Unset, Fits, Improves, BestOf}

-- Before atom i: the pair is a step, and no step with an atom that was tried, or is not to be tried, is smaller.
pub record Tried (n : ℕ) (P : Marked) (i : ℕ) (best : Best) (todo : Atoms) : Type 0 where
  pub known : best.target ≤ length P
  pub hit : best.target < length P → Excluding n P best.target best.atom
  pub early : best.atom ≤ i
  pub least : (u b : ℕ) → Excluding n P u b → ¬ ((i ≤ b) × So (todo b)) → (best.target ≤ u) × (best.target ≡ u → best.atom ≤ b)
  pub present : (b : ℕ) → So (todo b) → So (any (occurs b) (left P))

module _ (n : ℕ) (P : Marked) (s : List ℕ) (g : Targets n P s) where
  excludes_fits : (D : Atoms) (a : ℕ) → ((b : ℕ) → D b ≡ consequences (left P) a b) → (t : ℕ) → Excluding n P t a → Fits P s D t
  excludes_fits D a h t x = (g.each t a x, (all_iff D _).1 (λ b m. h b ∙ ((excludes_iff (left P) (entry P t).clause a).0 x.applies).follows b m))

  fits_excludes : (D : Atoms) (a : ℕ) → ((b : ℕ) → D b ≡ consequences (left P) a b) → a < n → So (any (occurs a) (left P)) → (t : ℕ) → t < length P → Fits P s D t → Excluding n P t a
  fits_excludes D a h l o t k f = let w = (and_iff (entry P t).kept _).0 (g.plain t k f.0) in record {
    kept = w.0;
    below = l;
    applies = (excludes_iff (left P) (entry P t).clause a).1 (record { constraint = w.1; there = o; follows = λ b m. sym (h b) ∙ (all_iff D _).0 f.1 b m });
  }

  pub tried_start : (todo : Atoms) (best : Best) → best.target ≡ length P → best.atom ≡ 0 → ((b : ℕ) → todo b ≡ any (occurs b) (left P)) → Tried n P 0 best todo
  tried_start todo best e z h = record {
    known = omega arith;
    hit = λ l. absurd (omega arith);
    early = omega arith;
    least = λ u b x f. absurd (f (omega arith, h b ∙ ((excludes_iff (left P) (entry P u).clause b).0 x.applies).there));
    present = λ b o. sym (h b) ∙ o;
  }

  module _ (i : ℕ) (best : Best) (todo : Atoms) (t : Tried n P i best todo) where
    module _ (D : Atoms) (is : (b : ℕ) → D b ≡ consequences (left P) i b) (l : i < n) (o : todo i ≡ true) (new : Best) (m : Improves P s D i best new) where
      now_early : new.atom ≤ i
      now_early = by_cases (dec_lt new.target best.target) (λ k. omega (arith, (m.hit k).1)) (λ k. omega (arith, m.stays (omega (arith, m.within)), t.early))

      now_hit : new.target < length P → Excluding n P new.target new.atom
      now_hit k = by_cases (dec_lt new.target best.target)
          (λ q. subst (Excluding n P new.target) (sym (m.hit q).1) (fits_excludes D i is l (t.present i o) new.target k (m.hit q).0))
          (λ q. let e : new.target ≡ best.target = omega (arith, m.within) in subst (Excluding n P new.target) (sym (m.stays e)) (subst (λ u. Excluding n P u best.atom) (sym e) (t.hit (omega arith))))

      -- a step with the atom itself is no better
      self : (u : ℕ) → Excluding n P u i → new.target ≤ u
      self u x = by_cases (dec_lt u new.target) (λ k. absurd (m.before u k (excludes_fits D i is u x))) (λ k. omega arith)

      older : (u b : ℕ) → (best.target ≤ u) × (best.target ≡ u → best.atom ≤ b) → (new.target ≤ u) × (new.target ≡ u → new.atom ≤ b)
      older u b w = (omega (arith, m.within, w.0), λ e. omega (arith, m.stays (omega (arith, m.within, w.0)), w.1 (omega (arith, m.within, w.0))))

      -- a step with a consequence of the atom is one with the atom
      covered : (u b : ℕ) → Excluding n P u b → So (D b) → Excluding n P u i
      covered u b x d = record { kept = x.kept; below = l; applies = excludes_within (left P) (entry P u).clause i b (t.present i o) (sym (is b) ∙ d) x.applies }

      pub tried_on : (rest : Atoms) → ((b : ℕ) → So (rest b) → So (todo b)) → ((b : ℕ) → So (todo b) → ¬ So (rest b) → So (D b)) → Tried n P (i + 1) new rest
      tried_on rest less struck = record {
        known = omega (arith, m.within, t.known);
        hit = now_hit;
        early = omega (arith, now_early);
        least = λ u b x f. by_cases (dec_lt b i)
            (λ k. older u b (t.least u b x (λ y. omega (arith, y.0))))
            (λ k. by_cases (so_dec (todo b))
            (λ y. (self u (mine u b x k y f), λ _. omega (arith, now_early)))
            (λ y. older u b (t.least u b x (λ z. y z.1))));
        present = λ b q. t.present b (less b q);
      }
        where
          mine : (u b : ℕ) → Excluding n P u b → ¬ (b < i) → So (todo b) → ¬ ((i + 1 ≤ b) × So (rest b)) → Excluding n P u i
          mine u b x k y f = by_cases (ℕ_discrete b i)
              (λ d. subst (Excluding n P u) d x)
              (λ d. covered u b x (struck b y (λ z. f (omega arith, z))))

  -- no clause can be a target
  pub smallest_none : (low : ℕ) → Unset s low → length P ≤ low → Smallest n P None
  smallest_none low f h = record { some = λ pair e. absurd (not_some e); none = λ _ t a x. f.before t (omega (arith, kept_lt P t x.kept)) (g.each t a x) }
    where
      not_some : {pair : Exclusion} → None ≡ Some pair → ⊥
      not_some e = let z : ◌≡◌ {A = ℕ} 0 1 = cc in omega arith

-- ---- the answer

-- a pair's target is at most the number of clauses
pub within_by : (m : ℕ) (r : Option Exclusion) → IfSome r (λ pair. pair.target < m) → (best_of m r).target ≤ m
within_by m None h = omega arith
within_by m (Some pair) h = omega arith

pub smallest_by : (n : ℕ) (P : Marked) (m : ℕ) (r : Option Exclusion) → m ≡ length P → IfSome r (λ pair. pair.target < m) → BestOf n P (best_of m r) → Smallest n P r
smallest_by n P m None e l b = record { some = λ pair q. let z : ◌≡◌ {A = ℕ} 0 1 = cc in absurd (omega arith); none = λ _ t a x. omega (arith, (b.before t a x).0, kept_lt P t x.kept) }
smallest_by n P m (Some p) e l b = record {
  some = λ pair q. let same : p ≡ pair = cc in subst (λ y. Least n P y.target y.atom) same (record { step = b.step (omega arith); before = b.before });
  none = λ q. let z : ◌≡◌ {A = ℕ} 0 1 = cc in absurd (omega arith);
}
