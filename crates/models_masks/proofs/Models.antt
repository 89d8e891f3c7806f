-- What masks over a list of atoms say of clauses and of sets: a clause's two masks hold of a set's mask exactly when the set satisfies the
-- clause, and a test of masks that asks what the clauses ask finds the stable models.
use Prim.Native.Nat.{ℕ, ◌+◌, ◌<◌}
use mathlib.Core.Path.{◌≡◌, refl, sym, ap, subst, ◌∙◌}
use mathlib.Core.Logic.{◌↔◌}
use mathlib.Core.List.{List, [], ◌∷◌, ◌++◌}
use mathlib.Core.Bool.{Bool, true, false, not, ◌&&◌, So}
use native.Mathlib.Omega.{arith}
use lib.Arith.{lt_of_le-ne}
use lib.Bits.{bit_and}
use lib.Dec.{eqb}
use lib.ListN.{length, take, set}
use Rattle.std.specs.List.{list_all}
use Rattle.std.proofs.lemmas.List.{take-set, take_more_set}
use Rattle.std.proofs.lemmas.List.Folds.{list_all-append}
use Rattle.semantics.specs.Lists.{◌∈◌, ascending}
use Rattle.semantics.specs.Programs.{Clause, Program, Atoms, among, Subset, Stable}
use Rattle.semantics.proofs.Tests.{and_iff, not_iff, or_iff, any_iff, mem_iff, so_by}
use Rattle.semantics.proofs.Models.{All, Any, Models, stable_iff}
use Rattle.models_masks.specs.declared.Rule.{Rule}
use Rattle.models_masks.specs.Masks.{mask_of, all_below, inside, holds, modelled}
use Rattle.models_masks.proofs.Search.{all_below_iff}
use Rattle.models_masks.proofs.Bits.{mask_inj, mask_bound, mask_le, inside_iff, apart_iff, bits_in, bits_in_sub, mask_of_bits}

-- what stands behind the first n clauses is not asked
pub modelled_front : (rules : List Rule) (n : ℕ) (rule : Rule) (x : ℕ) → modelled (take n (set rules n rule)) x ≡ modelled (take n rules) x
modelled_front rules n rule x = rw (take-set rules n rule)

-- one clause more, behind the others
pub modelled_behind : (rules : List Rule) (rule : Rule) (x : ℕ) → modelled (rules ++ rule ∷ []) x ≡ (holds rule.body rule.head x && modelled rules x)
unfolding modelled
modelled_behind rules rule x =
    let p : Rule → Bool = λ r. holds r.body r.head x in
    list_all-append p rules (rule ∷ []) ∙ last (list_all p rules) (p rule)
  where
    last : (a b : Bool) → (a && (b && true)) ≡ (b && a)
    last true true = refl
    last true false = refl
    last false true = refl
    last false false = refl

pub modelled_more : (rules : List Rule) (n : ℕ) (rule : Rule) (x : ℕ) → n < length rules → modelled (take (n + 1) (set rules n rule)) x ≡ (holds rule.body rule.head x && modelled (take n rules) x)
modelled_more rules n rule x l = ap (λ l. modelled l x) (take_more_set rules n rule l) ∙ modelled_behind (take n rules) rule x

-- a clause's masks, for a clause whose positive body is within the list, and a set within the list
pub masks_iff : (s : List ℕ) (Y : Atoms) → Subset Y (among s) → (c : Clause) → ((a : ℕ) → a ∈ c.pos → a ∈ s)
    → So (holds (mask_of s (among c.pos)) (mask_of s (among c.head)) (mask_of s Y)) ↔ (All Y c.pos → Any Y c.head)
unfolding holds
masks_iff s Y sub c w = (
  λ h p. (any_iff Y c.head).0 (so_by _ (λ n. (not_iff (eqb (bit_and (mask_of s (among c.head)) (mask_of s Y)) 0)).0
      ((or_iff _ _).0 h (λ o. (not_iff _).0 o ((inside_iff s (among c.pos) Y).1 (λ a m q. p a ((mem_iff _ _).0 q)))))
      ((apart_iff s (among c.head) Y).1 (λ a m q y. n ((any_iff Y c.head).1 (a, (mem_iff _ _).0 q, y)))))),
  λ f. (or_iff _ _).1 (λ o.
      let i = (inside_iff s (among c.pos) Y).0 (so_by _ (λ k. o ((not_iff _).1 k))) in
      let v = f (λ a m. i a (w a m) ((mem_iff _ _).1 m)) in
      (not_iff _).1 (λ z. (apart_iff s (among c.head) Y).0 z v.0 ((mem_iff _ _).0 (sub v.0 v.2)) ((mem_iff _ _).1 v.1) v.2)),
)

-- A test of masks that asks of the subsets of M what the reduct by M asks: it holds of M and of no number below whose bits are within M exactly
-- when M is a stable model.
pub stable_masks : (P : Program) (s : List ℕ) (M : Atoms) (f : ℕ → Bool) → So (ascending s) → Subset M (among s) → ((a : ℕ) → So (M a) → a < P.atoms)
    → ((Y : Atoms) → Subset Y M → So (f (mask_of s Y)) ↔ Models M Y P.clauses)
    → So (f (mask_of s M) && all_below (λ x. not (inside x (mask_of s M) && f x)) (mask_of s M)) ↔ Stable P M
stable_masks P s M f o sub low asks = (
  λ h. let w = (and_iff (f (mask_of s M)) _).0 h in
      (stable_iff P M).1 (
        low,
        (asks M (λ a m. m)).0 w.0,
        λ X q k a m. so_by (X a) (λ x.
            let l = mask_le s X M (λ b i. q b) in
            let d : ¬ (mask_of s X ≡ mask_of s M) = λ e. x (mask_inj s X M e a ((mem_iff _ _).0 (sub a m)) ∙ m) in
            (not_iff (inside (mask_of s X) (mask_of s M) && f (mask_of s X))).0
            ((all_below_iff _ (mask_of s M)).0 w.1 (mask_of s X) (lt_of_le-ne l d))
            ((and_iff _ _).1 ((inside_iff s X M).1 (λ b i. q b), (asks X q).1 k))),
      ),
  λ h. let w = (stable_iff P M).0 h in
      (and_iff (f (mask_of s M)) _).1 (
        (asks M (λ a m. m)).1 w.1,
        (all_below_iff _ (mask_of s M)).1 (λ x l. (not_iff (inside x (mask_of s M) && f x)).1 (λ k.
            let v = (and_iff (inside x (mask_of s M)) (f x)).0 k in
            let Y = bits_in s x in
            let e = mask_of_bits s x o (omega (arith, mask_bound s M)) in
            let q : Subset Y M = λ a y. (inside_iff s Y M).0 (subst (λ z. So (inside z (mask_of s M))) (sym e) v.0) a (bits_in_sub s x a y) y in
            let t = (asks Y q).0 (subst (λ z. So (f z)) (sym e) v.1) in
            omega (arith, mask_le s M Y (λ a m y. w.2 Y q t a y)))),
      ),
)
