-- The clauses of a reduct, gathered one by one: they ask of the subsets of a set what the reduct by it asks.
use Prim.Native.Nat.{ℕ, ◌+◌, ◌-◌, ◌≤◌, ◌<◌}
use mathlib.Core.Path.{◌≡◌, refl, sym, ap, ap₂, ◌∙◌}
use mathlib.Core.List.{List}
use mathlib.Core.Bool.{Bool, true, false, not, ◌&&◌, ◌||◌, So}
use native.Mathlib.Omega.{arith}
use native.Mathlib.Nat.{add-zero}
use lib.Bits.{bit_and, bit_or}
use lib.Dec.{eqb}
use lib.ListN.{length, get_or, take, set}
use lib.Seq.{take-length}
use borrow.Author.Tests.{eq-eqb, eqb-true}
use Rattle.std.proofs.lemmas.List.Folds.{list_all_more, list_all_at}
use Rattle.semantics.specs.Lists.{bit}
use Rattle.semantics.proofs.Tests.{and_iff, not_iff, or_iff, so_by, not_so}
use Rattle.models_masks.specs.declared.Rule.{Rule}
use Rattle.models_masks.specs.Masks.{inside, holds, modelled, minimal}
use Rattle.models_masks.proofs.Search.{all_below_ext}
use Rattle.models_masks.proofs.Bits.{inside_trans}
use Rattle.models_masks.proofs.Models.{modelled_more, modelled_front}
use Rattle.models_masks.proofs.Failing.{or_zero, missing_zero}
use Rattle.models_list.specs.declared.masks.Masks.{Masks}
use Rattle.models_list.specs.Masks.{enters_mask, reduct_holds, reduct_modelled, stable_mask}
use Rattle.models_list.specs.Gathered.{Gathered}

-- ---- one clause

module _ (c : Masks) (m : ℕ) where
  -- a clause that does not enter holds of every subset
  aside : enters_mask c m ≡ false → (x : ℕ) → bit_and x m ≡ x → reduct_holds c m x ≡ true
  unfolding reduct_holds holds
  aside e x i = (or_iff _ _).1 (λ k. (or_iff _ _).1 (λ l.
      let a = so_by (eqb (bit_and c.neg m) 0) (λ z. k ((not_iff _).1 z)) in
      let b = so_by (inside c.pos x) (λ z. l ((not_iff _).1 z)) in
      absurd (not_so e ((and_iff _ _).1 (a, eq-eqb _ _ (inside_trans c.pos x m (eqb-true _ _ b) i))))))

  -- one that enters asks what its body and head ask
  entered : enters_mask c m ≡ true → (x : ℕ) → reduct_holds c m x ≡ holds c.pos c.head x
  unfolding reduct_holds
  entered e x = rw ((and_iff (eqb (bit_and c.neg m) 0) (inside c.pos m)).0 e).0

-- ---- on masks, at one stroke

enters_bits : (p q m : ℕ) → eqb (bit_or (bit_and q m) (p - bit_and p m)) 0 ≡ (eqb (bit_and q m) 0 && inside p m)
enters_bits p q m = or_zero (bit_and q m) (p - bit_and p m) ∙ ap (λ t. eqb (bit_and q m) 0 && t) (missing_zero p m)

pub enters_word : (c : Masks) (m : ℕ) → eqb (bit_or (bit_and c.neg m) (c.pos - bit_and c.pos m)) 0 ≡ enters_mask c m
enters_word c m = enters_bits c.pos c.neg m

none_of : (a b c : Bool) → not ((a && b) && c) ≡ (not a || (not b || not c))
none_of true true c = refl
none_of true false c = refl
none_of false b c = refl

pub reduct_word : (c : Masks) (m : ℕ) → not (eqb (bit_or (bit_or (bit_and c.neg m) (c.pos - bit_and c.pos m)) (bit_and c.head m)) 0) ≡ reduct_holds c m m
unfolding reduct_holds holds
reduct_word c m =
    rw (or_zero (bit_or (bit_and c.neg m) (c.pos - bit_and c.pos m)) (bit_and c.head m), enters_bits c.pos c.neg m)
    (none_of (eqb (bit_and c.neg m) 0) (inside c.pos m) (eqb (bit_and c.head m) 0))

swap : (a b : Bool) → (a && b) ≡ (b && a)
swap true true = refl
swap true false = refl
swap false true = refl
swap false false = refl

and_true : (b : Bool) → (b && true) ≡ b
and_true true = refl
and_true false = refl

-- ---- one clause more

-- the first i clauses are gathered, and m satisfies them
pub record Gathering (cs : List Masks) (m : ℕ) (rules : List Rule) (k i : ℕ) : Type 0 where
  pub most : k ≤ i
  pub model : reduct_modelled (take i cs) m m ≡ true
  pub asks : (x : ℕ) → bit_and x m ≡ x → modelled (take k rules) x ≡ reduct_modelled (take i cs) m x

module _ (cs : List Masks) (m : ℕ) where
  more : (i x : ℕ) (d : Masks) → i < length cs → reduct_modelled (take (i + 1) cs) m x ≡ (reduct_modelled (take i cs) m x && reduct_holds (get_or cs i d) m x)
  unfolding reduct_modelled
  more i x d l = list_all_more (λ c. reduct_holds c m x) cs i d l

  pub gathering_start : (rules : List Rule) → Gathering cs m rules 0 0
  unfolding reduct_modelled modelled
  gathering_start rules = record { most = omega arith; model = refl; asks = λ x e. refl }

  module _ (rules : List Rule) (k i : ℕ) (g : Gathering cs m rules k i) (d : Masks) (l : i < length cs) where
    abbrev c : Masks
    c = get_or cs i d

    abbrev rule : Rule
    rule = record { body = c.pos; head = c.head }

    -- the next clause is written behind the others, and counted where it enters
    pub gathering_next : k < length rules → reduct_holds c m m ≡ true → (n : ℕ) → n ≡ bit (enters_mask c m) → Gathering cs m (set rules k rule) (k + n) (i + 1)
    gathering_next a t n q = go (enters_mask c m) refl q
      where
        model : reduct_modelled (take (i + 1) cs) m m ≡ true
        model = more i m d l ∙ rw (g.model, t)

        go : (e : Bool) → enters_mask c m ≡ e → n ≡ bit e → Gathering cs m (set rules k rule) (k + n) (i + 1)
        go true e z = rw z (record {
          most = omega (arith, g.most);
          model = model;
          asks = λ x s. modelled_more rules k rule x a ∙ ap₂ (λ u v. u && v) (sym (entered c m e x)) (g.asks x s) ∙ swap (reduct_holds c m x) _ ∙ sym (more i x d l);
        })
        go false e z = rw (z, add-zero) (record {
          most = omega (arith, g.most);
          model = model;
          asks = λ x s. modelled_front rules k rule x ∙ g.asks x s ∙ sym (more i x d l ∙ rw (aside c m e x s) (and_true (reduct_modelled (take i cs) m x)));
        })

    pub gathering_lost : reduct_holds c m m ≡ false → reduct_modelled cs m m ≡ false
    unfolding reduct_modelled
    gathering_lost e = list_all_at (λ c. reduct_holds c m m) cs i d l e

  pub gathering_end : (rules : List Rule) (k i : ℕ) → Gathering cs m rules k i → i ≡ length cs → k ≤ length rules → Gathered cs m rules k
  gathering_end rules k i g e b =
      let q : take i cs ≡ cs = ap (λ n. take n cs) e ∙ take-length cs in
      record { most = b; model = rw q at g.model; asks = λ x s. g.asks x s ∙ ap (λ l. reduct_modelled l m x) q }

-- ---- the subsets

module _ (cs : List Masks) (m : ℕ) where
  pub stable_not : reduct_modelled cs m m ≡ false → stable_mask cs m ≡ false
  unfolding stable_mask
  stable_not e = rw e

  -- what was gathered finds the subsets that satisfy the reduct
  pub stable_gathered : (rules : List Rule) (k : ℕ) → Gathered cs m rules k → minimal (take k rules) m ≡ stable_mask cs m
  unfolding stable_mask minimal
  stable_gathered rules k g =
      all_below_ext _ _ m (λ x l. under (inside x m) _ _ (λ h. g.asks x (eqb-true _ _ h))) ∙ sym (rw g.model)
    where
      under : (b u v : Bool) → (So b → u ≡ v) → not (b && u) ≡ not (b && v)
      under true u v f = ap not (f refl)
      under false u v f = refl
