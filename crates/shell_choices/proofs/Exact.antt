-- The translation of choices is exact, within any context that sees the old atoms alone.
use mathlib.Core.Path.{◌≡◌, sym, ap, subst, ◌∙◌, fun_ext}
use mathlib.Core.Bool.{So}
use mathlib.Core.List.{List, map}
use Prim.Native.Nat.{ℕ, ◌+◌}
use native.Mathlib.Omega.{arith}
use lib.Dec.{ltb}
use lib.ListN.{length}
use borrow.Author.Tests.{ltb-true, lt-ltb}
use Rattle.semantics.specs.Lists.{◌∈◌}
use Rattle.semantics.specs.Programs.{Clause, Atoms, Subset, Stable}
use Rattle.semantics.proofs.Tests.{so_ext, so_by}
use Rattle.semantics.proofs.Models.{All, Any, Models}
use Rattle.semantics.proofs.Decide.{map_mem, map_of}
use Rattle.shell_choices.specs.Stable.{Choice, Context, free, StableWith, StableChoice, StableIn}
use Rattle.shell_choices.specs.Translation.{Numbered, numbered, translated, translation, OverChoice, Over, restrict, lifted, Exact}
use Rattle.shell_choices.proofs.Members.{Chooses, Working, with_iff, WorkingIn, in_iff, free_iff}
use Rattle.shell_choices.proofs.Below.{AgreeBelow, agree_sym, all_agree, any_agree, models_agree, restrict_iff, restrict_agree, restrict_is, split, split_low, split_high, split_within}
use Rattle.shell_choices.proofs.Fresh.{numbered_choices, SatisfiesChoice, ReadsAs, translated_reads, extended, extended_fresh, extended_within}

module _ (n top : ℕ) (ds cs : List Clause) (is : List Numbered) (rd : ReadsAs n top ds cs is) (sat : Context) where
  abbrev choices : List Choice
  choices = map (λ (i : Numbered). i.choice) is

  over : (i : Numbered) → i ∈ is → OverChoice n i.choice
  over i m = rd.over.choices i.choice (map_mem (λ (i : Numbered). i.choice) m)

  -- Where M models the clauses, the set that goes with it models the disjunctions too, by the reduct of any set that is M below n.
  extended_models : (M N : Atoms) → AgreeBelow n M N → Models M M cs → Models N (extended n is M) ds
  extended_models M N e h = (rd.models N (extended n is M)).1 (
    models_agree n cs M N M (extended n is M) rd.over.clauses e (agree_sym n (extended n is M) M low) h,
    λ i m g p x. (extended_fresh n is M rd.low rd.one i m).1 (
      λ a. x (subst So (sym (low i.choice.atom (over i m).atom)) a),
      all_agree n (extended n is M) M i.choice.pos (over i m).pos low p,
      λ w. g (any_agree n M N i.choice.neg (over i m).neg e w),
    ),
  )
    where
      low : AgreeBelow n (extended n is M) M
      low = split_low n M _

  -- A stable model, restricted, is one with choices.
  pub restricted : (M : Atoms) → StableIn top ds (lifted n sat) M → StableWith n cs choices sat (restrict n M)
  restricted M s = (with_iff n cs choices sat R).1 (
    λ a h. ((restrict_iff n M a).0 h).0,
    models_agree n cs M R M R rd.over.clauses up up v.0,
    z.2,
    λ X sub h k t a m. let w = (restrict_iff n M a).0 m in subst So (split_low n X M a w.0) (z.3 (split n X M)
        (part X sub)
        ((rd.models M (split n X M)).1 (
          models_agree n cs R M X (split n X M) rd.over.clauses (restrict_agree n M) (agree_sym n (split n X M) X (split_low n X M)) h,
          opens X sub k,
        ))
        (subst (sat R) (sym (restrict_is n (split n X M) X (split_low n X M) (λ b q. ((restrict_iff n M b).0 (sub b q)).0))) t) a w.1),
  )
    where
      R : Atoms
      R = restrict n M

      up : AgreeBelow n M R
      up = agree_sym n R M (restrict_agree n M)

      z : WorkingIn top ds (lifted n sat) M
      z = (in_iff top ds (lifted n sat) M).0 s

      v : Models M M cs × ((i : Numbered) → i ∈ is → SatisfiesChoice M M i)
      v = (rd.models M M).0 z.1

      part : (X : Atoms) → Subset X R → Subset (split n X M) M
      part X sub = split_within n X M M (λ b l q. ((restrict_iff n M b).0 (sub b q)).1) (λ b l q. q)

      -- a choice that M takes X takes; of another the fresh atom is in M
      opens : (X : Atoms) → Subset X R → Chooses R X choices → (i : Numbered) → i ∈ is → SatisfiesChoice M (split n X M) i
      opens X sub k i q g p x = subst So (sym (split_high n X M i.fresh (rd.low i q))) (v.1 i q g (λ b r. part X sub b (p b r))
          (λ y. x (subst So (sym (split_low n X M i.choice.atom (over i q).atom)) (k i.choice (map_mem (λ (i : Numbered). i.choice) q)
          ((restrict_iff n M i.choice.atom).1 ((over i q).atom, y))
          (λ u. g (any_agree n R M i.choice.neg (over i q).neg (restrict_agree n M) u))
          (all_agree n (split n X M) X i.choice.pos (over i q).pos (split_low n X M) p)))))

  -- A stable model with choices goes with one.
  pub extends : (M : Atoms) → StableWith n cs choices sat M → StableIn top ds (lifted n sat) (extended n is M)
  extends M s = (in_iff top ds (lifted n sat) N).1 (
    λ a h. ltb-true a top (extended_within n is M (λ b. ltb b top)
        (λ b l q. lt-ltb b top (omega (arith, rd.room))) (λ i m u. lt-ltb i.fresh top (rd.high i m)) a h),
    extended_models M N (agree_sym n N M low) z.1,
    subst (λ K. sat K K) (sym back) z.2,
    λ X sub h t. let w = (rd.models N X).0 h in let f = holds X sub w (subst (λ K. sat K (restrict n X)) back t) in
        extended_within n is M X (λ a l m. f a m) (λ i m u. w.1 i m
        (λ y. u.2 (any_agree n N M i.choice.neg (over i m).neg low y))
        (λ b q. f b (u.1 b q))
        (λ y. u.0 (subst So (low i.choice.atom (over i m).atom) (sub i.choice.atom y)))),
  )
    where
      N : Atoms
      N = extended n is M

      low : AgreeBelow n N M
      low = split_low n M _

      z : Working n cs choices sat M
      z = (with_iff n cs choices sat M).0 s

      back : restrict n N ≡ M
      back = restrict_is n N M low s.below

      Chosen : Atoms → Choice → Type 0
      Chosen X k = So (M k.atom) → ¬ Any M k.neg → All (restrict n X) k.pos → So (restrict n X k.atom)

      chosen : (X : Atoms) → Subset X N → Models N X cs × ((i : Numbered) → i ∈ is → SatisfiesChoice N X i) → (i : Numbered) → i ∈ is → Chosen X i.choice
      chosen X sub w i m y g p = (restrict_iff n X i.choice.atom).1 (
        (over i m).atom,
        so_by _ (λ x.
            ((extended_fresh n is M rd.low rd.one i m).0 (sub i.fresh (w.1 i m
            (λ u. g (any_agree n N M i.choice.neg (over i m).neg low u))
            (λ b q. ((restrict_iff n X b).0 (p b q)).1) x))).0 y),
      )

      holds : (X : Atoms) → Subset X N → Models N X cs × ((i : Numbered) → i ∈ is → SatisfiesChoice N X i) → sat M (restrict n X) → Subset M X
      holds X sub w t a m = ((restrict_iff n X a).0 (z.3 (restrict n X)
          (λ b q. let r = (restrict_iff n X b).0 q in subst So (low b r.0) (sub b r.1))
          (models_agree n cs N M X (restrict n X) rd.over.clauses low (agree_sym n (restrict n X) X (restrict_agree n X)) w.0)
          (λ k q. let i = map_of (λ (i : Numbered). i.choice) is q in subst (Chosen X) (sym i.2) (chosen X sub w i.0 i.1)) t a m)).1

  -- It is the only one: a stable model's fresh atoms are those of the choices that its old atoms refuse.
  pub forced : (M : Atoms) → StableIn top ds (lifted n sat) M → M ≡ extended n is (restrict n M)
  forced M s = fun_ext (λ a. so_ext (M a) (N a)
      (z.3 N sub (extended_models R M (restrict_agree n M) (models_agree n cs M R M R rd.over.clauses up up v.0)) (subst (sat R) (sym back) z.2) a) (sub a))
    where
      R : Atoms
      R = restrict n M

      N : Atoms
      N = extended n is R

      up : AgreeBelow n M R
      up = agree_sym n R M (restrict_agree n M)

      back : restrict n N ≡ R
      back = restrict_is n N R (split_low n R _) (λ a h. ((restrict_iff n M a).0 h).0)

      z : WorkingIn top ds (lifted n sat) M
      z = (in_iff top ds (lifted n sat) M).0 s

      v : Models M M cs × ((i : Numbered) → i ∈ is → SatisfiesChoice M M i)
      v = (rd.models M M).0 z.1

      sub : Subset N M
      sub = extended_within n is R M (λ a l h. ((restrict_iff n M a).0 h).1) (λ i m u. v.1 i m
          (λ w. u.2 (any_agree n M R i.choice.neg (over i m).neg up w))
          (λ b q. ((restrict_iff n M b).0 (u.1 b q)).1)
          (λ y. u.0 ((restrict_iff n M i.choice.atom).1 ((over i m).atom, y))))

  -- Clauses that read as clauses and choices have, restricted, their stable models, each once.
  pub reads_exact : Exact n (StableIn top ds (lifted n sat)) (StableWith n cs choices sat)
  reads_exact = record {
    into = restricted;
    onto = λ M s. (extended n is M, extends M s, restrict_is n (extended n is M) M (split_low n M _) s.below);
    once = λ M N s t e. forced M s ∙ (ap (extended n is) e ∙ sym (forced N t));
  }

-- The translation is exact within any context,
pub choices_exact_in : (n : ℕ) (cs : List Clause) (ks : List Choice) → Over n cs ks → (sat : Context)
    → Exact n (StableIn (n + length ks) (translated n cs ks) (lifted n sat)) (StableWith n cs ks sat)
choices_exact_in n cs ks o sat = subst (λ js. Exact n (StableIn (n + length ks) (translated n cs ks) (lifted n sat)) (StableWith n cs js sat)) (numbered_choices n ks)
    (reads_exact n (n + length ks) (translated n cs ks) cs (numbered n ks) (translated_reads n cs ks o) sat)

-- and so without one.
pub choices_exact : (n : ℕ) (cs : List Clause) (ks : List Choice) → Over n cs ks → Exact n (Stable (translation n cs ks)) (StableChoice n cs ks)
choices_exact n cs ks o = let e = choices_exact_in n cs ks o free in record {
  into = λ M s. e.into M ((free_iff (n + length ks) (translated n cs ks) M).1 s);
  onto = λ M s. let w = e.onto M s in (w.0, (free_iff (n + length ks) (translated n cs ks) w.0).0 w.1, w.2);
  once = λ M N s t. e.once M N ((free_iff (n + length ks) (translated n cs ks) M).1 s) ((free_iff (n + length ks) (translated n cs ks) N).1 t);
}
