-- No stable model is within another, so at most sixteen atoms have at most 12,870.
use mathlib.Core.Path.{◌≡◌, sym, ap, ap₂, fun_ext, ◌∙◌}
use mathlib.Core.Bool.{Bool, ◌&&◌, So}
use Prim.Native.Nat.{ℕ, suc, ◌+◌, ◌-◌, ◌^◌, ◌≤◌, ◌<◌}
use native.Mathlib.Omega.{arith}
use lib.Bits.{bit_and}
use lib.Dec.{ltb}
use lib.ListN.{length}
use lib.Pow.{pow_mono}
use borrow.Author.Tests.{ltb-true, lt-ltb, eq-eqb}
use Rattle.semantics.specs.Lists.{bit, keep}
use Rattle.semantics.specs.Programs.{Program, Atoms, Subset, Stable}
use Rattle.semantics.proofs.Tests.{and_iff, so_ext, bit_le, bit_true}
use Rattle.semantics.proofs.Models.{stable_iff}
use Rattle.models_masks.specs.Masks.{mask_of}
use Rattle.models_masks.proofs.Bits.{inside_iff}
use Rattle.sorting.specs.Sorting.{below}
use Rattle.models_words.specs.Words.{set_of_word, stable_word, models_of}
use Rattle.sorting.proofs.Ascending.{below_in}
use Rattle.models_words.proofs.Sets.{mask_word, set_inj}
use Rattle.models_words.proofs.Sperner.{total, total_le, length_kept, sperner, middle}
use Rattle.models_words.proofs.Listed.{stable_word_lem}

-- No stable model is a proper subset of another.
pub stable_antichain : (P : Program) (M N : Atoms) → Stable P M → Stable P N → Subset M N → Subset N M
stable_antichain P M N s t sub =
    ((stable_iff P N).0 t).2 M sub (λ c m n. ((stable_iff P M).0 s).1 c m (λ w. n (w.0, w.1, sub w.0 w.2)))

-- ---- the stable models of few atoms

module _ (P : Program) where
  -- the words of stable models, among all words of sixteen digits
  passes : ℕ → Bool
  passes x = ltb x (2 ^ P.atoms) && stable_word P x

  passes_stable : (x : ℕ) → So (passes x) → (x < 2 ^ P.atoms) × Stable P (set_of_word x)
  unfolding passes
  passes_stable x h =
      let w = (and_iff (ltb x (2 ^ P.atoms)) (stable_word P x)).0 h in
      let k = ltb-true x (2 ^ P.atoms) w.0 in (k, (stable_word_lem P x k).0 w.1)

  passes_apart : (x y : ℕ) → So (passes x) → So (passes y) → bit_and x y ≡ x → x ≡ y
  passes_apart x y h k e =
      let (l, s) = passes_stable x h in
      let (m, t) = passes_stable y k in
      let in_masks : bit_and (mask_of (below P.atoms) (set_of_word x)) (mask_of (below P.atoms) (set_of_word y)) ≡ mask_of (below P.atoms) (set_of_word x) =
      ap₂ bit_and (mask_word P.atoms x l) (mask_word P.atoms y m) ∙ e ∙ sym (mask_word P.atoms x l) in
      let sub : Subset (set_of_word x) (set_of_word y) = λ a q. (inside_iff (below P.atoms) (set_of_word x) (set_of_word y)).0 (eq-eqb _ _ in_masks) a (below_in P.atoms a (s.below a q)) q in
      set_inj P.atoms x y l m (fun_ext (λ a. so_ext (set_of_word x a) (set_of_word y a) (sub a) (stable_antichain P (set_of_word x) (set_of_word y) s t sub a)))

  -- Below any word at most 12,870 words are listed.
  pub few_below : (k : ℕ) → P.atoms ≤ 16 → k ≤ 2 ^ P.atoms → length (keep (stable_word P) (below k)) ≤ 12870
  unfolding passes
  few_below k h l =
      let big : 2 ^ P.atoms ≤ 2 ^ 16 = pow_mono {i = P.atoms} {j = 16} h in
      let e : k + (2 ^ 16 - k) ≡ 2 ^ 16 = omega arith in
      omega (
        arith,
        length_kept (stable_word P) k,
        ap (total (λ x. bit (passes x))) e,
        sperner passes passes_apart 16,
        middle,
        total_le (λ x. bit (stable_word P x)) (λ x. bit (passes x)) k (2 ^ 16 - k)
            (λ x m. bit_le (stable_word P x) (passes x) (λ s. (and_iff (ltb x (2 ^ P.atoms)) (stable_word P x)).1 (lt-ltb x (2 ^ P.atoms) (omega arith), s))),
      )

  -- Before a word that is listed, fewer are.
  pub few_next : (k : ℕ) → P.atoms ≤ 16 → k < 2 ^ P.atoms → So (stable_word P k) → length (keep (stable_word P) (below k)) < 12870
  unfolding total
  few_next k h l s = omega (arith, few_below (suc k) h l, length_kept (stable_word P) k, length_kept (stable_word P) (suc k), bit_true (stable_word P k) s)

  -- At most sixteen atoms have at most 12,870 stable models.
  pub few_models : P.atoms ≤ 16 → length (models_of P) ≤ 12870
  unfolding models_of
  few_models h = few_below (2 ^ P.atoms) h (omega arith)
