-- The test on masks finds the words whose sets are stable models.
use Prim.Native.Nat.{ℕ, ◌^◌, ◌≤◌, ◌<◌}
use mathlib.Core.Path.{◌≡◌, refl, sym, subst, ◌∙◌}
use mathlib.Core.Logic.{◌↔◌}
use mathlib.Core.List.{List, map}
use mathlib.Core.Bool.{Bool, not, ◌&&◌, So}
use native.Mathlib.Omega.{arith}
use lib.Bits.{bit_and}
use lib.Dec.{eqb}
use lib.ListN.{get_or}
use lib.Pow.{pow_mono}
use Rattle.std.specs.List.{list_all}
use Rattle.std.proofs.lemmas.List.Folds.{list_all-map}
use Rattle.semantics.specs.Lists.{◌∈◌, all}
use Rattle.semantics.specs.Programs.{Clause, Atoms, among, Subset, Stable}
use Rattle.semantics.proofs.Tests.{not_iff, or_iff, all_iff, mem_iff, so_ext}
use Rattle.semantics.proofs.Models.{Holds, Models}
use Rattle.table.specs.Questions.{Passed}
use Rattle.table.specs.Programs.{program_of}
use Rattle.table.proofs.Encoding.{passed_within}
use Rattle.models_masks.specs.Masks.{mask_of, all_below, inside}
use Rattle.models_masks.proofs.Lists.{all_list}
use Rattle.models_masks.proofs.Bits.{apart_iff}
use Rattle.models_masks.proofs.Models.{masks_iff, stable_masks}
use Rattle.sorting.specs.Sorting.{below}
use Rattle.models_words.specs.Words.{set_of_word, stable_word}
use Rattle.sorting.proofs.Ascending.{below_in, below_ascends}
use Rattle.models_words.proofs.Sets.{mask_word, entries_ordered, among_entries}
use Rattle.models_words.proofs.Listed.{stable_word_lem}
use Rattle.models_list.specs.declared.masks.Masks.{Masks}
use Rattle.models_list.specs.Masks.{part_mask, masks_of, reduct_holds, reduct_modelled, stable_mask}

-- a clause's masks ask of the mask of Y what the reduct by M asks of Y
clause_iff : (M Y : Atoms) → Subset M (among (below 16)) → Subset Y M → (c : Clause) → ((a : ℕ) → a ∈ c.pos → a ∈ below 16)
    → So (reduct_holds (masks_of c) (mask_of (below 16) M) (mask_of (below 16) Y)) ↔ Holds M Y c
unfolding reduct_holds
clause_iff M Y small sub c w =
    let E = eqb (bit_and (part_mask c.neg) (mask_of (below 16) M)) 0 in
    let t = masks_iff (below 16) Y (λ a y. small a (sub a y)) c w in
    let i = apart_iff (below 16) (among c.neg) M in (
      λ h n. t.0 ((or_iff (not E) _).0 h (λ o. (not_iff E).0 o (i.1 (λ a m q y. n (a, (mem_iff _ _).0 q, y))))),
      λ f. (or_iff (not E) _).1 (λ k. t.1 (f (λ v. k ((not_iff E).1 (λ e. i.0 e v.0 ((mem_iff _ _).0 (small v.0 v.2)) ((mem_iff _ _).1 v.1) v.2))))),
    )

-- the masks of all clauses ask what the reduct asks
masked_iff : (cs : List Clause) → ((c : Clause) → c ∈ cs → (a : ℕ) → a ∈ c.pos → a ∈ below 16)
    → (M Y : Atoms) → Subset M (among (below 16)) → Subset Y M → So (reduct_modelled (map masks_of cs) (mask_of (below 16) M) (mask_of (below 16) Y)) ↔ Models M Y cs
unfolding reduct_modelled
masked_iff cs w M Y small sub =
    let f : Masks → Bool = λ c. reduct_holds c (mask_of (below 16) M) (mask_of (below 16) Y) in
    let e : list_all f (map masks_of cs) ≡ all (λ c. f (masks_of c)) cs = list_all-map f masks_of cs ∙ all_list _ _ (λ c. refl) cs in
    let i = all_iff (λ c. f (masks_of c)) cs in (
      λ h c m. (clause_iff M Y small sub c (w c m)).0 (i.0 (sym e ∙ h) c m),
      λ h. e ∙ i.1 (λ c m. (clause_iff M Y small sub c (w c m)).1 (h c m)),
    )

-- The test on masks is the test of the word's set.
pub word_masks : (ws : List ℕ) → Passed ws → get_or ws 0 0 ≤ 16 → (x : ℕ) → x < 2 ^ get_or ws 0 0 → stable_mask (map masks_of (program_of ws).clauses) x ≡ stable_word (program_of ws) x
unfolding stable_mask program_of
word_masks ws pass few x h =
    let P = program_of ws in
    let M = set_of_word x in
    let cs = map masks_of P.clauses in
    let f = reduct_modelled cs x in
    let e : mask_of (below 16) M ≡ x = mask_word 16 x (omega (arith, pow_mono {i = get_or ws 0 0} {j = 16} few)) in
    let low : (a : ℕ) → So (M a) → a < get_or ws 0 0 = λ a m. (entries_ordered (get_or ws 0 0) x).below a ((mem_iff _ _).0 (subst (λ N. So (N a)) (sym (among_entries (get_or ws 0 0) x h)) m)) in
    let small : Subset M (among (below 16)) = λ a m. (mem_iff _ _).1 (below_in 16 a (omega (arith, low a m))) in
    let w : (c : Clause) → c ∈ P.clauses → (a : ℕ) → a ∈ c.pos → a ∈ below 16 = λ c k a m. below_in 16 a (omega (arith, ((passed_within ws pass).ordered c k).pos.below a m)) in
    let asks : (Y : Atoms) → Subset Y M → So (f (mask_of (below 16) Y)) ↔ Models M Y P.clauses =
    λ Y sub. subst (λ m. So (reduct_modelled cs m (mask_of (below 16) Y)) ↔ Models M Y P.clauses) e (masked_iff P.clauses w M Y small sub) in
    let t : So (stable_mask cs x) ↔ Stable P M =
    subst (λ y. So (f y && all_below (λ z. not (inside z y && f z)) y) ↔ Stable P M) e (stable_masks P (below 16) M f (below_ascends 16) small low asks) in
    so_ext _ _ (λ k. (stable_word_lem P x h).1 (t.0 k)) (λ k. t.1 ((stable_word_lem P x h).0 k))
