-- The words found, one word after the other.
use Prim.Native.Nat.{ℕ, ◌+◌, ◌^◌, ◌≤◌, ◌<◌}
use mathlib.Core.Path.{◌≡◌, refl, sym, ap, ◌∙◌}
use mathlib.Core.List.{List, [], ◌∷◌, ◌++◌, append-nil}
use mathlib.Core.Bool.{Bool, true, false}
use native.Mathlib.Omega.{arith}
use lib.ListN.{length, get_or}
use Rattle.semantics.specs.Lists.{keep}
use Rattle.table.specs.Programs.{program_of}
use Rattle.sorting.specs.Sorting.{below}
use Rattle.models_words.specs.Words.{stable_word, models_of}
use Rattle.sorting.proofs.Ascending.{keep_more}
use Rattle.models_words.proofs.Antichains.{few_next}
use Rattle.models_masks.specs.declared.Rule.{Rule}
use Rattle.models_list.specs.declared.masks.Masks.{Masks}
use Rattle.models_list.specs.Masks.{stable_mask}
use Rattle.models_list.specs.Listed.{Searchable}
use Rattle.models_list.proofs.Words.{word_masks}

-- the words below x are tried
abbrev pub Finding : List ℕ → List ℕ → ℕ → Type 0
Finding ws found x = found ≡ keep (stable_word (program_of ws)) (below x)

module _ (ws : List ℕ) where
  pub finding_start : Finding ws [] 0
  unfolding below
  finding_start = refl

  module _ (found : List ℕ) (x : ℕ) (g : Finding ws found x) where
    finding_aside : stable_word (program_of ws) x ≡ false → Finding ws found (x + 1)
    finding_aside e = g ∙ sym (keep_more (stable_word (program_of ws)) x ∙ rw e (append-nil _))

    module _ (few : get_or ws 0 0 ≤ 16) (h : x < 2 ^ get_or ws 0 0) (e : stable_word (program_of ws) x ≡ true) where
      finding_room : length found < 12870
      unfolding program_of
      finding_room = omega (arith, ap length g, few_next (program_of ws) x few h e)

      finding_one : Finding ws (found ++ x ∷ []) (x + 1)
      finding_one = ap (λ l. l ++ x ∷ []) g ∙ sym (keep_more (stable_word (program_of ws)) x ∙ rw e)

    pub finding_end : x ≡ 2 ^ get_or ws 0 0 → found ≡ models_of (program_of ws)
    unfolding models_of program_of
    finding_end e = g ∙ ap (λ y. keep (stable_word (program_of ws)) (below y)) e

-- what is known of the word x after its test
pub record Tried (ws found : List ℕ) (x : ℕ) (r : Bool) : Type 0 where
  pub aside : r ≡ false → Finding ws found (x + 1)
  pub room : r ≡ true → length found < 12870
  pub one : r ≡ true → Finding ws (found ++ x ∷ []) (x + 1)

pub tried : (ws : List ℕ) (cs : List Masks) (rules : List Rule) → Searchable ws cs rules → (found : List ℕ) (x : ℕ) → Finding ws found x
    → (end : ℕ) → end ≡ 2 ^ get_or ws 0 0 → x < end → (r : Bool) → r ≡ stable_mask cs x → Tried ws found x r
tried ws cs rules s found x g end e h r t =
    let few = s.listable.few in
    let b : x < 2 ^ get_or ws 0 0 = omega arith in
    let w : stable_word (program_of ws) x ≡ r = sym (word_masks ws s.listable.passed few x b) ∙ ap (λ l. stable_mask l x) (sym s.masked) ∙ sym t in
    record { aside = λ q. finding_aside ws found x g (w ∙ q); room = λ q. finding_room ws found x g few b (w ∙ q); one = λ q. finding_one ws found x g few b (w ∙ q) }
