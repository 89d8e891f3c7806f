-- The chain of atoms that the search follows.
use Prim.Native.Nat.{ℕ}
use mathlib.Core.Path.{◌≡◌, refl, sym, subst, ◌∙◌}
use mathlib.Core.Logic.{◌≢◌, ◌⊎◌, inl, inr, ⊎_elim}
use mathlib.Core.List.Memᴰ
use mathlib.Core.List.{List, ◌∷◌}
use lib.ListN.{get_or, set}
use lib.Seq.{get_or-set_other}
use Rattle.semantics.specs.Lists.{◌∈◌}
use Rattle.table.specs.Programs.{program_of}
use Rattle.dependency.specs.Chains.{Link, Leads, link, chain}
use Rattle.cycle.specs.Search.{none, Path, start, step}

module _ {ws parent : List ℕ} where
  pub popped : {t : ℕ} {l : List ℕ} → Path ws parent t l → t ≢ none → (k : List ℕ) × (l ≡ t ∷ k) × Path ws parent (get_or parent t 0) k × ¬ (t ∈ k)
  popped start n = absurd (n refl)
  popped (step {l = l} p k q f) n = (l, refl, subst (λ u. Path ws parent u l) (sym q) p, f)

  pub some : {t : ℕ} {l : List ℕ} → Path ws parent t l → ((a : ℕ) → a ∈ l → a ≢ none) → t ≡ none → (a : ℕ) → a ∈ l → ⊥
  some start s e a m = Memᴰ.not-nil m
  some (step p k q f) s e a m = s _ (Memᴰ.head refl) e

  -- from each of its atoms to the last
  pub path_leads : {t : ℕ} {l : List ℕ} → Path ws parent t l → ((a : ℕ) → a ∈ l → a ≢ none) → (a : ℕ) → a ∈ l → (a ≡ t) ⊎ Leads (program_of ws).clauses a t
  path_leads start s a m = absurd (Memᴰ.not-nil m)
  path_leads (step {t = t} {b = b} {l = l} p k q f) s a m =
      let s' : (c : ℕ) → c ∈ l → c ≢ none = λ c n. s c (Memᴰ.tail n) in
      ⊎_elim inl (λ r. inr (go k (λ e. some p s' e a r) (path_leads p s' a r))) (Memᴰ.cases_cons m)
    where
      go : (t ≡ none) ⊎ Link (program_of ws).clauses t b → (t ≢ none) → (a ≡ t) ⊎ Leads (program_of ws).clauses a t → Leads (program_of ws).clauses a b
      go (inl e) n w = absurd (n e)
      go (inr k) n (inl e) = link (subst (λ x. Link (program_of ws).clauses x b) (sym e) k)
      go (inr k) n (inr g) = chain g k

  -- it stays the same where the parent of another atom changes
  pub path_set : {t : ℕ} {l : List ℕ} (b v : ℕ) → ¬ (b ∈ l) → Path ws parent t l → Path ws (set parent b v) t l
  path_set b v n start = start
  path_set b v n (step {b = c} p k q f) =
      step (path_set b v (λ m. n (Memᴰ.tail m)) p) k (get_or-set_other parent b c v 0 (λ e. n (Memᴰ.head (sym e))) ∙ q) f
