-- Along the places of an atom in a part, from the last one down: what holds of the clause at each place holds in the end of every clause that has the atom there, also where it was
-- dropped.
use mathlib.Core.Path.{◌≡◌, sym, subst, ◌∙◌}
use mathlib.Core.Logic.{by_cases}
use mathlib.Core.List.{List}
use Prim.Native.Nat.{ℕ, ◌<◌}
use native.Mathlib.Omega.{arith}
use native.Mathlib.Decide.{ℕ_discrete, dec_lt}
use lib.ListN.{length, get_or}
use Rattle.table.specs.Questions.{Passed}
use Rattle.step_parts.specs.declared.Part.{Part}
use Rattle.step_parts.specs.Parts.{Stands, Latest, owner_at}
use Rattle.step_parts.specs.declared.marked.Indexed.{Indexed}
use Rattle.step_parts.specs.declared.places.Places.{Places}
use Rattle.step_parts.specs.Reading.{Gone}
use Rattle.step_parts.proofs.Index.{stands_in, stands_clause, stands_small}

-- the next place is below
pub latest_less : {ws index : List ℕ} {x : Part} {b i n : ℕ} → Latest ws index x b i n → 0 < i → n < i
latest_less {ws} {index} {x} {b} {i} {n} f h = by_cases (dec_lt 0 n) (λ z. (f.some z).0) (λ z. omega arith)

-- no place between the two, so a place above the next is one above this, or this
pub latest_above : {ws index : List ℕ} {x : Part} {b i n : ℕ} → Latest ws index x b i n → (t j : ℕ) → Stands ws x b t j → n < j → (j ≡ i → ⊥) → i < j
latest_above {i = i} f t j q h e = by_cases (dec_lt j i) (λ l. absurd (f.none t j q h l)) (λ l. omega arith)

module _ (ws index : List ℕ) (x : Part) (a : ℕ) where
  -- it holds of the clauses at the places above i, and the atom stands at i
  abbrev pub Above : (ℕ → Type 0) → ℕ → Type 0
  Above X i = ((t j : ℕ) → Stands ws x a t j → i < j → X t) × (0 < i → (i < length ws) × Stands ws x a (get_or index (owner_at i) 0) i)

  pub above_start : (X : ℕ → Type 0) (i : ℕ) → Passed ws → Latest ws index x a (length ws) i → Above X i
  above_start X i p f = (λ t j st h. absurd (f.none t j st h (stands_small p st).1), f.some)

  pub above_on : (X Y : ℕ → Type 0) (i n : ℕ) → 0 < i → Latest ws index x a i n → ((t : ℕ) → t < 2048 → X t → Y t) → Passed ws → Y (get_or index (owner_at i) 0) → Above X i → Above Y n
  above_on X Y i n z f g p m w = (next, λ u. let (l, v) = f.some u in (omega (arith, (w.1 z).0), v))
    where
      next : (t j : ℕ) → Stands ws x a t j → n < j → Y t
      next t j st h = by_cases (ℕ_discrete j i)
          (λ d. subst Y (sym (stands_clause (subst (Stands ws x a t) d st) (w.1 z).1)) m)
          (λ d. g t (stands_small p st).3 (w.0 t j st (latest_above f t j st h d)))

  pub above_end : (X : ℕ → Type 0) (i : ℕ) → i ≡ 0 → Above X i → (t j : ℕ) → Stands ws x a t j → X t
  above_end X i z w t j st = w.0 t j st (omega (arith, stands_in st))

-- ---- the same by the iterator: what is at hand before a call of `next`, and after it

module _ (p : Indexed) (x : Part) (a : ℕ) where
  pub record Walked (X : ℕ → Type 0) (s : Places) : Type 0 where
    pub of : (s.table ≡ p) × (s.part ≡ x) × (s.atom ≡ a)
    pub above : Above p.words.now p.index.now x a X s.at

  pub walk_start : (X : ℕ → Type 0) (s : Places) → (s.table ≡ p) × (s.part ≡ x) × (s.atom ≡ a) → Latest p.words.now p.index.now x a (length p.words.now) s.at → Walked X s
  walk_start X s e f = record { of = e; above = above_start _ _ x a X s.at p.placed.passed f }

  module _ {s next : Places} {i : ℕ} (g : Gone s i next) where
    -- the atom stands at the place that is given
    pub walk_at : (X : ℕ → Type 0) → Walked X s → (i < length p.words.now) × Stands p.words.now x a (get_or p.index.now (owner_at i) 0) i
    walk_at X w = subst (λ k. (k < length p.words.now) × Stands p.words.now x a (get_or p.index.now (owner_at k) 0) k) (sym g.here) (w.above.1 (subst (λ k. 0 < k) g.here g.there))

    -- the walk goes to the last place before it
    pub walk_before : (X : ℕ → Type 0) → Walked X s → Latest p.words.now p.index.now x a i next.at
    walk_before X w = subst (λ t. Latest t.words.now t.index.now x a i next.at) w.of.0 (subst (λ y. Latest s.table.words.now s.table.index.now y a i next.at) w.of.1 (subst (λ b. Latest s.table.words.now s.table.index.now s.part b i next.at) w.of.2 g.before))

    pub walk_on : (X Y : ℕ → Type 0) → ((t : ℕ) → t < 2048 → X t → Y t) → Y (get_or p.index.now (owner_at i) 0) → Walked X s → Walked Y next
    walk_on X Y f m w = record {
      of = (g.same.0 ∙ w.of.0, g.same.1 ∙ w.of.1, g.same.2 ∙ w.of.2);
      above = above_on _ _ x a X Y i next.at g.there (walk_before X w) f p.placed.passed m (subst (λ k. Above p.words.now p.index.now x a X k) (sym g.here) w.above);
    }

  pub walk_end : (X : ℕ → Type 0) (s : Places) → s.at ≡ 0 → Walked X s → (t j : ℕ) → Stands p.words.now x a t j → X t
  walk_end X s e w = above_end _ _ x a X s.at e w.above
