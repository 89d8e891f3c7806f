-- A clause's counts, stored one after the other, and the words of a part whose mark is 1, copied one after the other.
use Prim.Native.Nat.{ℕ, ◌+◌, ◌-◌, ◌≤◌, ◌<◌}
use mathlib.Core.Path.{◌≡◌, refl, sym, ap, ap₂, ◌∙◌}
use mathlib.Core.Logic.{◌⊎◌, inl, inr}
use mathlib.Core.List.{List, [], ◌∷◌}
use native.Mathlib.Omega.{arith}
use native.Mathlib.Nat.{add-zero}
use native.Mathlib.Numerals.{add-one, add-two}
use lib.Dec.{eqb}
use lib.ListN.{length, get_or, take, drop, set}
use lib.Seq.{sets}
use borrow.Author.Tests.{eq-eqb, ne_eqb}
use Rattle.std.specs.List.{count_by}
use Rattle.table.specs.Places.{pos_at, neg_at}
use Rattle.table.specs.Slices.{kept_of}
use Rattle.table.specs.View.{part, entry_at}
use Rattle.reduced_sizes.specs.Parts.{counts}
use Rattle.reduced_sizes.proofs.Words.{part_count}

-- a clause's counts H, P and Q, and how many marks of its parts are 1
pub counts_stored : (ws ms out : List ℕ) (at to H P Q x y z : ℕ) → H ≡ get_or ws at 0 → P ≡ get_or ws (at + 1) 0 → Q ≡ get_or ws (at + 2) 0 → at + 3 + H + P + Q ≤ length ms
    → x ≡ count_by (λ m. eqb m 1) (take (at + 3 + H - (at + 3)) (drop (at + 3) ms))
    → y ≡ count_by (λ m. eqb m 1) (take (at + 3 + H + P - (at + 3 + H)) (drop (at + 3 + H) ms))
    → z ≡ count_by (λ m. eqb m 1) (take (at + 3 + H + P + Q - (at + 3 + H + P)) (drop (at + 3 + H + P) ms))
    → set (set (set out to x) (to + 1) y) (to + 2) z ≡ sets out to (counts (entry_at ws ms at).clause)
unfolding entry_at
counts_stored ws ms out at to H P Q x y z h p q l hx hy hz =
    let len : ℕ → ℕ → ℕ = λ a k. length (part ws ms a k) in
    let a : x ≡ len (at + 3) (get_or ws at 0) = hx ∙ part_count ws ms (at + 3) (at + 3 + H) H refl (omega arith) ∙ ap (len (at + 3)) h in
    let b : y ≡ len (pos_at ws at) (get_or ws (at + 1) 0) = hy ∙ part_count ws ms (at + 3 + H) (at + 3 + H + P) P refl (omega arith) ∙ ap₂ len (ap (λ k. at + 3 + k) h) p in
    let d : z ≡ len (neg_at ws at) (get_or ws (at + 2) 0) = hz ∙ part_count ws ms (at + 3 + H + P) (at + 3 + H + P + Q) Q refl l ∙ ap₂ len (ap₂ (λ i j. at + 3 + i + j) h p) q in
    rw (a, b, d, add-one to, add-two to)

-- the words xs with the marks ks are to come, to be written from n on
pub record Copying (ws ms start : List ℕ) (to : ℕ) (out : List ℕ) (n : ℕ) (xs ks : List ℕ) : Type 0 where
  pub place : n + length (kept_of xs ks) ≡ to + length (kept_of ws ms)
  pub written : sets out n (kept_of xs ks) ≡ sets start to (kept_of ws ms)

module _ (ws ms start : List ℕ) (to : ℕ) where
  pub copying_start : (xs ks : List ℕ) → xs ≡ ws → ks ≡ ms → Copying ws ms start to start to xs ks
  copying_start xs ks e q = rw (e, q) (record { place = refl; written = refl })

  module _ (out : List ℕ) (n : ℕ) (xs ks : List ℕ) (g : Copying ws ms start to out n xs ks) where
    module _ (x k : ℕ) (xs' ks' : List ℕ) (e : xs ≡ x ∷ xs') (q : ks ≡ k ∷ ks') where
      one_no : ¬ (k ≡ 1) → kept_of xs ks ≡ kept_of xs' ks'
      unfolding kept_of
      one_no h = rw (e, q, ne_eqb k 1 h)

      one_yes : k ≡ 1 → kept_of xs ks ≡ x ∷ kept_of xs' ks'
      unfolding kept_of
      one_yes h = rw (e, q, eq-eqb k 1 h)

      pub copying_aside : ¬ (k ≡ 1) → Copying ws ms start to out n xs' ks'
      copying_aside h = record { place = rw (one_no h) at g.place; written = rw (one_no h) at g.written }

      pub copying_room : k ≡ 1 → n < to + length (kept_of ws ms)
      copying_room h = omega (arith, ap length (one_yes h), g.place)

      pub copying_next : k ≡ 1 → Copying ws ms start to (set out n x) (n + 1) xs' ks'
      copying_next h = record {
        place = omega (arith, ap length (one_yes h), g.place);
        written = rw add-one (rw (one_yes h) at g.written);
      }

    nothing : (xs ≡ []) ⊎ (ks ≡ []) → kept_of xs ks ≡ []
    unfolding kept_of
    nothing (inl e) = rw e
    nothing (inr e) = rw e (go xs)
      where
        go : (xs : List ℕ) → kept_of xs [] ≡ []
        go [] = refl
        go (x ∷ xs) = refl

    pub copying_end : (xs ≡ []) ⊎ (ks ≡ []) → (n ≡ to + length (kept_of ws ms)) × (out ≡ sets start to (kept_of ws ms))
    copying_end h = (sym (add-zero n) ∙ rw (nothing h) at g.place, rw (nothing h) at g.written)
