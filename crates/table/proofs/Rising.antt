-- An ordered part, as questions 6 and 7 walk along it, and 20 and 21 along a set: it passes exactly when it rises.
use Prim.Native.Nat.{ℕ, zero, suc, ◌+◌, ◌≤◌, ◌<◌}
use mathlib.Core.Path.{◌≡◌, refl, sym, ap, ◌∙◌}
use mathlib.Core.Logic.{◌↔◌}
use mathlib.Core.List.Memᴰ
use mathlib.Core.List.{List, [], ◌∷◌, ◌++◌}
use native.Mathlib.Omega.{arith}
use native.Mathlib.Numerals.{add-one}
use native.Mathlib.Nat.{add-zero}
use lib.ListN.{length, get_or, drop}
use lib.Seq.{drop-cons}
use lib.Dec.{ltb}
use borrow.Author.Tests.{le-leb, leb-true, lt-ltb, ltb-true}
use Rattle.semantics.specs.Lists.{◌∈◌, all, ascending}
use Rattle.semantics.proofs.Tests.{and_iff, all_iff}
use Rattle.answers.specs.declared.Refusal.{Refusal}
use Rattle.std.specs.Prelude.{Ok}
use Rattle.table.specs.Questions.{atoms_from}
use Rattle.answers.specs.Answers.{ask}
use Rattle.table.specs.Encoding.{Ordered}
use Rattle.table.specs.Places.{cut}
use Rattle.table.proofs.Laws.{ask_inv}
use Rattle.table.proofs.Stands.{past, word_at}

-- atoms below n, at least `low`, and each above the one before it
abbrev pub Rising : ℕ → ℕ → List ℕ → Type 0
Rising n low [] = Unit {0}
Rising n low (x ∷ xs) = (x < n) × (low ≤ x) × Rising n (x + 1) xs

rising_from : (n low : ℕ) (xs : List ℕ) → Ordered n xs → ((a : ℕ) → a ∈ xs → low ≤ a) → Rising n low xs
unfolding ascending
rising_from n low [] o h = tt
rising_from n low (x ∷ xs) o h =
    let w = (and_iff (all (λ y. ltb x y) xs) (ascending xs)).0 o.ascends in (
      o.below x (Memᴰ.head refl),
      h x (Memᴰ.head refl),
      rising_from n (x + 1) xs (record { below = λ a m. o.below a (Memᴰ.tail m); ascends = w.1 })
          (λ a m. omega (arith, ltb-true x a ((all_iff (λ y. ltb x y) xs).0 w.0 a m))),
    )

rising_low : (n low : ℕ) (xs : List ℕ) → Rising n low xs → (a : ℕ) → a ∈ xs → low ≤ a
rising_low n low [] r a x'' = elim x'' [ ]
rising_low n low (x ∷ xs) r a (Memᴰ.head e) = rw e r.1
rising_low n low (x ∷ xs) r a (Memᴰ.tail m) = omega (arith, r.1, rising_low n (x + 1) xs r.2 a m)

rising_to : (n low : ℕ) (xs : List ℕ) → Rising n low xs → Ordered n xs
unfolding ascending
rising_to n low [] r = record { below = λ a m. absurd (mathlib.Core.List.Memᴰ.not-nil m); ascends = refl }
rising_to n low (x ∷ xs) r =
    let o = rising_to n (x + 1) xs r.2 in
    record {
      below = λ a m. below o a m;
      ascends = (and_iff (all (λ y. ltb x y) xs) (ascending xs)).1 ((all_iff (λ y. ltb x y) xs).1 (λ y m. lt-ltb x y (omega (arith, rising_low n (x + 1) xs r.2 y m))), o.ascends);
    }
  where
    below : Ordered n xs → (a : ℕ) → a ∈ x ∷ xs → a < n
    below o a (Memᴰ.head e) = rw e r.0
    below o a (Memᴰ.tail m) = o.below a m

pub rising_iff : (n : ℕ) (xs : List ℕ) → Rising n 0 xs ↔ Ordered n xs
rising_iff n xs = (rising_to n 0 xs, λ o. rising_from n 0 xs o (λ a m. omega arith))

-- ---- what is asked of its words, whatever the refusals

module _ (below above : ℕ → Refusal) where
  atoms_from_lem : (ws xs r : List ℕ) (n low at : ℕ) → drop at ws ≡ xs ++ r → Rising n low xs → atoms_from below above ws n low at (length xs) ≡ Ok (at + length xs)
  unfolding atoms_from ask
  atoms_from_lem ws [] r n low at e g = ap Ok (sym (add-zero at))
  atoms_from_lem ws (x ∷ xs) r n low at e g =
      let v : get_or ws at 0 ≡ x = ap (λ i. get_or ws i 0) (sym (add-zero at)) ∙ word_at ws at 0 x (x ∷ xs ++ r) e refl in
      let m : at + 1 + length xs ≡ at + suc (length xs) = omega arith in
      rw (v, lt-ltb x n g.0, le-leb low x g.1, atoms_from_lem ws xs r n (x + 1) (at + 1) (past ws (x ∷ []) (xs ++ r) at e) g.2, m)

  pub atoms_of : (ws xs r : List ℕ) (n at : ℕ) → drop at ws ≡ xs ++ r → Ordered n xs → atoms_from below above ws n 0 at (length xs) ≡ Ok (at + length xs)
  atoms_of ws xs r n at e o = atoms_from_lem ws xs r n 0 at e ((rising_iff n xs).1 o)

  pub atoms_inv : (ws : List ℕ) (n low at k e : ℕ) → atoms_from below above ws n low at k ≡ Ok e → at + k ≤ length ws → Rising n low (cut ws at k) × (e ≡ at + k)
  unfolding atoms_from
  atoms_inv ws n low at zero e h l = (tt, let q : at ≡ e = cc in omega arith)
  atoms_inv ws n low at (suc k) e h l =
      let (a, h1) = ask_inv _ _ _ e h in
      let (b, h2) = ask_inv _ _ _ e h1 in
      let (r, q) = atoms_inv ws n (get_or ws at 0 + 1) (at + 1) k e h2 (omega arith) in
      let d : drop at ws ≡ get_or ws at 0 ∷ drop (at + 1) ws = drop-cons ws at 0 (omega arith) ∙ ap (λ i. get_or ws at 0 ∷ drop i ws) (sym (add-one at)) in
      (rw d (ltb-true _ _ a, leb-true _ _ b, r), omega arith)
