-- Texts as they were read before slip 5, when a list had to ascend: what is answered otherwise now was refused by 7 or by 26 then.
use Prim.Native.Nat.{ℕ, zero, suc, ◌+◌, ◌≤◌}
use mathlib.Core.Path.{◌≡◌, refl, sym, ap, subst, ◌∙◌}
use mathlib.Core.Logic.{◌⊎◌, inl, inr}
use mathlib.Core.List.Memᴰ
use mathlib.Core.List.{List, [], ◌∷◌}
use mathlib.Core.Bool.{Bool, true, false, cond}
use native.Mathlib.Omega.{arith}
use lib.ListN.{length}
use lib.Dec.{ltb, leb}
use borrow.Author.Tests.{ltb-true, ltb-false, leb-true}
use Rattle.semantics.specs.Lists.{◌∈◌}
use Rattle.semantics.specs.Programs.{Clause, Program, program}
use Rattle.sorting.specs.Sorting.{sorted}
use Rattle.sorting.proofs.Sorted.{sorted_same, sorted_shorter}
use Rattle.answers.specs.declared.CallQuestion.TheVariants.{TextLength, TableSlice}
use Rattle.answers.specs.declared.WordQuestion.TheVariants.{Ascending}
use Rattle.answers.specs.declared.ByteQuestion.TheVariants.{TextAtomLimit, TextClauseLimit, TextAtomBelow, WordLimit, TextAllUsed}
use Rattle.answers.specs.declared.Refusal.{Refusal}
use Rattle.answers.specs.declared.Refusal.TheVariants.{Call, Word, Byte}
use Rattle.answers.specs.Answers.{ask}
use Rattle.answers.specs.Refusals.{refusal_number}
use Rattle.table.specs.Encoding.{clause_words}
use Rattle.table.proofs.Rising.{Rising, rising_iff}
use Rattle.text_form.specs.Render.{atoms_key, clauses_key, head_key, pos_key, neg_key}
use Rattle.text_form.specs.Reader.{Read, done, stop, then, value_at, count_at, list_at, clause_at, clauses_at, rest_at, program_at, read_text}
use Rattle.text_form.proofs.Lines.{list_large, list_kept}

-- ---- how a text was read

-- "6 and 7 for each number": `low` is one above the number before, 0 at the line's first; with number and place of 7
abbrev pub order_before : ℕ → ℕ → ℕ → List ℕ → Read (List ℕ) → Read (List ℕ)
order_before n at low [] r = r
order_before n at low (x ∷ xs) r = cond (ltb x n) (cond (leb low x) (order_before n at (x + 1) xs r) (stop (Word Ascending at))) (stop (Byte TextAtomBelow at))

abbrev pub list_before : List ℕ → List ℕ → ℕ → ℕ → ℕ → Read (List ℕ)
list_before ts key n used at = then (value_at ts key at) (λ xs e. ask stop (leb (used + length xs) 8192) (Byte WordLimit at) (order_before n at 0 xs (done xs e)))

abbrev pub clause_before : List ℕ → ℕ → ℕ → ℕ → Read Clause
clause_before ts n used at =
    then (list_before ts head_key n (used + 3) at) (λ h b.
    then (list_before ts pos_key n (used + 3 + length h) b) (λ p c.
    then (list_before ts neg_key n (used + 3 + length h + length p) c) (λ q d.
    done (record { head = h; pos = p; neg = q }) d)))

abbrev pub clauses_before : List ℕ → ℕ → ℕ → ℕ → ℕ → Read (List Clause)
clauses_before ts n zero used at = done [] at
clauses_before ts n (suc k) used at =
    then (clause_before ts n used at) (λ c d. then (clauses_before ts n k (used + length (clause_words c)) d) (λ cs e. done (c ∷ cs) e))

abbrev pub read_before : List ℕ → ℕ → Read Program
read_before ts room =
    ask stop (leb (length ts) 65536) (Call TextLength) (ask stop (leb 8192 room) (Call TableSlice)
    (then (count_at ts atoms_key 1024 TextAtomLimit 0) (λ n b.
    then (count_at ts clauses_key 2048 TextClauseLimit b) (λ m c.
    then (clauses_before ts n m 2 c) (λ cs e. ask stop (leb (length ts) e) (Byte TextAllUsed e) (done (program n cs) e))))))

-- ---- what is read as it was

-- by 7 or by 26
abbrev pub Changes : Refusal → Type 0
Changes r = (refusal_number r ≡ 7) ⊎ (refusal_number r ≡ 26)

module _ {A : Type 0} where
  -- the same, or refused then by 7 or by 26
  pub data AsBefore (old new : Read A) : Type 0 where
    same : old ≡ new → AsBefore old new
    changed : (r : Refusal) → old ≡ stop r → Changes r → AsBefore old new

  before_ask : (t : Bool) (r : Refusal) (x y : Read A) → (t ≡ true → AsBefore x y) → AsBefore (ask stop t r x) (ask stop t r y)
  unfolding ask
  before_ask true r x y h = h refl
  before_ask false r x y h = same refl

module _ {A B : Type 0} where
  before_then : (x y : Read A) (f g : A → ℕ → Read B) → AsBefore x y → ((a : A) (e : ℕ) → AsBefore (f a e) (g a e)) → AsBefore (then x f) (then y g)
  unfolding then
  before_then (done a e) y f g (same q) h = subst (λ y. AsBefore (f a e) (then y g)) q (h a e)
  before_then (stop r) y f g (same q) h = same (ap (λ y. then y g) q)
  before_then x y f g (changed r q c) h = changed r (ap (λ x. then x f) q) c

-- the numbers of a line, by what is read of it now: what was read where they rise, 6 where one is not below n
before_order : (n at low : ℕ) (xs : List ℕ) (r y : Read (List ℕ)) → (Rising n low xs → y ≡ r) → ((a : ℕ) → a ∈ xs → n ≤ a → y ≡ stop (Byte TextAtomBelow at)) → AsBefore (order_before n at low xs r) y
before_order n at low [] r y f g = same (sym (f tt))
before_order n at low (x ∷ xs) r y f g = go (ltb x n) refl (leb low x) refl (before_order n at (x + 1) xs r y)
  where
    go : (s : Bool) → ltb x n ≡ s → (t : Bool) → leb low x ≡ t
        → ((Rising n (x + 1) xs → y ≡ r) → ((a : ℕ) → a ∈ xs → n ≤ a → y ≡ stop (Byte TextAtomBelow at)) → AsBefore (order_before n at (x + 1) xs r) y)
        → AsBefore (cond s (cond t (order_before n at (x + 1) xs r) (stop (Word Ascending at))) (stop (Byte TextAtomBelow at))) y
    go true p true q h = h (λ k. f (ltb-true x n p, leb-true low x q, k)) (λ a m. g a (Memᴰ.tail m))
    go true p false q h = changed (Word Ascending at) refl (inl refl)
    go false p t q h = same (sym (g x (Memᴰ.head refl) (ltb-false x n p)))

module _ (ts : List ℕ) where
  before_list : (key : List ℕ) (n used at : ℕ) → AsBefore (list_before ts key n used at) (list_at ts key n used at)
  unfolding then ask list_at
  before_list key n used at = go (value_at ts key at) refl
    where
      fits : (xs : List ℕ) (e : ℕ) → value_at ts key at ≡ done xs e → (t : Bool) → leb (used + length xs) 8192 ≡ t
          → AsBefore (ask stop t (Byte WordLimit at) (order_before n at 0 xs (done xs e))) (list_at ts key n used at)
      fits xs e q true l =
          let k : used + length (sorted xs) ≤ 8192 = omega (arith, sorted_shorter xs, leb-true (used + length xs) 8192 l) in
          before_order n at 0 xs (done xs e) (list_at ts key n used at)
          (λ r. let o = (rising_iff n xs).0 r in list_kept ts key xs n used at e q k o.below ∙ ap (λ l. done l e) (sorted_same xs o.ascends))
          (list_large ts key xs n used at e q k)
      fits xs e q false l = changed (Byte WordLimit at) refl (inr refl)

      go : (v : Read (List ℕ)) → value_at ts key at ≡ v → AsBefore (then v (λ xs e. ask stop (leb (used + length xs) 8192) (Byte WordLimit at) (order_before n at 0 xs (done xs e)))) (list_at ts key n used at)
      go (done xs e) q = fits xs e q (leb (used + length xs) 8192) refl
      go (stop r) q = same (rw q)

  before_clause : (n used at : ℕ) → AsBefore (clause_before ts n used at) (clause_at ts n used at)
  unfolding clause_at
  before_clause n used at =
      before_then _ _ _ _ (before_list head_key n _ at) (λ h b.
      before_then _ _ _ _ (before_list pos_key n _ b) (λ p c.
      before_then _ _ _ _ (before_list neg_key n _ c) (λ q d. same refl)))

  before_clauses : (n k used at : ℕ) → AsBefore (clauses_before ts n k used at) (clauses_at ts n k used at)
  unfolding clauses_at
  before_clauses n zero used at = same refl
  before_clauses n (suc k) used at =
      before_then _ _ _ _ (before_clause n used at) (λ c d. before_then _ _ _ _ (before_clauses n k (used + length (clause_words c)) d) (λ cs e. same refl))

  -- Every text: read or refused as before, or refused before by 7 or by 26.
  pub read_before_lem : (room : ℕ) → AsBefore (read_before ts room) (read_text ts room)
  unfolding read_text program_at rest_at
  read_before_lem room =
      before_ask _ _ _ _ (λ _. before_ask _ _ _ _ (λ _.
      before_then _ _ _ _ (same refl) (λ n b.
      before_then _ _ _ _ (same refl) (λ m c.
      before_then _ _ _ _ (before_clauses n m 2 c) (λ cs e. same refl)))))
