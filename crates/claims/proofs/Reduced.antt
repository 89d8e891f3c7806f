-- The call for the reduced table: how it goes, question by question; and that it writes the table of exactly the program as the marks leave it.
use mathlib.Core.Path.{◌≡◌, refl, sym, ap, subst, ◌∙◌}
use mathlib.Core.Logic.{◌↔◌, by_cases}
use mathlib.Core.Bool.{Bool, true, false, So}
use mathlib.Core.List.{List}
use Prim.Native.Nat.{ℕ, zero, suc, ◌+◌, ◌≤◌, ◌<◌}
use native.Mathlib.Omega.{arith}
use native.Mathlib.Decide.{dec_lt}
use lib.Dec.{leb}
use lib.ListN.{length, take, drop}
use lib.Seq.{drop_at}
use borrow.Author.Tests.{leb-true, leb-false}
use Rattle.semantics.specs.Programs.{Atoms, Stable}
use Rattle.semantics.proofs.Tests.{not_so}
use Rattle.answers.specs.declared.CallQuestion.TheVariants.{MarksLength, TableRoom}
use Rattle.answers.specs.declared.WordQuestion.TheVariants.{MarkAllowed}
use Rattle.answers.specs.declared.Refusal.{Refusal}
use Rattle.answers.specs.declared.Refusal.TheVariants.{Call, Word}
use Rattle.table.specs.Questions.{Walk}
use Rattle.std.specs.Prelude.{Ok, Err}
use Rattle.table.specs.Questions.{Checked}
use Rattle.answers.specs.Answers.{ask, written, written_if}
use Rattle.answers.proofs.Slices.{take_written}
use Rattle.table.specs.Questions.{on_walk, table_of, on_table, Passed}
use Rattle.table.specs.Encoding.{encode}
use Rattle.table.specs.Programs.{program_of}
use Rattle.table.proofs.Encoding.{program_encode, valid_passed}
use Rattle.answers.specs.Answers.{Answer}
use Rattle.reduced_table.specs.Reduced.{marked_answer, reduced_answer, reduced_out}
use Rattle.reduced_sizes.specs.Leaves.{left_program, reduced}
use Rattle.reduced_marks.specs.Allowed.{allowed, marks_from}

-- ---- the reduced table is the table of the program as left, and passes questions 1 to 8: `left_within`, `reduced_passes`

-- Its program is exactly the program as left,
pub reduced_program : (ws ms : List ℕ) → program_of (reduced ws ms) ≡ left_program ws ms
reduced_program ws ms = program_encode (left_program ws ms)

-- and so are its stable models.
pub reduced_stable : (ws ms : List ℕ) (M : Atoms) → Stable (program_of (reduced ws ms)) M ↔ Stable (left_program ws ms) M
reduced_stable ws ms M = (
  λ s. subst (λ P. Stable P M) (reduced_program ws ms) s,
  λ s. subst (λ P. Stable P M) (sym (reduced_program ws ms)) s,
)

-- ---- the first mark that is not allowed

-- i is the first place, of k from `at`, of which the test does not hold
pub record First (f : ℕ → Bool) (at k i : ℕ) : Type 0 where
  pub from : at ≤ i
  pub within : i < at + k
  pub fails : f i ≡ false
  pub before : (j : ℕ) → at ≤ j → j < i → So (f j)

-- what a walk over the marks has found: each allowed, or the first that isn't
abbrev Found : (ℕ → Bool) → ℕ → ℕ → Walk → Type 0
Found f at k (Ok e) = (i : ℕ) → at ≤ i → i < at + k → So (f i)
Found f at k (Err r) = (i : ℕ) × First f at k i × (r ≡ Word MarkAllowed i)

marks_found : (f : ℕ → Bool) (at k : ℕ) → Found f at k (marks_from f at k)
unfolding marks_from ask
marks_found f at zero = λ i a b. absurd (omega arith)
marks_found f at (suc k) = go (f at) refl (marks_from f (at + 1) k) (marks_found f (at + 1) k)
  where
    here : (b : Bool) → f at ≡ b → So b → (i : ℕ) → i ≡ at → So (f i)
    here b q h i e = ap f e ∙ q ∙ h

    more : So (f at) → (w : Walk) → Found f (at + 1) k w → Found f at (suc k) w
    more h (Ok e) r = λ i a b. by_cases (dec_lt at i) (λ l. r i (omega arith) (omega arith)) (λ l. here true h refl i (omega arith))
    more h (Err x) (i, r, q) = (
      i,
      record { from = omega (arith, r.from); within = omega (arith, r.within); fails = r.fails; before = λ j a b. by_cases (dec_lt at j) (λ l. r.before j (omega arith) b) (λ l. here true h refl j (omega arith)) },
      q,
    )

    go : (t : Bool) → f at ≡ t → (w : Walk) → Found f (at + 1) k w → Found f at (suc k) (ask Err t (Word MarkAllowed at) w)
    go true q w r = more q w r
    go false q w r = (at, record { from = omega arith; within = omega arith; fails = q; before = λ j a b. absurd (omega arith) }, refl)

-- there is one first place
first_is : (f : ℕ → Bool) (at k i j : ℕ) → First f at k i → First f at k j → i ≡ j
first_is f at k i j x y = by_cases (dec_lt i j)
    (λ l. absurd (not_so x.fails (y.before i x.from l)))
    (λ l. by_cases (dec_lt j i) (λ m. absurd (not_so y.fails (x.before j y.from m))) (λ m. omega arith))

-- ---- how the call goes

-- the questions before 18 are answered yes
pub record Passed10 (ws ms : List ℕ) : Type 0 where
  pub passed : Passed ws
  pub marked : length ws ≤ length ms
  pub marks : (i : ℕ) → i < length ws → So (allowed ws ms i)

-- by the first question that gets a no, or with every question answered yes
pub data ReducedGoes (ws ms out : List ℕ) : Answer → Type 0 where
  table : (r : Refusal) → table_of ws ≡ Err r → ReducedGoes ws ms out (Err r)
  few : Passed ws → length ms < length ws → ReducedGoes ws ms out (Err (Call MarksLength))
  mark : Passed ws → length ws ≤ length ms → (i : ℕ) → First (allowed ws ms) 0 (length ws) i → ReducedGoes ws ms out (Err (Word MarkAllowed i))
  room : Passed10 ws ms → length out < length (reduced ws ms) → ReducedGoes ws ms out (Err (Call TableRoom))
  made : Passed10 ws ms → length (reduced ws ms) ≤ length out → ReducedGoes ws ms out (Ok (length (reduced ws ms)))

pub reduced_goes : (ws ms out : List ℕ) → ReducedGoes ws ms out (reduced_answer ws ms out)
unfolding reduced_answer on_table marked_answer on_walk ask
reduced_goes ws ms out = by_table (table_of ws) refl
  where
    fits : Answer
    fits = ask Err (leb (length (reduced ws ms)) (length out)) (Call TableRoom) (Ok (length (reduced ws ms)))

    by_room : Passed10 ws ms → (b : Bool) → leb (length (reduced ws ms)) (length out) ≡ b → ReducedGoes ws ms out (ask Err b (Call TableRoom) (Ok (length (reduced ws ms))))
    by_room y true e = made y (leb-true _ _ e)
    by_room y false e = room y (leb-false _ _ e)

    by_mark : Passed ws → length ws ≤ length ms → (w : Walk) → Found (allowed ws ms) 0 (length ws) w → ReducedGoes ws ms out (on_walk Err w (λ _. fits))
    by_mark p l (Ok e) f = by_room (record { passed = p; marked = l; marks = λ i b. f i (omega arith) (omega arith) }) (leb (length (reduced ws ms)) (length out)) refl
    by_mark p l (Err r) (i, f, e) = subst (λ x. ReducedGoes ws ms out (Err x)) (sym e) (mark p l i f)

    by_few : Passed ws → (b : Bool) → leb (length ws) (length ms) ≡ b → ReducedGoes ws ms out (ask Err b (Call MarksLength) (on_walk Err (marks_from (allowed ws ms) 0 (length ws)) (λ _. fits)))
    by_few p true e = by_mark p (leb-true _ _ e) (marks_from (allowed ws ms) 0 (length ws)) (marks_found (allowed ws ms) 0 (length ws))
    by_few p false e = few p (leb-false _ _ e)

    by_table : (c : Checked) → table_of ws ≡ c → ReducedGoes ws ms out (on_table Err c (marked_answer ws ms out))
    by_table (Ok t) e = by_few (valid_passed ws t e).0 (leb (length ws) (length ms)) refl
    by_table (Err r) e = table r e

-- a table that passes is not refused
pub not_both : {ws : List ℕ} {r : Refusal} → Passed ws → table_of ws ≡ Err r → ⊥
not_both p e = let q = p.valid in let z : ◌≡◌ {A = ℕ} 0 1 = cc in omega arith

module _ (ws ms out : List ℕ) where
  -- "(place of the first that isn't)"
  pub reduced_mark : Passed ws → length ws ≤ length ms → (i : ℕ) → First (allowed ws ms) 0 (length ws) i → reduced_answer ws ms out ≡ Err (Word MarkAllowed i)
  reduced_mark p l i h = go (reduced_answer ws ms out) (reduced_goes ws ms out)
    where
      fails : Passed10 ws ms → ⊥
      fails y = not_so h.fails (y.marks i (omega (arith, h.within)))

      go : (a : Answer) → ReducedGoes ws ms out a → a ≡ Err (Word MarkAllowed i)
      go a (table r e) = absurd (not_both p e)
      go a (few q m) = absurd (omega arith)
      go a (mark q m j f) = ap (λ x. Err (Word MarkAllowed x)) (first_is (allowed ws ms) 0 (length ws) j i f h)
      go a (room y m) = absurd (fails y)
      go a (made y m) = absurd (fails y)

  -- A slice as long as the words is long enough.
  pub reduced_fits : Passed10 ws ms → length (reduced ws ms) ≤ length out → reduced_answer ws ms out ≡ Ok (length (reduced ws ms))
  reduced_fits y l = go (reduced_answer ws ms out) (reduced_goes ws ms out)
    where
      go : (a : Answer) → ReducedGoes ws ms out a → a ≡ Ok (length (reduced ws ms))
      go a (table r e) = absurd (not_both y.passed e)
      go a (few q m) = absurd (omega (arith, y.marked))
      go a (mark q m j f) = absurd (not_so f.fails (y.marks j (omega (arith, f.within))))
      go a (room z m) = absurd (omega arith)
      go a (made z m) = refl

-- ---- what the call leaves

-- what an accepted call has done
pub record Made (ws ms out : List ℕ) (k : ℕ) : Type 0 where
  pub passed : Passed ws
  pub count : k ≡ length (reduced ws ms)
  pub fits : k ≤ length out
  -- the words written, then those past them
  pub words : take k (reduced_out ws ms out) ≡ encode (left_program ws ms)
  pub past : drop k (reduced_out ws ms out) ≡ drop k out

-- Accepted, the slice holds the table of the program as left, and what lies past it is as it was.
pub reduced_accepted : (ws ms out : List ℕ) (k : ℕ) → reduced_answer ws ms out ≡ Ok k → Made ws ms out k
unfolding reduced_out written_if
reduced_accepted ws ms out k h = go (reduced_answer ws ms out) (reduced_goes ws ms out) h
  where
    done : Passed10 ws ms → length (reduced ws ms) ≤ length out → length (reduced ws ms) ≡ k → Made ws ms out k
    done y l n =
        let o : reduced_out ws ms out ≡ written (reduced ws ms) out = ap (λ a. written_if a (reduced ws ms) out) h in
        record {
          passed = y.passed;
          count = sym n;
          fits = omega arith;
          words = ap (take k) o ∙ take_written (reduced ws ms) out k (sym n);
          past = ap (drop k) o ∙ drop_at (reduced ws ms) (drop (length (reduced ws ms)) out) k n ∙ ap (λ i. drop i out) n;
        }

    go : (a : Answer) → ReducedGoes ws ms out a → a ≡ Ok k → Made ws ms out k
    go a (table r e) q = let z : ◌≡◌ {A = ℕ} 0 1 = cc in absurd (omega arith)
    go a (few p m) q = let z : ◌≡◌ {A = ℕ} 0 1 = cc in absurd (omega arith)
    go a (mark p m j f) q = let z : ◌≡◌ {A = ℕ} 0 1 = cc in absurd (omega arith)
    go a (room y m) q = let z : ◌≡◌ {A = ℕ} 0 1 = cc in absurd (omega arith)
    go a (made y m) q = done y m (cc)

-- Refused, the slice is as it was.
pub reduced_refused : (ws ms out : List ℕ) (r : Refusal) → reduced_answer ws ms out ≡ Err r → reduced_out ws ms out ≡ out
unfolding reduced_out written_if
reduced_refused ws ms out r h = rw h
