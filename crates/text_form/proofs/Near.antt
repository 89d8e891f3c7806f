-- The place of a refused text is at most its length, so at most 65,536, and its number is never 7; the words read are at most 65,536 too.
use Prim.Native.Nat.{ℕ, zero, suc, ◌≤◌, ◌+◌}
use mathlib.Core.Path.{◌≡◌, refl, ap, subst}
use mathlib.Core.Logic.{◌≢◌}
use mathlib.Core.List.{List}
use mathlib.Core.Bool.{Bool, true, false}
use borrow.Author.Tests.{leb-true}
use native.Mathlib.Omega.{arith}
use lib.ListN.{length}
use Rattle.semantics.specs.Programs.{Program}
use Rattle.answers.specs.declared.ByteQuestion.{ByteQuestion}
use Rattle.answers.specs.declared.ByteQuestion.TheVariants.{TextAtomLimit, TextClauseLimit, TextAtomBelow, LineThere, ValueInForm, WordLimit, TextAllUsed}
use Rattle.answers.specs.declared.Refusal.{Refusal}
use Rattle.answers.specs.declared.Refusal.TheVariants.{Byte}
use Rattle.std.specs.Prelude.{Err}
use Rattle.answers.specs.Refusals.{byte_number, refusal_number, refusal_place}
use Rattle.table.specs.Encoding.{clause_words, encode}
use Rattle.text_form.specs.Render.{head_key, pos_key, neg_key, atoms_key, clauses_key}
use Rattle.text_form.specs.Reader.{Span, Value, Missing, Read, done, stop, then, on_span, value_of, value_at, number_at, count_at, list_of, list_at, clause_at, clauses_at, rest_at, program_at, read_text, answer_of, read_answer}
use Rattle.answers.specs.Answers.{ask, Small}
use Rattle.text_form.proofs.Lines.{line_inv}
use Rattle.text_form.proofs.Texts.{read_inv}

-- a refusal that a text can meet, at a place of at most b
abbrev Meets : ℕ → Refusal → Type 0
Meets b r = (refusal_place r ≤ b) × (refusal_number r ≢ 7)

-- no question that is asked of a byte is 7
meets_byte : (b : ℕ) (q : ByteQuestion) (at : ℕ) → at ≤ b → Meets b (Byte q at)
meets_byte b q at h = (h, other q)
  where
    other : (q : ByteQuestion) → byte_number q ≢ 7
    other TextAtomLimit = λ e. omega arith
    other TextClauseLimit = λ e. omega arith
    other TextAtomBelow = λ e. omega arith
    other LineThere = λ e. omega arith
    other ValueInForm = λ e. omega arith
    other WordLimit = λ e. omega arith
    other TextAllUsed = λ e. omega arith

module _ {A : Type 0} where
  -- what is read ends at a place of at most b, or is refused at one
  abbrev Near : ℕ → Read A → Type 0
  Near b (done a e) = e ≤ b
  Near b (stop r) = Meets b r

  near_ask : (b : ℕ) (t : Bool) (r : Refusal) (x : Read A) → Meets b r → (t ≡ true → Near b x) → Near b (ask stop t r x)
  unfolding ask
  near_ask b true r x h y = y refl
  near_ask b false r x h y = h

  near_span : (b : ℕ) (s : Span) (at : ℕ) (f : ℕ → ℕ → Read A) → at ≤ b → ((from end : ℕ) → s ≡ Value from end → Near b (f from end)) → Near b (on_span s at f)
  unfolding on_span
  near_span b (Value from end) at f h k = k from end refl
  near_span b Missing at f h k = meets_byte b LineThere at h

  -- a question asked of a byte
  near_byte : (b : ℕ) (t : Bool) (q : ByteQuestion) (at : ℕ) (x : Read A) → at ≤ b → (t ≡ true → Near b x) → Near b (ask stop t (Byte q at) x)
  near_byte b t q at x h y = near_ask b t (Byte q at) x (meets_byte b q at h) y

module _ {A B : Type 0} where
  near_then : (b : ℕ) (x : Read A) (f : A → ℕ → Read B) → Near b x → ((a : A) (e : ℕ) → e ≤ b → Near b (f a e)) → Near b (then x f)
  unfolding then
  near_then b (done a e) f h k = k a e h
  near_then b (stop r) f h k = h

module _ (ts : List ℕ) where
  value_near : (key : List ℕ) (at : ℕ) → at ≤ length ts → Near (length ts) (value_at ts key at)
  unfolding value_at value_of
  value_near key at h =
      near_span _ _ at _ h (λ from end s. let k = (line_inv ts key at from end s).inside in near_byte _ _ _ _ _ h (λ _. omega arith))

  number_near : (key : List ℕ) (at : ℕ) → at ≤ length ts → Near (length ts) (number_at ts key at)
  unfolding number_at
  number_near key at h = near_then _ _ _ (value_near key at h) (λ xs e l. near_byte _ _ _ _ _ h (λ _. l))

  count_near : (key : List ℕ) (limit : ℕ) (q : ByteQuestion) (at : ℕ) → at ≤ length ts → Near (length ts) (count_at ts key limit q at)
  unfolding count_at
  count_near key limit q at h = near_then _ _ _ (number_near key at h) (λ n e l. near_byte _ _ _ _ _ h (λ _. l))

  list_near : (key : List ℕ) (n used at : ℕ) → at ≤ length ts → Near (length ts) (list_at ts key n used at)
  unfolding list_at list_of
  list_near key n used at h = near_then _ _ _ (value_near key at h) (λ xs e l. near_byte _ _ _ _ _ h (λ _. near_byte _ _ _ _ _ h (λ _. l)))

  clause_near : (n used at : ℕ) → at ≤ length ts → Near (length ts) (clause_at ts n used at)
  unfolding clause_at
  clause_near n used at h =
      near_then _ _ _ (list_near head_key n _ at h) (λ a b k.
      near_then _ _ _ (list_near pos_key n _ b k) (λ p c l.
      near_then _ _ _ (list_near neg_key n _ c l) (λ q d m. m)))

  clauses_near : (n k used at : ℕ) → at ≤ length ts → Near (length ts) (clauses_at ts n k used at)
  unfolding clauses_at
  clauses_near n zero used at h = h
  clauses_near n (suc k) used at h =
      near_then _ _ _ (clause_near n used at h) (λ c d l. near_then _ _ _ (clauses_near n k (used + length (clause_words c)) d l) (λ cs e m. m))

  program_near : Near (length ts) (program_at ts)
  unfolding program_at rest_at
  program_near =
      near_then _ _ _ (count_near atoms_key 1024 TextAtomLimit 0 (omega arith)) (λ n b h.
      near_then _ _ _ (count_near clauses_key 2048 TextClauseLimit b h) (λ m c k.
      near_then _ _ _ (clauses_near n m 2 c k) (λ cs e l. near_byte _ _ _ _ _ l (λ _. l))))

  text_near : (room : ℕ) → Near 65536 (read_text ts room)
  unfolding read_text
  text_near room =
      near_ask 65536 _ _ _ (omega arith, λ e. omega arith) (λ t. near_ask 65536 _ _ _ (omega arith, λ e. omega arith) (λ _. wider (program_at ts) program_near (leb-true (length ts) 65536 t)))
    where
      wider : (x : Read Program) → Near (length ts) x → length ts ≤ 65536 → Near 65536 x
      wider (done P e) h l = omega arith
      wider (stop r) h l = (omega (arith, h.0), h.1)

pub read_small : (ts : List ℕ) (room : ℕ) → Small (read_answer ts room)
unfolding read_answer
read_small ts room = go (read_text ts room) refl (text_near ts room)
  where
    go : (x : Read Program) → read_text ts room ≡ x → Near 65536 x → Small (answer_of x)
    go (done P e) q h = let k = read_inv ts room P e q in omega (arith, ap (λ Q. length (encode Q)) k.kept, k.form.within.few_words)
    go (stop s) q h = h.0

-- "question 7 is never met from text"
pub never_seven : (ts : List ℕ) (room : ℕ) (r : Refusal) → read_answer ts room ≡ Err r → refusal_number r ≢ 7
unfolding read_answer
never_seven ts room r h = go (read_text ts room) (text_near ts room) h
  where
    go : (x : Read Program) → Near 65536 x → answer_of x ≡ Err r → refusal_number r ≢ 7
    go (done P e) n h = let z : ◌≡◌ {A = ℕ} 0 1 = cc in absurd (omega arith)
    go (stop s) n h = let z : s ≡ r = cc in subst (λ r. refusal_number r ≢ 7) z n.1
