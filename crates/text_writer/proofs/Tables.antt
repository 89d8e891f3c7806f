-- The text of a table that passed, clause by clause, and the call.
use Prim.Native.Nat.{ℕ, ◌+◌, ◌-◌, ◌≤◌, ◌<◌}
use mathlib.Core.Path.{◌≡◌, refl, sym, ap, ◌∙◌}
use mathlib.Core.List.{List, [], ◌++◌}
use native.Mathlib.Omega.{arith}
use lib.ListN.{length, length-append, get_or, take, drop}
use borrow.Author.Tests.{le-leb, lt-leb}
use Rattle.semantics.specs.Programs.{Clause}
use Rattle.answers.specs.declared.CallQuestion.TheVariants.{TextRoom}
use Rattle.answers.specs.declared.Refusal.{Refusal}
use Rattle.answers.specs.declared.Refusal.TheVariants.{Call}
use Rattle.std.specs.Prelude.{Ok, Err}
use Rattle.table.specs.Questions.{table_of, Passed}
use Rattle.table.specs.Places.{cut, next_at}
use Rattle.table.specs.Programs.{clause_of, clauses_of, program_of}
use Rattle.table.proofs.Walks as walk
use Rattle.table.proofs.Encoding.{length_clauses_of}
use Rattle.text_form.specs.Digits.{digits, commas}
use Rattle.text_form.specs.Render.{atoms_key, clauses_key, head_key, pos_key, neg_key, line_text, clause_text, clauses_text, render}
use Rattle.text_form.specs.Writer.{text_of, write_answer, out_after}
use Rattle.text_form.specs.Stored.{Puts}
use Rattle.answers.proofs.Slices.{copied}
use Rattle.text_form.proofs.Calls.{text_short}
use Rattle.text_writer.proofs.Laws.{puts_long, puts_then, Left, left_on, left_room}

-- ---- a clause

module _ (c : Clause) where
  pub clause_length : length (clause_text c) ≡ length (line_text head_key (commas c.head)) + (length (line_text pos_key (commas c.pos)) + length (line_text neg_key (commas c.neg)))
  unfolding clause_text
  clause_length = length-append (line_text head_key (commas c.head)) _ ∙ ap (λ z. length (line_text head_key (commas c.head)) + z) (length-append (line_text pos_key (commas c.pos)) _)

  pub clause_puts : (w w1 w2 w3 : List ℕ) (i j k l : ℕ) → Puts w w1 i j (line_text head_key (commas c.head)) → Puts w1 w2 j k (line_text pos_key (commas c.pos)) → Puts w2 w3 k l (line_text neg_key (commas c.neg))
      → Puts w w3 i l (clause_text c)
  unfolding clause_text
  clause_puts w w1 w2 w3 i j k l p q r = puts_then w w1 w3 i j l _ _ p (puts_then w1 w2 w3 j k l _ _ q r)

-- the parts of the clause at a place are those between its places
module _ (ws : List ℕ) (at h p q : ℕ) (eh : h ≡ get_or ws at 0) (ep : p ≡ get_or ws (at + 1) 0) (eq : q ≡ get_or ws (at + 2) 0) where
  pub head_is : cut ws (at + 3) (at + 3 + h - (at + 3)) ≡ (clause_of ws at).head
  head_is = let e : at + 3 + h - (at + 3) ≡ h = omega arith in rw (e, eh)

  pub pos_is : cut ws (at + 3 + h) (at + 3 + h + p - (at + 3 + h)) ≡ (clause_of ws at).pos
  pos_is = let e : at + 3 + h + p - (at + 3 + h) ≡ p = omega arith in rw (e, eh, ep)

  pub neg_is : cut ws (at + 3 + h + p) (at + 3 + h + p + q - (at + 3 + h + p)) ≡ (clause_of ws at).neg
  neg_is = let e : at + 3 + h + p + q - (at + 3 + h + p) ≡ q = omega arith in rw (e, eh, ep, eq)

-- ---- clauses

module _ (ws : List ℕ) (m k place : ℕ) (h : k < m) where
  clauses_more : clauses_text (clauses_of ws (m - k) place) ≡ clause_text (clause_of ws place) ++ clauses_text (clauses_of ws (m - (k + 1)) (next_at ws place))
  unfolding clauses_text
  clauses_more = rw (walk.clauses_more ws k m place h)

  module _ (w w₀ : List ℕ) (n at : ℕ) (whole : List ℕ) (l : Left w w₀ n at (clauses_text (clauses_of ws (m - k) place)) whole) where
    pub clauses_room : at + length whole ≤ length w₀ → n + length (clause_text (clause_of ws place)) ≤ length w
    clauses_room f = left_room w w₀ n at _ whole l (clause_text (clause_of ws place)) (clauses_text (clauses_of ws (m - (k + 1)) (next_at ws place))) clauses_more f

    pub clauses_on : (w1 : List ℕ) (n1 : ℕ) → length w1 ≡ length w → Puts w w1 n n1 (clause_text (clause_of ws place)) → Left w1 w₀ n1 at (clauses_text (clauses_of ws (m - (k + 1)) (next_at ws place))) whole
    clauses_on w1 n1 q p = left_on w w₀ n at _ whole l w1 n1 (clause_text (clause_of ws place)) _ clauses_more q p

pub clauses_none : (ws : List ℕ) (m k place : ℕ) → m ≤ k → clauses_text (clauses_of ws (m - k) place) ≡ []
unfolding clauses_text
clauses_none ws m k place h = rw (walk.clauses_none ws k m place h)

-- ---- the whole

module _ (ws : List ℕ) (n m : ℕ) (en : n ≡ get_or ws 0 0) (em : m ≡ get_or ws 1 0) where
  text_is : text_of ws ≡ line_text atoms_key (digits n) ++ (line_text clauses_key (digits m) ++ clauses_text (clauses_of ws (get_or ws 1 0) 2))
  unfolding text_of render program_of
  text_is = rw (length_clauses_of ws (get_or ws 1 0) 2, en, em)

  pub text_length : length (text_of ws) ≡ length (line_text atoms_key (digits n)) + (length (line_text clauses_key (digits m)) + length (clauses_text (clauses_of ws (get_or ws 1 0) 2)))
  text_length = ap length text_is ∙ length-append (line_text atoms_key (digits n)) _ ∙ ap (λ z. length (line_text atoms_key (digits n)) + z) (length-append (line_text clauses_key (digits m)) _)

  pub text_puts : (w w1 w2 w3 : List ℕ) (a b c d : ℕ) → Puts w w1 a b (line_text atoms_key (digits n)) → Puts w1 w2 b c (line_text clauses_key (digits m)) → Puts w2 w3 c d (clauses_text (clauses_of ws (get_or ws 1 0) 2)) → Puts w w3 a d (text_of ws)
  text_puts w w1 w2 w3 a b c d p q r = rw text_is (puts_then w w1 w3 a b d _ _ p (puts_then w1 w2 w3 b c d _ _ q r))

-- ---- the call

module _ (ws out : List ℕ) where
  pub call_refused : (r : Refusal) → table_of ws ≡ Err r → (Err r ≡ write_answer ws (length out)) × (out ≡ out_after ws out)
  unfolding write_answer out_after
  call_refused r h = rw h (refl, refl)

  module _ (p : Passed ws) (w₀ w : List ℕ) (n : ℕ) (h : Puts w₀ w 0 n (text_of ws)) where
    pub call_bytes : n ≡ length (text_of ws)
    call_bytes = omega (arith, h.next)

    -- it is written into an array that holds every text
    pub call_inside : length w₀ ≡ 43022 → n ≤ length w
    call_inside e = omega (arith, call_bytes, text_short ws p, puts_long w₀ w 0 n (text_of ws) h)

    pub call_narrow : length out < n → (Err (Call TextRoom) ≡ write_answer ws (length out)) × (out ≡ out_after ws out)
    unfolding write_answer out_after
    call_narrow l = rw (p.valid, lt-leb (length (text_of ws)) (length out) (omega (arith, call_bytes))) (refl, refl)

    pub call_done : (y : List ℕ) → n ≤ length out → n ≤ length w → y ≡ take n w → (Ok n ≡ write_answer ws (length out)) × (y ++ drop n out ≡ out_after ws out)
    unfolding write_answer out_after
    call_done y l b q =
        rw (p.valid, le-leb (length (text_of ws)) (length out) (omega (arith, call_bytes)))
        (ap Ok call_bytes, copied out w₀ w (y ++ drop n out) (text_of ws) n b h.holds (sym call_bytes) (ap (λ z. z ++ drop n out) q))
