-- The answers for a whole text, by what its lines give.
use Prim.Native.Nat.{ℕ, ◌+◌, ◌≤◌, ◌<◌}
use mathlib.Core.Path.{◌≡◌, refl, sym, ap, ◌∙◌}
use mathlib.Core.List.{List, ◌++◌}
use native.Mathlib.Omega.{arith}
use lib.ListN.{length, take, drop, set}
use lib.Seq.{sets}
use borrow.Author.Tests.{le-leb, lt-leb}
use Rattle.answers.specs.declared.Refusal.{Refusal}
use Rattle.answers.specs.declared.CallQuestion.TheVariants.{TextLength, TableSlice}
use Rattle.answers.specs.declared.Refusal.TheVariants.{Call, Byte}
use Rattle.answers.specs.declared.ByteQuestion.{ByteQuestion}
use Rattle.answers.specs.declared.ByteQuestion.TheVariants.{TextAtomLimit, TextClauseLimit, TextAllUsed}
use Rattle.text_form.specs.declared.Line.{Line}
use Rattle.semantics.specs.Programs.{Clause, program}
use Rattle.table.specs.Encoding.{clauses_words, encode}
use Rattle.text_form.specs.Render.{atoms_key, clauses_key}
use Rattle.std.specs.Prelude.{Ok, Err}
use Rattle.text_form.specs.Reader.{done, stop, then, number_at, count_at, clauses_at, rest_at, program_at, read_text, read_answer, table_after}
use Rattle.answers.specs.Answers.{ask}
use Rattle.text_form.specs.Stored.{Held}
use Rattle.answers.proofs.Slices.{copied}
use Rattle.text_form.proofs.Texts.{clauses_inv, read_inv}

-- ---- a line with a limit

module _ (ts key : List ℕ) (limit : ℕ) (q : ByteQuestion) (at : ℕ) where
  pub count_stop : (r : Refusal) → number_at ts key at ≡ stop r → count_at ts key limit q at ≡ stop r
  unfolding count_at then
  count_stop r h = rw h

  module _ (n e : ℕ) (h : number_at ts key at ≡ done n e) where
    pub count_over : limit < n → count_at ts key limit q at ≡ stop (Byte q at)
    unfolding count_at then ask
    count_over l = rw (h, lt-leb n limit l)

    pub count_done : n ≤ limit → count_at ts key limit q at ≡ done n e
    unfolding count_at then ask
    count_done l = rw (h, le-leb n limit l)

-- ---- what follows the first two lines

module _ (ts : List ℕ) (n m at : ℕ) where
  pub rest_stop : (r : Refusal) → clauses_at ts n m 2 at ≡ stop r → rest_at ts n m at ≡ stop r
  unfolding rest_at then
  rest_stop r h = rw h

  module _ (cs : List Clause) (e : ℕ) (h : clauses_at ts n m 2 at ≡ done cs e) where
    pub bytes_left : e < length ts → rest_at ts n m at ≡ stop (Byte TextAllUsed e)
    unfolding rest_at then ask
    bytes_left l = rw (h, lt-leb (length ts) e l)

    pub all_read : (line : Line) (w w1 w' : List ℕ) → line.next.at ≡ e → line.next.text.now ≡ ts → length ts ≤ e → length (clauses_words cs) ≡ line.count → w1 ≡ set (set w 0 n) 1 m → w' ≡ sets w1 2 (clauses_words cs)
        → Held encode (rest_at ts n m at) ts (record { count = 2 + line.count; next = line.next }) 0 w w'
    unfolding rest_at then ask encode
    all_read line w w1 w' p t l q s u =
        let i : length cs ≡ m = (clauses_inv ts n m 2 at e cs (omega arith) h).count in
        record {
          thing = program n cs;
          read = rw (h, le-leb (length ts) e l, p);
          count = omega (arith, q);
          stored = u ∙ ap (λ z. sets z 2 (clauses_words cs)) s ∙ rw i;
          same_text = t;
        }

-- ---- the lines

module _ (ts : List ℕ) where
  pub first_stop : (r : Refusal) → count_at ts atoms_key 1024 TextAtomLimit 0 ≡ stop r → program_at ts ≡ stop r
  unfolding program_at then
  first_stop r h = rw h

  module _ (n b : ℕ) (A : count_at ts atoms_key 1024 TextAtomLimit 0 ≡ done n b) where
    pub second_stop : (r : Refusal) → count_at ts clauses_key 2048 TextClauseLimit b ≡ stop r → program_at ts ≡ stop r
    unfolding program_at then
    second_stop r h = rw (A, h)

    pub second_done : (m c : ℕ) → count_at ts clauses_key 2048 TextClauseLimit b ≡ done m c → program_at ts ≡ rest_at ts n m c
    unfolding program_at then
    second_done m c h = rw (A, h)

-- ---- the call

module _ (ts table : List ℕ) where
  pub long_text : 65536 < length ts → read_text ts (length table) ≡ stop (Call TextLength)
  unfolding read_text ask
  long_text l = rw (lt-leb (length ts) 65536 l)

  module _ (a : length ts ≤ 65536) where
    pub short_table : length table < 8192 → read_text ts (length table) ≡ stop (Call TableSlice)
    unfolding read_text ask
    short_table l = rw (le-leb (length ts) 65536 a, lt-leb 8192 (length table) l)

    pub on_text : 8192 ≤ length table → read_text ts (length table) ≡ program_at ts
    unfolding read_text ask
    on_text l = rw (le-leb (length ts) 65536 a, le-leb 8192 (length table) l)

  -- a refusal changes nothing
  pub call_stop : (r : Refusal) → read_text ts (length table) ≡ stop r → (Err r ≡ read_answer ts (length table)) × (table ≡ table_after ts table)
  unfolding read_answer table_after
  call_stop r h = rw h (refl, refl)

  -- the text is read, and its n words stand at the start of a local array w
  module _ (w₀ w : List ℕ) (line : Line) (a : length ts ≤ 65536) (b : 8192 ≤ length table) (h : Held encode (program_at ts) ts line 0 w₀ w) where
    pub call_short : line.count ≤ 8192
    call_short =
        let r = read_inv ts (length table) h.thing line.next.at (on_text a b ∙ h.read) in
        omega (arith, ap (λ P. length (encode P)) r.kept, r.form.within.few_words, h.count)

    -- the words are copied
    pub call_done : (y : List ℕ) → line.count ≤ length w → y ≡ take line.count w → (Ok line.count ≡ read_answer ts (length table)) × (y ++ drop line.count table ≡ table_after ts table)
    unfolding read_answer table_after
    call_done y f q = rw (on_text a b, h.read) (ap Ok (sym h.count), copied table w₀ w (y ++ drop line.count table) (encode h.thing) line.count f h.stored h.count (ap (λ z. z ++ drop line.count table) q))
