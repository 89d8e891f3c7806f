-- Reading a text: questions 22 to 27 of document 01, with 2, 3 and 6, asked in its order. The first no, or the program.
-- A list may be in any order and repeat an atom (document 02, slip 5): what is kept of it ascends, so that question 7 is never met.
use Rattle.std.specs.Prelude.{ℕ, zero, suc, ◌+◌, ◌-◌, ◌*◌, List, [], ◌∷◌, Bool, true, false, ◌&&◌, ◌||◌, not, cond, length, get_or, drop, ltb, leb, eqb, Ok, Err}
use Rattle.semantics.specs.Lists.{all}
use Rattle.semantics.specs.Programs.{Clause, Program, program}
use Rattle.sorting.specs.Sorting.{sorted}
use Rattle.answers.specs.declared.CallQuestion.TheVariants.{TextLength, TableSlice}
use Rattle.answers.specs.declared.ByteQuestion.{ByteQuestion}
use Rattle.answers.specs.declared.ByteQuestion.TheVariants.{TextAtomLimit, TextClauseLimit, TextAtomBelow, LineThere, ValueInForm, WordLimit, TextAllUsed}
use Rattle.answers.specs.declared.Refusal.{Refusal}
use Rattle.answers.specs.declared.Refusal.TheVariants.{Call, Byte}
use Rattle.table.specs.Encoding.{clause_words, encode}
use Rattle.table.specs.Places.{cut}
use Rattle.answers.specs.Answers.{Answer}
use Rattle.text_form.specs.Render.{atoms_key, clauses_key, head_key, pos_key, neg_key}
use Rattle.answers.specs.Answers.{ask, written}

-- what reading gives: a thing and the place past it, or the first question answered no
pub data Read (A : Type 0) : Type 0 where
  done : A → ℕ → Read A
  stop : Refusal → Read A

module _ {A B : Type 0} where
  unfoldable pub then : Read A → (A → ℕ → Read B) → Read B
  then (done a e) f = f a e
  then (stop r) f = stop r

-- ---- "24 Is it there with its key, "=" and a line feed?"

-- where a line's value stands: from its first byte up to the line feed
pub data Span : Type 0 where
  Value : ℕ → ℕ → Span
  Missing : Span

-- the list begins with the key
unfoldable pub starts : List ℕ → List ℕ → Bool
starts [] l = true
starts (k ∷ ks) [] = false
starts (k ∷ ks) (b ∷ l) = eqb b k && starts ks l

-- how many bytes stand before the first line feed
unfoldable pub run : List ℕ → ℕ
run [] = 0
run (b ∷ l) = cond (eqb b 10) 0 (suc (run l))

-- a value is a line's if a byte, the line feed, follows it
unfoldable pub ended : List ℕ → ℕ → ℕ → Span
ended ts from end = cond (ltb end (length ts)) (Value from end) Missing

-- the value of the line at `at`: after the key, up to the first line feed
unfoldable pub span_at : List ℕ → List ℕ → ℕ → Span
span_at ts key at = cond (starts key (drop at ts)) (ended ts (at + length key) (at + length key + run (drop (at + length key) ts))) Missing

-- ---- "25 Is the value in form?"

-- what a byte of a value is: a digit, with the number so far, the comma after a number, or neither
pub data Next : Type 0 where
  Digit : ℕ → Next
  Comma : Next
  Bad : Next

-- A byte of a value, where `begun` says that a number has begun, which is v so far: "A number has one to four digits and no
-- leading zero, save 0 itself", so that a number begun takes a digit more if it is not 0 and at most 999.
unfoldable pub next_of : Bool → ℕ → ℕ → Next
next_of begun v b =
    cond (leb 48 b && leb b 57) (cond (leb v 999 && (not begun || leb 1 v)) (Digit (v * 10 + (b - 48))) Bad)
    (cond (begun && eqb b 44) Comma Bad)

-- the numbers, and whether the value is in form
pub record Scanned : Type 0 where
  pub ok : Bool
  pub xs : List ℕ

abbrev pub failed : Scanned
failed = record { ok = false; xs = [] }

abbrev pub emit : ℕ → Scanned → Scanned
emit v s = record { ok = s.ok; xs = v ∷ s.xs }

abbrev pub on_next : Next → (ℕ → Scanned) → Scanned → Scanned
on_next (Digit w) f s = f w
on_next Comma f s = s
on_next Bad f s = failed

-- "numbers joined by commas": a number ends the value
unfoldable pub scan : Bool → ℕ → List ℕ → Scanned
scan begun v [] = cond begun (emit v (record { ok = true; xs = [] })) failed
scan begun v (b ∷ l) = on_next (next_of begun v b) (λ w. scan true w l) (emit v (scan false 0 l))

-- "or nothing"
unfoldable pub numbers : List ℕ → Scanned
numbers [] = record { ok = true; xs = [] }
numbers (b ∷ l) = scan false 0 (b ∷ l)

-- ---- a line's numbers

module _ {A : Type 0} where
  unfoldable pub on_span : Span → ℕ → (ℕ → ℕ → Read A) → Read A
  on_span (Value from end) at f = f from end
  on_span Missing at f = stop (Byte LineThere at)

-- "line by line, place the line's first byte: 24 Is it there with its key, "=" and a line feed? 25 Is the value in form?": its numbers
unfoldable pub value_of : Scanned → ℕ → ℕ → Read (List ℕ)
value_of s at end = ask stop s.ok (Byte ValueInForm at) (done s.xs (end + 1))

unfoldable pub value_at : List ℕ → List ℕ → ℕ → Read (List ℕ)
value_at ts key at = on_span (span_at ts key at) at (λ from end. value_of (numbers (cut ts from (end - from))) at end)

-- "The first two values are one number"
unfoldable pub number_at : List ℕ → List ℕ → ℕ → Read ℕ
number_at ts key at = then (value_at ts key at) (λ xs e. ask stop (eqb (length xs) 1) (Byte ValueInForm at) (done (get_or xs 0 0) e))

-- "Then 2 or 3 for the first two lines (here too with the line's place)"
unfoldable pub count_at : List ℕ → List ℕ → ℕ → ByteQuestion → ℕ → Read ℕ
count_at ts key limit q at = then (number_at ts key at) (λ n e. ask stop (leb n limit) (Byte q at) (done n e))

-- "6 .. for each number"
abbrev pub all_below : ℕ → List ℕ → Bool
all_below n xs = all (λ x. ltb x n) xs

-- "for the others 26 Do the words so far stay within 8,192", where `used` are in use before this line's numbers; "question 26 counts what is
-- kept". "Then 6 .. for each number."
unfoldable pub list_of : ℕ → ℕ → ℕ → List ℕ → ℕ → Read (List ℕ)
list_of n used at kept e = ask stop (leb (used + length kept) 8192) (Byte WordLimit at) (ask stop (all_below n kept) (Byte TextAtomBelow at) (done kept e))

-- "Reading a list sorts it and keeps each atom once"
unfoldable pub list_at : List ℕ → List ℕ → ℕ → ℕ → ℕ → Read (List ℕ)
unfolding sorted
list_at ts key n used at = then (value_at ts key at) (λ xs e. list_of n used at (sorted xs) e)

-- ---- the text

-- "a clause's counts are counted at its head line"
unfoldable pub clause_at : List ℕ → ℕ → ℕ → ℕ → Read Clause
clause_at ts n used at =
    then (list_at ts head_key n (used + 3) at) (λ h b.
    then (list_at ts pos_key n (used + 3 + length h) b) (λ p c.
    then (list_at ts neg_key n (used + 3 + length h + length p) c) (λ q d.
    done (record { head = h; pos = p; neg = q }) d)))

unfoldable pub clauses_at : List ℕ → ℕ → ℕ → ℕ → ℕ → Read (List Clause)
clauses_at ts n zero used at = done [] at
clauses_at ts n (suc k) used at =
    then (clause_at ts n used at) (λ c d. then (clauses_at ts n k (used + length (clause_words c)) d) (λ cs e. done (c ∷ cs) e))

-- the lines of m clauses. "After the last line: 27 Is no byte left (place of the first)?"
unfoldable pub rest_at : List ℕ → ℕ → ℕ → ℕ → Read Program
rest_at ts n m at = then (clauses_at ts n m 2 at) (λ cs e. ask stop (leb (length ts) e) (Byte TextAllUsed e) (done (program n cs) e))

-- "2 Is n at most 1,024? 3 Is m at most 2,048", then the clauses' lines
unfoldable pub program_at : List ℕ → Read Program
program_at ts =
    then (count_at ts atoms_key 1024 TextAtomLimit 0) (λ n b.
    then (count_at ts clauses_key 2048 TextClauseLimit b) (λ m c.
    rest_at ts n m c))

-- "22 Are there at most 65,536 bytes? 23 Has the table slice at least 8,192 words?" Then line by line.
unfoldable pub read_text : List ℕ → ℕ → Read Program
read_text ts room = ask stop (leb (length ts) 65536) (Call TextLength) (ask stop (leb 8192 room) (Call TableSlice) (program_at ts))

-- ---- what the call answers, and what the table slice holds afterwards

abbrev pub answer_of : Read Program → Answer
answer_of (done P e) = Ok (length (encode P))
answer_of (stop r) = Err r

-- what reading the text answers, given a table slice of `room` words
unfoldable pub read_answer : List ℕ → ℕ → Answer
unfolding read_text
read_answer ts room = answer_of (read_text ts room)

abbrev pub slice_of : Read Program → List ℕ → List ℕ
slice_of (done P e) table = written (encode P) table
slice_of (stop r) table = table

-- the words of the table slice afterwards: "Every other refusal changes nothing."
unfoldable pub table_after : List ℕ → List ℕ → List ℕ
unfolding read_text
table_after ts table = slice_of (read_text ts (length table)) table
