-- What the functions below the reader's and the writer's call answer and store.
use Rattle.std.specs.Prelude.{ℕ, ◌+◌, ◌≤◌, ◌<◌, ◌≡◌, ◌↔◌, List, [], ◌∷◌, Bool, true, false, length, get_or, Option, Some, None, Result, Ok, Err}
use Rattle.std.specs.Borrow.{Bor}
use Rattle.std.proofs.lemmas.List.Edits.{sets}
use Rattle.semantics.specs.Lists.{◌∈◌, keep}
use Rattle.sorting.specs.Sorting.{below, sorted}
use Rattle.table.specs.Places.{cut}
use Rattle.text_form.specs.declared.Disorder.{Disorder}
use Rattle.text_form.specs.declared.Disorder.TheVariants.{Unordered, Malformed}
use Rattle.text_form.specs.declared.Item.{Item}
use Rattle.text_form.specs.declared.Line.{Line}
use Rattle.answers.specs.declared.Refusal.{Refusal}
use Rattle.text_form.specs.Reader.{Read, done, stop, Value, span_at, Scanned, emit, scan, Next, Digit, Comma, Bad, next_of}

-- ---- a value

-- v is the value of the line at `at`
pub record Stands (ts key : List ℕ) (at : ℕ) (v : List ℕ) : Type 0 where
  pub span : span_at ts key at ≡ Value (at + length key) (at + length key + length v)
  pub value : cut ts (at + length key) (length v) ≡ v
  pub inside : at + length key + length v < length ts

-- what a byte is after the number so far, if one has begun
abbrev pub next_after : Option ℕ → ℕ → Next
next_after None b = next_of false 0 b
next_after (Some v) b = next_of true v b

-- the number with that digit, where it is one
abbrev pub digit_of : Next → Option ℕ
digit_of (Digit w) = Some w
digit_of Comma = None
digit_of Bad = None

-- a number goes on
abbrev pub on_digit : Option ℕ → (ℕ → Option ℕ) → Option ℕ
on_digit (Some w) f = f w
on_digit None f = None

-- what is scanned of what stands behind a number: the numbers behind its comma, or nothing behind the last number
abbrev pub scan_rest : Option (Bor (List ℕ)) → Scanned
scan_rest (Some rest) = scan false 0 rest.now
scan_rest None = record { ok = true; xs = [] }

-- how many bytes stand there
abbrev pub bytes_left : Option (Bor (List ℕ)) → ℕ
bytes_left (Some rest) = length rest.now
bytes_left None = 0

-- a value in form as far as its first number, which is followed by the rest
pub record Begins (l : List ℕ) (item : Item) : Type 0 where
  pub four_digits : item.number ≤ 9999
  pub shorter : bytes_left item.rest < length l
  pub scanned : scan false 0 l ≡ emit item.number (scan_rest item.rest)

-- the number that a whole value is, of which `so_far` stands before; or none in form
unfoldable pub field_number : Option ℕ → List ℕ → Option ℕ
field_number so_far [] = so_far
field_number so_far (b ∷ l) = on_digit (digit_of (next_after so_far b)) (λ w. field_number (Some w) l)

-- the numbers of a value in form, sorted and each once: there are k, and they are stored over the words w, from the first on
pub record Keeps (s : Scanned) (k : ℕ) (w w' : List ℕ) : Type 0 where
  pub ok : s.ok ≡ true
  pub count : length (sorted s.xs) ≡ k
  pub stored : w' ≡ sets w 0 (sorted s.xs)

-- or the value is not in form
abbrev pub Sorts : Scanned → Option ℕ → List ℕ → List ℕ → Type 0
Sorts s (Some k) w w' = Keeps s k w w'
Sorts s None w w' = s.ok ≡ false

-- those stored before a number that is not above the one before it: no more than will be kept
pub record Breaks (s : Scanned) (w w' : List ℕ) : Type 0 where
  pub first : List ℕ
  pub fewer : length first ≤ length (sorted s.xs)
  pub stored : w' ≡ sets w 0 first

abbrev pub Scans : Scanned → Result ℕ Disorder → List ℕ → List ℕ → Type 0
Scans s (Ok k) w w' = Keeps s k w w'
Scans s (Err Unordered) w w' = Breaks s w w'
Scans s (Err Malformed) w w' = s.ok ≡ false

-- the numbers of a value are marked, and all of them are below `top`
pub record Marked (s : Scanned) (top : ℕ) (marks : List Bool) : Type 0 where
  pub ok : s.ok ≡ true
  pub one : (a : ℕ) → (get_or marks a false ≡ true) ↔ (a ∈ s.xs)
  pub under : (a : ℕ) → a ∈ s.xs → a < top
  pub room : top ≤ length marks

-- or the value is not in form
abbrev pub Marks : Scanned → Option ℕ → List Bool → Type 0
Marks s (Some top) marks = Marked s top marks
Marks s None marks = s.ok ≡ false

-- the numbers marked, ascending
unfoldable pub marked_of : List Bool → List ℕ
unfolding below
marked_of marks = keep (λ a. get_or marks a false) (below (length marks))

-- ---- a line

-- a function that reads has answered a number, with what is left of the same text, or the first question answered no
abbrev pub Numbers : Read ℕ → List ℕ → Result Line Refusal → Type 0
Numbers x text (Ok line) = (x ≡ done line.count line.next.at) × (line.next.text.now ≡ text)
Numbers x text (Err r) = x ≡ stop r

module _ {A : Type 0} (words : A → List ℕ) where
  -- a thing was read: its words are counted, and stand from `used` on, and what is left of the same text is past it
  pub record Held (x : Read A) (text : List ℕ) (line : Line) (used : ℕ) (w w' : List ℕ) : Type 0 where
    pub thing : A
    pub read : x ≡ done thing line.next.at
    pub count : length (words thing) ≡ line.count
    pub stored : w' ≡ sets w used (words thing)
    pub same_text : line.next.text.now ≡ text

  -- so a function that reads has answered, or the first question answered no
  abbrev pub Stores : Read A → List ℕ → Result Line Refusal → ℕ → List ℕ → List ℕ → Type 0
  Stores x text (Ok line) used w w' = Held x text line used w w'
  Stores x text (Err r) used w w' = x ≡ stop r

abbrev pub list_words : List ℕ → List ℕ
list_words xs = xs

-- the bytes bs stand from `at` on, and `to` is the place past them
pub record Puts (old new : List ℕ) (at to : ℕ) (bs : List ℕ) : Type 0 where
  pub next : to ≡ at + length bs
  pub holds : new ≡ sets old at bs
