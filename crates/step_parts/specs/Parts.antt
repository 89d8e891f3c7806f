-- The parts of a clause by name, where their words stand, and what the index of a table holds.
use Rattle.std.specs.Prelude.{◌≡◌, List, [], ◌∷◌, ℕ, ◌+◌, ◌≤◌, ◌<◌, length, get_or, Option, Some, None}
use Rattle.semantics.specs.Programs.{Clause}
use Rattle.table.specs.Questions.{Passed}
use Rattle.table.specs.Places.{head_at, pos_at, neg_at, next_at, start_of}
use Rattle.step_parts.specs.declared.Part.{Part}
use Rattle.step_parts.specs.declared.Part.TheVariants.{Head, Pos, Neg}
use Rattle.step_parts.specs.declared.Bounds.{Bounds}

-- "h head atoms, p positive body atoms and q negative body atoms"
abbrev pub part_of : Part → Clause → List ℕ
part_of Head c = c.head
part_of Pos c = c.pos
part_of Neg c = c.neg

-- the words of a part of the clause whose first word is at `at`
abbrev pub span_of : List ℕ → ℕ → Part → Bounds
span_of ws at Head = record { from = head_at at; end = pos_at ws at }
span_of ws at Pos = record { from = pos_at ws at; end = neg_at ws at }
span_of ws at Neg = record { from = neg_at ws at; end = next_at ws at }

-- Atom a stands at place i, in part x of clause t.
pub record Stands (ws : List ℕ) (x : Part) (a t i : ℕ) : Type 0 where
  pub clause : t < get_or ws 1 0
  pub from : (span_of ws (start_of ws t) x).from ≤ i
  pub to : i < (span_of ws (start_of ws t) x).end
  pub atom : get_or ws i 0 ≡ a

-- The index of a table, one array: first the clauses' first words; then
-- by part and atom, the last place where the atom stands in such a part, 0 for none;
abbrev pub last_at : Part → ℕ → ℕ
last_at Head a = 2049 + a
last_at Pos a = 3073 + a
last_at Neg a = 4097 + a

-- by place, the place before it of the same atom in the same part, 0 for none;
abbrev pub before_at : ℕ → ℕ
before_at i = 5121 + i

-- by place, its clause.
abbrev pub owner_at : ℕ → ℕ
owner_at i = 13313 + i

-- i is the last place before k where atom a stands in part x, and has its clause, or it is 0 and there is none
pub record Latest (ws index : List ℕ) (x : Part) (a k i : ℕ) : Type 0 where
  pub some : 0 < i → (i < k) × Stands ws x a (get_or index (owner_at i) 0) i
  pub none : (t j : ℕ) → Stands ws x a t j → i < j → j < k → ⊥

-- A table that passed, with its starts up to clause t's and the chains of the places before k.
pub record Indexed (ws index : List ℕ) (t k : ℕ) : Type 0 where
  pub passed : Passed ws
  pub room : get_or ws 1 0 < length index
  pub long : 21505 ≤ length index
  pub at : (s : ℕ) → s ≤ t → get_or index s 0 ≡ start_of ws s
  pub last : (x : Part) (a : ℕ) → a < 1024 → Latest ws index x a k (get_or index (last_at x a) 0)
  pub before : (x : Part) (a t i : ℕ) → Stands ws x a t i → i < k → Latest ws index x a i (get_or index (before_at i) 0)

-- The whole index: at m the end of the last clause.
abbrev pub Placed : List ℕ → List ℕ → Type 0
Placed ws index = Indexed ws index (get_or ws 1 0) (length ws)

-- The same with a mark for each word.
pub record Ready (ws ms index : List ℕ) : Type 0 where
  pub placed : Placed ws index
  pub marks : length ws ≤ length ms

-- The words of a part of clause t.
pub record Spanned (ws : List ℕ) (t : ℕ) (x : Part) (r : Bounds) : Type 0 where
  pub is : r ≡ span_of ws (start_of ws t) x
  pub order : r.from ≤ r.end
  pub fits : r.end ≤ length ws

-- "Each part is strictly ascending"
pub record Ascends (part : List ℕ) : Type 0 where
  pub rises : (i j : ℕ) → i < j → j < length part → get_or part i 0 < get_or part j 0

-- r is the place of the first word that is not below the atom, or the part's end
pub record Sought (part : List ℕ) (atom r : ℕ) : Type 0 where
  pub within : r ≤ length part
  pub below : (i : ℕ) → i < r → get_or part i 0 < atom
  pub above : (i : ℕ) → r ≤ i → i < length part → atom ≤ get_or part i 0

-- the only element of a list
abbrev pub single_of : List ℕ → Option ℕ
single_of [] = None
single_of (b ∷ []) = Some b
single_of (b ∷ c ∷ l) = None
