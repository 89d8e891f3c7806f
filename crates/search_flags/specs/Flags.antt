-- Flags in rows of 2,048: row k has those of the targets of kind k, row 8 + k those of its keys, and row 0 a single one, for the reach.
-- The flag of a target is one above the least key that it may have a step with.
-- Behind the rows stand for each row the place from which on it may have flags, and the place before which they end.
-- Behind these stands for each target one above the greatest partner of kind 3 that it was flagged for,
-- and last for each clause a number up to which all clauses from it on are gone.
use Rattle.std.specs.Prelude.{◌≡◌, ◌≢◌, List, ℕ, ◌+◌, ◌*◌, ◌≤◌, ◌<◌, length, get_or}

-- where the lower bounds stand, the upper bounds, the greatest partners and the numbers of gone clauses; and the length of all
abbrev pub lowests : ℕ
lowests = 34816

abbrev pub highests : ℕ
highests = 34833

abbrev pub mosts : ℕ
mosts = 34850

abbrev pub nexts : ℕ
nexts = 36898

abbrev pub all_flags : ℕ
all_flags = 38946

-- the flags of a row, and its two bounds
abbrev pub flag_at : List ℕ → ℕ → ℕ → ℕ
flag_at flags row i = get_or flags (row * 2048 + i) 0

abbrev pub lowest : List ℕ → ℕ → ℕ
lowest flags row = get_or flags (lowests + row) 0

abbrev pub highest : List ℕ → ℕ → ℕ
highest flags row = get_or flags (highests + row) 0

abbrev pub most : List ℕ → ℕ → ℕ
most flags t = get_or flags (mosts + t) 0

abbrev pub next : List ℕ → ℕ → ℕ
next flags p = get_or flags (nexts + p) 0

-- a place is flagged for a key, or for a lesser one
abbrev pub Flagged : List ℕ → ℕ → ℕ → ℕ → Type 0
Flagged flags row i key = (flag_at flags row i ≢ 0) × (flag_at flags row i ≤ key + 1)

-- the same of a target; for kind 3 the greatest partner is no less
abbrev pub Covered : List ℕ → ℕ → ℕ → ℕ → Type 0
Covered flags row t key = Flagged flags row t key × (row ≡ 3 → key + 1 ≤ most flags t)

-- the row has no flag outside the two places
abbrev pub Inside : List ℕ → ℕ → ℕ → ℕ → Type 0
Inside flags row low end = (i : ℕ) → i < 2048 → flag_at flags row i ≢ 0 → (low ≤ i) × (i < end)

-- The rows, with their bounds; targets are below m.
pub record Rows (m : ℕ) (flags : List ℕ) : Type 0 where
  pub long : length flags ≡ all_flags
  pub inside : (r : ℕ) → 1 ≤ r → r ≤ 16 → Inside flags r (lowest flags r) (highest flags r)
  pub high : (r : ℕ) → 1 ≤ r → r ≤ 16 → highest flags r ≤ 2048
  pub few : (r : ℕ) → 1 ≤ r → r ≤ 8 → highest flags r ≤ m

-- no flag is lost
abbrev pub NoFlagLost : List ℕ → List ℕ → Type 0
NoFlagLost flags flags' = (r i : ℕ) → r ≤ 16 → i < 2048 → flag_at flags' r i ≡ 0 → flag_at flags r i ≡ 0

-- A row got flags below a number, and no flag is lost.
pub record Raising (flags flags' : List ℕ) (row top : ℕ) : Type 0 where
  pub long : length flags' ≡ length flags
  pub grown : NoFlagLost flags flags'
  pub lower : (r i : ℕ) → r ≤ 16 → i < 2048 → flag_at flags r i ≢ 0 → flag_at flags' r i ≤ flag_at flags r i
  pub frame : (r i : ℕ) → r ≤ 16 → i < 2048 → r ≢ row → flag_at flags' r i ≡ flag_at flags r i
  pub rows : (m : ℕ) → (1 ≤ row → row ≤ 8 → top ≤ m) → Rows m flags → Rows m flags'
  pub more : (i : ℕ) → i < 2048 → most flags i ≤ most flags' i
  pub rest : (i : ℕ) → i < 2048 → next flags' i ≡ next flags i

-- every place below a number is flagged
abbrev pub AllFlagged : List ℕ → ℕ → ℕ → Type 0
AllFlagged flags row top = (i : ℕ) → i < top → flag_at flags row i ≢ 0

-- A row's bounds are drawn closer, and its flags stay.
pub record Fenced (flags flags' : List ℕ) (row low end : ℕ) : Type 0 where
  pub long : length flags' ≡ length flags
  pub same : (r i : ℕ) → r ≤ 16 → i < 2048 → flag_at flags' r i ≡ flag_at flags r i
  pub rows : (m : ℕ) → Rows m flags → Inside flags row low end → end ≤ 2048 → (row ≤ 8 → end ≤ m) → Rows m flags'
  pub more : (i : ℕ) → i < 2048 → most flags i ≤ most flags' i
  pub rest : (i : ℕ) → i < 2048 → next flags' i ≡ next flags i
