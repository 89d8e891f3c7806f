-- What the search for a cycle keeps: for each atom the place in a head at which it is, by the table's index, and along the search its
-- state as a number, 2 where it was not met, 1 where it is on the chain that is followed, and 0 where every chain from it ends.
use Rattle.std.specs.Prelude.{◌≡◌, ◌≢◌, ◌⊎◌, List, [], ◌∷◌, ℕ, ◌+◌, ◌-◌, ◌≤◌, ◌<◌, length, get_or, map, take, set, Option, Some, None, Result, Ok, Err}
use Rattle.semantics.specs.Lists.{◌∈◌}
use Rattle.semantics.specs.Programs.{Clause}
use Rattle.table.specs.Places.{start_of}
use Rattle.table.specs.Programs.{clause_of, program_of}
use Rattle.step_parts.specs.declared.Part.TheVariants.{Head}
use Rattle.step_parts.specs.Parts.{Stands, owner_at, Latest, Placed}
use Rattle.dependency.specs.Chains.{Link, Cyclic}
use Rattle.dependency.specs.Ends.{Ends}
use Rattle.step_parts.specs.declared.marked.Indexed.{Indexed}
use Rattle.cycle.specs.declared.search.State.{State}
use Rattle.cycle.specs.declared.search.State.TheVariants.{Unmet, OnChain, Ended}
use Rattle.cycle.specs.declared.search.Cycle.{Cycle}
use Rattle.cycle.specs.declared.search.Trail.{Trail}

-- no atom: past every word
abbrev pub none : ℕ
none = 65536

-- an atom, or none
abbrev pub atom_number : Option ℕ → ℕ
atom_number None = none
atom_number (Some a) = a

-- a state as a number, which the search takes down
abbrev pub rank : State → ℕ
rank Unmet = 2
rank OnChain = 1
rank Ended = 0

abbrev pub ranks : Trail → List ℕ
ranks s = map rank s.states

abbrev pub parents_of : Trail → List ℕ
parents_of s = map atom_number s.parents

-- clause c of a table
abbrev pub numbered : List ℕ → ℕ → Clause
numbered ws c = clause_of ws (start_of ws c)

-- an atom's places in heads from w down: w is one of them, or 0, and the clauses of those after it are done with
pub record Pending (ws index : List ℕ) (Done : Clause → Type 0) (a w : ℕ) : Type 0 where
  pub here : 0 < w → Stands ws Head a (get_or index (owner_at w) 0) w
  pub later : (c j : ℕ) → Stands ws Head a c j → w < j → Done (numbered ws c)

-- the chain that is followed, from its last atom back
pub data Path (ws parent : List ℕ) : ℕ → List ℕ → Type 0 where
  start : Path ws parent none []
  step : {t b : ℕ} {l : List ℕ} → Path ws parent t l → (t ≡ none) ⊎ Link (program_of ws).clauses t b → get_or parent b 0 ≡ t → ¬ (b ∈ l) → Path ws parent b (b ∷ l)

-- every atom of the clause's positive body ends
abbrev pub AllEnd : List ℕ → Clause → Type 0
AllEnd state c = (b : ℕ) → b ∈ c.pos → get_or state b 0 ≡ 0

pub record Search (ws index cur state left parent : List ℕ) (t : ℕ) : Type 0 where
  pub placed : Placed ws index
  pub places : 1024 ≤ length cur
  pub states : 1024 ≤ length state
  pub lefts : 2048 ≤ length left
  pub parents : 1024 ≤ length parent
  pub most : (c : ℕ) → get_or left c 0 ≤ 8192
  pub unended : (a : ℕ) → a < get_or ws 0 0 → get_or state a 0 ≢ 0 → Pending ws index (AllEnd state) a (get_or cur a 0)
  pub ended : (a : ℕ) → a < get_or ws 0 0 → get_or state a 0 ≡ 0 → Ends (program_of ws).clauses a
  pub seen : (c : ℕ) → c < get_or ws 1 0 → (b : ℕ) → b ∈ take (8192 - get_or left c 0) (numbered ws c).pos → get_or state b 0 ≡ 0
  pub stack : List ℕ
  pub path : Path ws parent t stack
  pub onto : (a : ℕ) → a < get_or ws 0 0 → get_or state a 0 ≡ 1 → a ∈ stack
  pub «from» : (a : ℕ) → a ∈ stack → (a < get_or ws 0 0) × (get_or state a 0 ≡ 1)

-- the sum of a list
unfoldable pub total : List ℕ → ℕ
total [] = 0
total (x ∷ l) = x + total l

-- how much of the search is left
abbrev pub size : List ℕ → List ℕ → List ℕ → ℕ
size cur state left = total cur + total state + total left

-- at the atom t, whose clause c has the atom b next in its positive body: b is on the chain that is followed, or ends, or was not met
pub data Looked (state left parent state' left' parent' : List ℕ) (t c b : ℕ) : Result (Option ℕ) Cycle → Type 0 where
  met : {e : Cycle} → get_or state b 0 ≡ 1 → Looked state left parent state' left' parent' t c b (Err e)
  over : get_or state b 0 ≡ 0 → state' ≡ state → left' ≡ set left c (get_or left c 0 - 1) → parent' ≡ parent → Looked state left parent state' left' parent' t c b (Ok (Some t))
  on : get_or state b 0 ≢ 1 → get_or state b 0 ≢ 0 → state' ≡ set state b 1 → left' ≡ left → parent' ≡ set parent b t → Looked state left parent state' left' parent' t c b (Ok (Some b))

-- moves, or one, that came to the atom t
pub record Explored (ws index cur state left parent cur' state' left' parent' : List ℕ) (t : ℕ) : Type 0 where
  pub search : Search ws index cur' state' left' parent' t
  pub falls : (a : ℕ) → get_or state' a 0 ≤ get_or state a 0
  pub curs : length cur' ≡ length cur
  pub states : length state' ≡ length state
  pub lefts : length left' ≡ length left
  pub parents : length parent' ≡ length parent

-- a move comes nearer to the end, or has found a cycle
pub record Nearer (ws index cur state left parent cur' state' left' parent' : List ℕ) (t : ℕ) : Type 0 where
  pub explored : Explored ws index cur state left parent cur' state' left' parent' t
  pub less : size cur' state' left' < size cur state left

abbrev pub moved : (ws index cur state left parent cur' state' left' parent' : List ℕ) → Result (Option ℕ) Cycle → Type 0
moved ws index cur state left parent cur' state' left' parent' (Ok t) = Nearer ws index cur state left parent cur' state' left' parent' (atom_number t)
moved ws index cur state left parent cur' state' left' parent' (Err e) = Cyclic (program_of ws).clauses

-- a whole search found a cycle, or came to its end
abbrev pub explored : (ws index cur state left parent cur' state' left' parent' : List ℕ) → Result (Unit {0}) Cycle → Type 0
explored ws index cur state left parent cur' state' left' parent' (Err e) = Cyclic (program_of ws).clauses
explored ws index cur state left parent cur' state' left' parent' (Ok u) = Explored ws index cur state left parent cur' state' left' parent' none

-- the atom a ends
pub record Visited (ws index cur state left parent cur' state' left' parent' : List ℕ) (a : ℕ) : Type 0 where
  pub explored : Explored ws index cur state left parent cur' state' left' parent' none
  pub ends : get_or state' a 0 ≡ 0

abbrev pub visited : (ws index cur state left parent cur' state' left' parent' : List ℕ) → ℕ → Result (Unit {0}) Cycle → Type 0
visited ws index cur state left parent cur' state' left' parent' a (Err e) = Cyclic (program_of ws).clauses
visited ws index cur state left parent cur' state' left' parent' a (Ok u) = Visited ws index cur state left parent cur' state' left' parent' a

-- the atoms below k are at their last places in heads
abbrev pub AtLast : List ℕ → List ℕ → List ℕ → ℕ → Type 0
AtLast ws index cur k = (a : ℕ) → a < k → Latest ws index Head a (length ws) (get_or cur a 0)

-- nothing is searched yet
pub record SearchReady (ws index cur state left parent : List ℕ) : Type 0 where
  pub placed : Placed ws index
  pub places : 1024 ≤ length cur
  pub last : AtLast ws index cur (get_or ws 0 0)
  pub states : 1024 ≤ length state
  pub lefts : 2048 ≤ length left
  pub parents : 1024 ≤ length parent
  pub unmet : (a : ℕ) → a < 1024 → get_or state a 0 ≡ 2
  pub whole : (c : ℕ) → c < 2048 → get_or left c 0 ≡ 8192
  pub most : (c : ℕ) → get_or left c 0 ≤ 8192

-- ---- the same of a table and of the code's trail

-- the search came to the atom t
abbrev pub At : Indexed → Trail → ℕ → Type 0
At table s t = Search table.words.now table.index.now s.places (ranks s) s.left (parents_of s) t

abbrev pub Start : Indexed → Trail → Type 0
Start table s = SearchReady table.words.now table.index.now s.places (ranks s) s.left (parents_of s)

abbrev pub LookedAt : Trail → Trail → ℕ → ℕ → ℕ → Result (Option ℕ) Cycle → Type 0
LookedAt s s' t c b r = (s'.places ≡ s.places) × Looked (ranks s) s.left (parents_of s) (ranks s') s'.left (parents_of s') t c b r

abbrev pub MovedTo : Indexed → Trail → Trail → Result (Option ℕ) Cycle → Type 0
MovedTo table s s' r = moved table.words.now table.index.now s.places (ranks s) s.left (parents_of s) s'.places (ranks s') s'.left (parents_of s') r

abbrev pub ExploredTo : Indexed → Trail → Trail → Result (Unit {0}) Cycle → Type 0
ExploredTo table s s' r = explored table.words.now table.index.now s.places (ranks s) s.left (parents_of s) s'.places (ranks s') s'.left (parents_of s') r

abbrev pub VisitedTo : Indexed → Trail → Trail → ℕ → Result (Unit {0}) Cycle → Type 0
VisitedTo table s s' a r = visited table.words.now table.index.now s.places (ranks s) s.left (parents_of s) s'.places (ranks s') s'.left (parents_of s') a r
