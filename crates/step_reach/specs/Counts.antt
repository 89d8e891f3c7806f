-- The reach by counts and a queue: the atoms of the set in the order in which they joined, of which the first k are taken; and for each clause
-- how many of its positive atoms are not among those.
use Rattle.std.specs.Prelude.{◌≡◌, not, cond, List, ℕ, ◌-◌, ◌≤◌, ◌<◌, eqb, length, get_or, take, set}
use Rattle.std.proofs.Math.Bool.{So}
use Rattle.semantics.specs.Lists.{◌∈◌, mem, count}
use Rattle.semantics.specs.Programs.{Atoms, Subset}
use Rattle.rewriting.specs.Marked.{Entry, Marked, entry, left}
use Rattle.rewriting.specs.Reach.{closed}
use Rattle.table.specs.View.{view}
use Rattle.step_reach.specs.Bytes.{in_bytes, Grown, ReachedWith}

-- how many bytes are 1
abbrev pub ones : List ℕ → ℕ
ones s = count (λ x. eqb x 1) s

-- The first `top` words of the queue are the atoms of the set, each once, and all below 1,024.
pub record Queued (s queue : List ℕ) (top : ℕ) : Type 0 where
  pub same : (a : ℕ) → in_bytes s a ≡ mem a (take top queue)
  pub once : (j : ℕ) → j < top → ¬ (get_or queue j 0 ∈ take j queue)
  pub below : (a : ℕ) → a ∈ take top queue → a < 1024
  pub size : top ≡ ones (take 1024 s)
  pub room : 1024 ≤ length queue

-- The atoms of X have joined the set and the queue.
pub record Joined (X : ℕ → Type 0) (s queue : List ℕ) (top : ℕ) (s' queue' : List ℕ) (top' : ℕ) : Type 0 where
  pub holds : (a : ℕ) → X a → So (in_bytes s' a)
  pub only : (T : Atoms) → Subset (in_bytes s) T → ((a : ℕ) → X a → So (T a)) → Subset (in_bytes s') T
  pub more : Subset (in_bytes s) (in_bytes s')
  pub long : length s' ≡ length s
  pub longer : top ≤ top'
  pub before : (j : ℕ) → j ≤ top → take j queue' ≡ take j queue
  pub queued : Queued s' queue' top'

-- The set and the queue have grown: what joined lies in every closed set that holds what was there.
pub record QueueSpread (P : Marked) (s queue : List ℕ) (top : ℕ) (s' queue' : List ℕ) (top' : ℕ) : Type 0 where
  pub grown : Grown P s s'
  pub more : Subset (in_bytes s) (in_bytes s')
  pub longer : top ≤ top'
  pub before : (j : ℕ) → j ≤ top → take j queue' ≡ take j queue
  pub queued : Queued s' queue' top'

-- how many positive atoms of clause t are not among the atoms taken
abbrev pub lacks : List ℕ → List ℕ → List ℕ → ℕ → ℕ
lacks ws ms taken t = count (λ a. not (mem a taken)) (entry (view ws ms) t).clause.pos

-- the head of a kept clause whose count is 0 is in the set
abbrev pub Fired : List ℕ → Entry → ℕ → Type 0
Fired s e c = So e.kept → c ≡ 0 → (a : ℕ) → a ∈ e.clause.head → So (in_bytes s a)

-- Between two atoms, the first k taken, of the clauses before m: their counts are right, and heads have joined where the count is 0.
pub record Rest (ws ms : List ℕ) (m k : ℕ) (s missing queue : List ℕ) (top : ℕ) : Type 0 where
  pub queued : Queued s queue top
  pub taken : k ≤ top
  pub exact : (t : ℕ) → t < m → get_or missing t 0 ≡ lacks ws ms (take k queue) t
  pub heads : (t : ℕ) → t < m → Fired s (entry (view ws ms) t) (get_or missing t 0)

-- Room for a count of each clause, and a byte for each atom.
pub record CountRoom (ws s missing : List ℕ) : Type 0 where
  pub bytes : get_or ws 0 0 ≤ length s
  pub counts : 2048 ≤ length missing

-- Where place i is kept, a positive atom of clause t is still to be counted off; and the last one leaves none outside the set.
pub record Due (ws ms s missing : List ℕ) (t i : ℕ) : Type 0 where
  pub some : get_or ms i 0 ≡ 1 → 0 < get_or missing t 0
  pub last : get_or ms i 0 ≡ 1 → get_or missing t 0 ≡ 1 → (a : ℕ) → a ∈ (entry (view ws ms) t).clause.pos → So (in_bytes s a)

-- It is counted off, and the clause's head has joined where that was the last.
pub record Lowered (ws ms s missing queue : List ℕ) (top t i : ℕ) (s' missing' queue' : List ℕ) (top' : ℕ) : Type 0 where
  pub spread : QueueSpread (view ws ms) s queue top s' queue' top'
  pub counts : missing' ≡ cond (eqb (get_or ms i 0) 1) (set missing t (get_or missing t 0 - 1)) missing
  pub fired : get_or ms i 0 ≡ 1 → Fired s' (entry (view ws ms) t) (get_or missing' t 0)

-- The reach with its counts and its queue: within every closed set, and every atom is taken.
pub record ReachSettled (ws ms s missing queue : List ℕ) (top : ℕ) : Type 0 where
  pub within : (T : Atoms) → So (closed T (left (view ws ms))) → Subset (in_bytes s) T
  pub rest : Rest ws ms (get_or ws 1 0) top s missing queue top

-- One atom more, and all that follows from it: every atom is taken again, and what stood in the queue still stands there.
pub record WithSettled (ws ms : List ℕ) (a : ℕ) (queue : List ℕ) (top : ℕ) (s' missing' queue' : List ℕ) (top' : ℕ) : Type 0 where
  pub reached : ReachedWith ws ms a s'
  pub rest : Rest ws ms (get_or ws 1 0) top' s' missing' queue' top'
  pub longer : top ≤ top'
  pub before : take top queue' ≡ take top queue
