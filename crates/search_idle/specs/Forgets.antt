-- What may follow once clauses have got definite: a set of atoms, and the constraints that are then no longer known to be idle.
use Rattle.std.specs.Prelude.{◌≡◌, Bool, ◌&&◌, List, ℕ, ◌≤◌, length, take}
use Rattle.std.proofs.Math.Bool.{So}
use Rattle.semantics.specs.Lists.{◌∈◌}
use Rattle.semantics.specs.Programs.{Atoms, Subset}
use Rattle.rewriting.specs.Marked.{Entry, Marked, entry}
use Rattle.rewriting.specs.Consequences.{definite}
use Rattle.step_parts.specs.Parts.{Stands}
use Rattle.step_parts.specs.declared.Part.{Part}
use Rattle.step_parts.specs.declared.Part.TheVariants.{Head, Neg}
use Rattle.step_reach.specs.declared.set.AtomSet.{AtomSet}
use Rattle.step_reach.specs.Bytes.{in_bytes}
use Rattle.step_reach.specs.Counts.{Queued}

-- kept, with "one head atom, no negative atoms"
abbrev pub definite_kept : Entry → Bool
definite_kept e = e.kept && definite e.clause

-- the head of such a clause is in the set
abbrev pub Heads : Atoms → Entry → Type 0
Heads F e = So (definite_kept e) → (b : ℕ) → b ∈ e.clause.head → So (F b)

-- The heads of the clauses of Q that got definite are in the set.
pub record NewHeads (P Q : Marked) (F : Atoms) : Type 0 where
  pub fresh : (t : ℕ) → ¬ So (definite (entry P t).clause) → Heads F (entry Q t)

-- The set and the queue have grown.
pub record Later (s queue : List ℕ) (top : ℕ) (s' queue' : List ℕ) (top' : ℕ) : Type 0 where
  pub more : Subset (in_bytes s) (in_bytes s')
  pub long : length s' ≡ length s
  pub longer : top ≤ top'
  pub before : (j : ℕ) → j ≤ top → take j queue' ≡ take j queue
  pub queued : Queued s' queue' top'

-- said of a set of atoms
abbrev pub HasGrown : AtomSet → AtomSet → Type 0
HasGrown s s' = Later s.bytes.now s.queue.now s.top s'.bytes.now s'.queue.now s'.top

-- The byte of clause t is not 1 any more, and no other has become 1.
pub record Forgot (idle : List ℕ) (t : ℕ) (idle' : List ℕ) : Type 0 where
  pub out : ¬ So (in_bytes idle' t)
  pub less : Subset (in_bytes idle') (in_bytes idle)

-- The set and the queue have grown, and no constraint has become idle.
pub record Onward (s queue : List ℕ) (top : ℕ) (idle s' queue' : List ℕ) (top' : ℕ) (idle' : List ℕ) : Type 0 where
  pub later : Later s queue top s' queue' top'
  pub less : Subset (in_bytes idle') (in_bytes idle)

-- said of a set of atoms
abbrev pub GoesOn : AtomSet → List ℕ → AtomSet → List ℕ → Type 0
GoesOn s idle s' idle' = Onward s.bytes.now s.queue.now s.top idle s'.bytes.now s'.queue.now s'.top idle'

-- Clause t is not idle, and where it is kept and definite its head is in the set.
pub record Met (Q : Marked) (F : Atoms) (idle : List ℕ) (t : ℕ) : Type 0 where
  pub out : ¬ So (in_bytes idle t)
  pub heads : Heads F (entry Q t)

-- So is every clause with the atom in part x, also where it was dropped.
pub record MetAt (ws : List ℕ) (Q : Marked) (x : Part) (a : ℕ) (s idle : List ℕ) : Type 0 where
  pub each : (t j : ℕ) → Stands ws x a t j → Met Q (in_bytes s) idle t

-- So is every clause with the atom in its positive body.
abbrev pub MetAll : Marked → Atoms → List ℕ → ℕ → Type 0
MetAll Q F idle a = (t : ℕ) → a ∈ (entry Q t).clause.pos → Met Q F idle t

-- And every clause with an atom of the set there.
pub record Spread (Q : Marked) (s idle s' idle' : List ℕ) : Type 0 where
  pub more : Subset (in_bytes s) (in_bytes s')
  pub less : Subset (in_bytes idle') (in_bytes idle)
  pub all : (a : ℕ) → So (in_bytes s' a) → MetAll Q (in_bytes s') idle' a

-- The heads of the kept definite clauses are in the set that have the atom in the head or the negative body, also where it was dropped.
pub record HeadsWith (ws : List ℕ) (Q : Marked) (a : ℕ) (F : Atoms) : Type 0 where
  pub head : (t j : ℕ) → Stands ws Head a t j → Heads F (entry Q t)
  pub neg : (t j : ℕ) → Stands ws Neg a t j → Heads F (entry Q t)

-- For a set of atoms of which H holds, and which holds the head of each kept definite clause with an atom of the set in its positive body: what is idle was so, and has no atom
-- of the set there.
pub record Forgets (H : Atoms → Type 0) (Q : Marked) (idle idle' : List ℕ) : Type 0 where
  pub set : Atoms
  pub heads : H set
  pub less : Subset (in_bytes idle') (in_bytes idle)
  pub all : (a : ℕ) → So (set a) → MetAll Q set idle' a
