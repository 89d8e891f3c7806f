-- What is flagged once an atom went, by the clauses that have it in the table, also where it was dropped before.
use Rattle.std.specs.Prelude.{◌≢◌, List, ℕ, ◌<◌}
use Rattle.rewriting.specs.Marked.{Marked, entry}
use Rattle.step_parts.specs.Parts.{Stands}
use Rattle.step_parts.specs.declared.Part.{Part}
use Rattle.step_parts.specs.declared.Part.TheVariants.{Head, Pos, Neg}
use Rattle.search_flags.specs.Flags.{flag_at}
use Rattle.search_openings.specs.Opened.{PartnerFresh, AtomFresh, AllFresh}

-- Clause t, which had the atom in part x: one that lost it is a fresh partner, of one that is gone the head's atoms are fresh.
abbrev pub OpenAt : Marked → List ℕ → Part → ℕ → Type 0
OpenAt Q flags Head t = PartnerFresh flags t
OpenAt Q flags Pos t = AllFresh flags (entry Q t).clause.head
OpenAt Q flags Neg t = PartnerFresh flags t

-- So is every clause with the atom in that part.
pub record OpenAll (ws : List ℕ) (Q : Marked) (flags : List ℕ) (x : Part) (a : ℕ) : Type 0 where
  pub each : (t j : ℕ) → Stands ws x a t j → OpenAt Q flags x t

-- So with each part.
abbrev pub OpenParts : List ℕ → Marked → List ℕ → ℕ → Type 0
OpenParts ws Q flags a = (x : Part) → OpenAll ws Q flags x a

-- Atom a went, and Q is left: the reach is to be found anew, and the clauses and the atom are flagged.
pub record RemovalOpen (ws : List ℕ) (Q : Marked) (flags : List ℕ) (a : ℕ) : Type 0 where
  pub reach : flag_at flags 0 0 ≢ 0
  pub atom : a < 1024 → AtomFresh flags a
  pub parts : OpenParts ws Q flags a
