-- The cycle answer, as document 01 has it but for slip 2 of document 02, "Negation makes no circle": "The solver side now follows Fages: only positive body atoms lead on". "Source document 000 uses the same positive
-- graph": its positive atom dependency graph, and a program without a cycle is what it calls tight.
use Rattle.std.specs.Prelude.{List, ℕ}
use Rattle.semantics.specs.Lists.{◌∈◌}
use Rattle.semantics.specs.Programs.{Clause}

module _ (cs : List Clause) where
  -- "Atom a leads to b when a clause has a in its head and b in its body", and "only positive body atoms lead on"
  pub record Link (a b : ℕ) : Type 0 where
    pub via : Clause
    pub member : via ∈ cs
    pub head : a ∈ via.head
    pub into : b ∈ via.pos

  -- "and so on along chains"
  pub data Leads (a : ℕ) : ℕ → Type 0 where
    link : {b : ℕ} → Link a b → Leads a b
    chain : {b c : ℕ} → Leads a b → Link b c → Leads a c

  -- "some atom leads back to itself"
  abbrev pub Cyclic : Type 0
  Cyclic = (a : ℕ) × Leads a a
