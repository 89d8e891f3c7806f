-- Atoms from which no chain goes on for ever.
use Rattle.std.specs.Prelude.{List, ℕ}
use Rattle.semantics.specs.Programs.{Clause}
use Rattle.dependency.specs.Chains.{Link}

pub data Ends (cs : List Clause) : ℕ → Type 0 where
  ends : {a : ℕ} → ((b : ℕ) → Link cs a b → Ends cs b) → Ends cs a
