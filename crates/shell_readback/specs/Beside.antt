-- What may stand beside a table for lists of the nine kinds: what has no atom in common with it, as "A fact that no other clause mentions".
use Rattle.std.specs.Prelude.{◌≡◌, ℕ}
use Rattle.std.proofs.Math.Bool.{So}
use Rattle.semantics.specs.Programs.{Clause, Atoms}
use Rattle.rewriting.specs.Exclusion.{occurs}
use Rattle.shell_choices.specs.Stable.{Context}

-- no atom of F occurs in the clause
abbrev pub Apart : Atoms → Clause → Type 0
Apart F c = (a : ℕ) → So (F a) → ¬ So (occurs a c)

-- the two sets have the same atoms of F
abbrev pub AgreeOn : Atoms → Atoms → Atoms → Type 0
AgreeOn F M N = (a : ℕ) → So (F a) → M a ≡ N a

-- the context asks for the atoms of F alone
abbrev pub Sees : Atoms → Context → Type 0
Sees F sat = (M N X Y : Atoms) → AgreeOn F M N → AgreeOn F X Y → sat M X → sat N Y
