-- What is known beside the marks: kept heads of an atom, the reach; and a step of the code as a step.
use Rattle.std.specs.Prelude.{◌≡◌, List, ℕ, ◌+◌, ◌-◌, ◌<◌, length, get_or}
use Rattle.std.proofs.Math.Bool.{So}
use Rattle.semantics.specs.Lists.{◌∈◌, count, mem, bit}
use Rattle.semantics.specs.Programs.{Clause}
use Rattle.rewriting.specs.Marked.{left}
use Rattle.rewriting.specs.Steps.{step}
use Rattle.rewriting.specs.Kinds.{Kind}
use Rattle.rewriting.specs.Uses.{asks_heads, asks_reach}
use Rattle.rewriting.specs.Steps as steps
use Rattle.table.specs.View.{view}
use Rattle.table.specs.Effects.{find}
use Rattle.step_parts.specs.declared.Part.{Part}
use Rattle.step_parts.specs.Parts.{span_of}
use Rattle.step_reach.specs.Bytes.{Reached}
use Rattle.step_conditions.specs.declared.Step.{Step}

-- how many clauses have the atom in their head
abbrev pub head_count : List Clause → ℕ → ℕ
head_count cs a = count (λ c. mem a c.head) cs

-- For each atom the number of kept clauses with the atom in their head.
pub record Heads (ws ms heads : List ℕ) : Type 0 where
  pub is : (a : ℕ) → get_or heads a 0 ≡ head_count (left (view ws ms)) a

-- One more at each atom of a list.
pub record Tallied (l s s' : List ℕ) : Type 0 where
  pub same : length s' ≡ length s
  pub at : (a : ℕ) → a < length s → get_or s' a 0 ≡ get_or s a 0 + bit (mem a l)

-- The count of each atom of a list is above 0.
pub record Positive (l s : List ℕ) : Type 0 where
  pub above : (a : ℕ) → a ∈ l → 0 < get_or s a 0

-- What a kind asks of the whole program is known.
pub record Known (k : Kind) (ws ms hs rs : List ℕ) : Type 0 where
  pub heads : So (asks_heads k) → Heads ws ms hs
  pub reached : So (asks_reach k) → Reached ws ms rs

-- the place of the first word of a part that is the atom
abbrev pub place_in : List ℕ → ℕ → Part → ℕ → ℕ
place_in ws at x a = find ws a (span_of ws at x).from ((span_of ws at x).end - (span_of ws at x).from)

-- "four a step: kind, target, partner, atom"
abbrev pub step_of : Step Kind → steps.Step
step_of s = step s.kind s.target s.partner s.atom
