-- The search in two parts: kinds 1 to 8 by their flags, then kind 9.
use Rattle.std.proofs.Math.Option.{Option}
use Rattle.std.specs.Prelude.{ℕ, suc}
use Rattle.rewriting.specs.Marked.{Marked}
use Rattle.rewriting.specs.Kinds.{kind_of}
use Rattle.rewriting.specs.Steps.{Step}
use Rattle.rewriting.specs.Search.{least, first_target}

-- the smallest eligible step of kinds 1 to 8
unfoldable pub first_flagged : ℕ → Marked → Option Step
unfolding least first_target
first_flagged n P = least 8 (λ i. first_target n P (kind_of (suc i)))
