-- Kinds by their numbers: what the word of a step's kind says.
use Rattle.std.specs.Prelude.{◌≡◌, Result, Ok, Err, ℕ}
use Rattle.rewriting.specs.declared.UnknownKind.{UnknownKind}
use Rattle.rewriting.specs.Kinds.{Kind, number}

-- "12 Is the kind 1 to 8?", by slip 8 also 9: the kind of a number, or the number of none
abbrev pub Numbers : ℕ → Result Kind UnknownKind → Type 0
Numbers w (Ok k) = number k ≡ w
Numbers w (Err e) = (e.0 ≡ w) × ((k : Kind) → number k ≡ w → ⊥)
