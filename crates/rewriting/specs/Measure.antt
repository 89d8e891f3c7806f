-- What every step takes from, exactly one but for kind 9: kept clauses plus literals, those of heads too.
use Rattle.std.specs.Prelude.{ℕ, ◌+◌, [], ◌∷◌, length}
use Rattle.semantics.specs.Lists.{bit}
use Rattle.rewriting.specs.Marked.{Entry, Marked}

unfoldable pub weight : Entry → ℕ
weight e = bit e.kept + (length e.clause.head + (length e.clause.pos + length e.clause.neg))

unfoldable pub measure : Marked → ℕ
unfolding weight
measure [] = 0
measure (e ∷ P) = weight e + measure P
