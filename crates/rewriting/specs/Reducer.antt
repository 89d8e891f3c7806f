-- The reducer's choice of a step, and its list, after document 01, "Eight steps", and slip 7 of document 02.
use Rattle.std.specs.Prelude.{◌≡◌, Bool, not, ◌&&◌, ◌||◌, List, [], ◌∷◌, ℕ, ◌<◌, eqb, ltb}
use Rattle.std.proofs.Math.Bool.{So}
use Rattle.semantics.specs.Lists.{same}
use Rattle.semantics.specs.Programs.{Clause}
use Rattle.rewriting.specs.Marked.{Marked, entry}
use Rattle.rewriting.specs.Steps.{Step, applies, effect}
use Rattle.rewriting.specs.Kinds.{Kind, number}

-- "smallest by kind, then target, partner, atom"
pub data Less (s u : Step) : Type 0 where
  less_kind : number s.kind < number u.kind → Less s u
  less_target : s.kind ≡ u.kind → s.target < u.target → Less s u
  less_partner : s.kind ≡ u.kind → s.target ≡ u.target → s.partner < u.partner → Less s u
  less_atom : s.kind ≡ u.kind → s.target ≡ u.target → s.partner ≡ u.partner → s.atom < u.atom → Less s u

-- ---- the steps that the reducer passes over

-- slip 7, of two clauses: "equal in all three parts"
abbrev pub equal : Clause → Clause → Bool
equal c d = same c.head d.head && (same c.pos d.pos && same c.neg d.neg)

-- the kinds whose steps can be passed over: "of kind 5 or 8"
abbrev pub spares : Kind → Bool
spares k = eqb (number k) 5 || eqb (number k) 8

-- "Where target and partner are equal in all three parts as left, the reducer now passes over the step of kind 5 or 8 whose target is the lower number"
unfoldable pub passed_over : Marked → Step → Bool
unfolding same
passed_over P s = spares s.kind && (ltb s.target s.partner && equal (entry P s.target).clause (entry P s.partner).clause)

-- ---- the steps that it takes

-- "the rest", among which the reducer chooses: every applicable step that it does not pass over
unfoldable pub eligible : ℕ → Marked → Step → Bool
unfolding applies passed_over
eligible n P s = applies n P s && not (passed_over P s)

-- the smallest of the steps that a test lets through
pub record IsFirst (among : Marked → Step → Bool) (P : Marked) (s : Step) : Type 0 where
  pub applicable : So (among P s)
  pub smallest : (u : Step) → Less u s → ¬ So (among P u)

-- "The reducer always takes the applicable step that is smallest by kind, then target, partner, atom, until none applies"; slip 7: "and takes the smallest step of the
-- rest". Where nothing is left of the rest, no step applies (`none_applies`, `proofs/Equal`).
pub data Greedy (among : Marked → Step → Bool) : Marked → List Step → Type 0 where
  stop : {P : Marked} → ((u : Step) → ¬ So (among P u)) → Greedy among P []
  take : {P : Marked} {s : Step} {l : List Step} → IsFirst among P s → Greedy among (effect P s) l → Greedy among P (s ∷ l)
