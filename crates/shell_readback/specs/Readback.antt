-- Choices and guards in one table; and what is left of it, read back.
use Rattle.std.specs.Prelude.{Bool, not, ◌&&◌, List, map, ℕ, ◌+◌, ltb, length, get_or}
use Rattle.semantics.specs.Lists.{all, null, keep}
use Rattle.semantics.specs.Programs.{Clause, Atoms}
use Rattle.rewriting.specs.Marked.{Marked, left}
use Rattle.shell_choices.specs.Stable.{Choice, Context, StableWith}
use Rattle.shell_choices.specs.Translation.{translated}
use Rattle.shell_guards.specs.Guards.{guarded, head_below, clauses_below}

-- The clauses over n atoms, the k choices with the fresh atoms n to n + k - 1, and the guards of the atoms hs with those from n + k on.
abbrev pub table : ℕ → List Clause → List Choice → List ℕ → List Clause
table n cs ks hs = guarded (n + length ks) (translated n cs ks) hs

-- "what is left of it is written as a choice again": the choice of "atom | fresh <- body"
abbrev pub choice_of : Clause → Choice
choice_of c = record { atom = get_or c.head 0 0; pos = c.pos; neg = c.neg }

-- a clause with a choice's fresh atom: its head atoms are below top, where the guards' begin, and not all below n
abbrev pub is_choice : ℕ → ℕ → Clause → Bool
is_choice n top c = head_below top c && not (head_below n c)

unfoldable pub choices_in : ℕ → ℕ → List Clause → List Choice
choices_in n top cs = map choice_of (keep (is_choice n top) cs)

-- M is a stable model of what the clauses read as: clauses and choices, in the context; the guards are dropped
abbrev pub StableRead : ℕ → ℕ → List Clause → Context → Atoms → Type 0
StableRead n top cs sat M = StableWith n (clauses_below n cs) (choices_in n top cs) sat M

-- and of what the marks leave, read back
abbrev pub StableLeft : ℕ → ℕ → Marked → Context → Atoms → Type 0
StableLeft n top P sat M = StableRead n top (left P) sat M

-- ---- what kind 9 leaves of a choice

-- "fresh <- body", of a choice that lost its atom: there are head atoms, and none is below n
abbrev pub fresh_alone : ℕ → Clause → Bool
fresh_alone n c = not (null c.head) && all (λ a. not (ltb a n)) c.head

-- Such a clause is left out, as nothing else mentions its fresh atom. What lost its fresh atom is a clause, "atom <- body" or "<- body".
unfoldable pub told : ℕ → List Clause → List Clause
told n cs = keep (λ c. not (fresh_alone n c)) cs
