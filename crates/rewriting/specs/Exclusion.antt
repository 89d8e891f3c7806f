-- Kind 9, "Atoms that can't be", after slip 8 of document 02: when a constraint excludes an atom, and what is left of a program without it.
use Rattle.std.specs.Prelude.{Bool, true, not, cond, ◌&&◌, ◌||◌, List, map, ℕ}
use Rattle.semantics.specs.Lists.{any, all, null, mem, without}
use Rattle.semantics.specs.Programs.{Clause}
use Rattle.rewriting.specs.Marked.{Entry, Marked, deleted}
use Rattle.rewriting.specs.Consequences.{consequences}

-- "a kept constraint with at least one positive and no negative atom"
abbrev pub plain_constraint : Clause → Bool
plain_constraint c = null c.head && (null c.neg && not (null c.pos))

-- the atom is in one of the clause's three parts
abbrev pub occurs : ℕ → Clause → Bool
occurs a c = mem a c.head || (mem a c.pos || mem a c.neg)

-- "the atom a occurs in a kept clause. .. The step applies when the target's positive atoms are all in D.", with the kept clauses cs and the target c
unfoldable pub excludes : List Clause → Clause → ℕ → Bool
unfolding consequences
excludes cs c a = plain_constraint c && (any (occurs a) cs && all (consequences cs a) c.pos)

-- "It deletes kept clauses with a in the positive body and drops a from the heads and negative bodies of the other kept ones.": what is left of a kept clause
abbrev pub lacking : ℕ → Clause → Entry
lacking a c = cond (mem a c.pos) (deleted c) (record { kept = true; clause = record { head = without a c.head; pos = c.pos; neg = without a c.neg } })

-- of an entry: one that is gone stays as it is
abbrev pub lacking_of : ℕ → Entry → Entry
lacking_of a e = cond e.kept (lacking a e.clause) e

-- and of a marked program
unfoldable pub removal : ℕ → Marked → Marked
removal a P = map (lacking_of a) P
