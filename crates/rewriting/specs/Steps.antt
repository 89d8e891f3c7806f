-- The nine steps, after document 01, "Eight steps", and slips 1, 6 and 8 of document 02.
use Rattle.std.specs.Prelude.{Bool, true, not, cond, ◌&&◌, List, ℕ, eqb, ltb, set}
use Rattle.semantics.specs.Lists.{any, null, single, mem, within, without}
use Rattle.semantics.specs.Programs.{Clause}
use Rattle.rewriting.specs.Marked.{Entry, Marked, entry, left, deleted}
use Rattle.rewriting.specs.Reaches.{reach}
use Rattle.rewriting.specs.Kinds.{Kind, tautology, contradiction, success, no_head, blocked, failure, loop, subsumed, excluded, Deed, deletes, drops_pos, drops_neg, removes, row_of, number, uses_partner, uses_atom, on_target}
use Rattle.rewriting.specs.Exclusion.{excludes, lacking, removal}

-- "A list is a slice of words, four a step: kind, target, partner, atom."
pub record Step : Type 0 where
  pub kind : Kind
  pub target : ℕ
  pub partner : ℕ
  pub atom : ℕ

abbrev pub step : Kind → ℕ → ℕ → ℕ → Step
step k t p a = record { kind = k; target = t; partner = p; atom = a }

-- "one with p = q = 0 is a fact, even where h is 0 or above 1"
abbrev pub fact : Clause → Bool
fact d = null d.pos && null d.neg

-- the atom is in the head of no clause
unfoldable pub in_no_head : List Clause → ℕ → Bool
in_no_head cs a = not (any (λ c. mem a c.head) cs)

-- slip 6, of the atom that a step of the kind names, among the kept clauses: "A step of kind 7 whose atom is in no kept head, in the target's body or not, is now
-- turned down; a failure must be kind 6."
abbrev pub headed : Kind → List Clause → ℕ → Bool
headed k cs a = not (eqb (number k) 7 && in_no_head cs a)

-- Each kind's condition, with the kept clauses cs, the target c, the partner d and the atom a, all as left:
-- 1 "the atom is in the target's head and its positive body"
-- 2 "the atom is in its positive and negative body"
-- 3 "the partner is a fact with exactly one head atom, which is in the target's positive body"; slip 1: "The atom word of kind 3 now holds that atom"
-- 4 "the atom is in its negative body and in the head of no kept clause"
-- 5 "the partner is a fact whose head atoms are all in the target's negative body"
-- 6 "the atom is in its positive body and in the head of no kept clause"
-- 7 "the atom is in its positive body and outside the reach"; slip 6: and in the head of a kept clause, as 32 asks
-- 8 "each of the partner's three parts is within the target's same part"
-- 9, slip 8: "The target is a kept constraint with at least one positive and no negative atom; .. the atom a occurs in a kept clause. .. the target's positive atoms are all in D."
unfoldable pub condition : Kind → List Clause → Clause → Clause → ℕ → Bool
unfolding in_no_head reach excludes
condition tautology cs c d a = mem a c.head && mem a c.pos
condition contradiction cs c d a = mem a c.pos && mem a c.neg
condition success cs c d a = fact d && (single (eqb a) d.head && mem a c.pos)
condition no_head cs c d a = mem a c.neg && in_no_head cs a
condition blocked cs c d a = fact d && within d.head c.neg
condition failure cs c d a = mem a c.pos && in_no_head cs a
condition loop cs c d a = mem a c.pos && (headed loop cs a && not (reach cs a))
condition subsumed cs c d a = within d.head c.head && (within d.pos c.pos && within d.neg c.neg)
condition excluded cs c d a = excludes cs c a

-- 13 "Is the target below m and kept?"
abbrev pub target_kept : Marked → Step → Bool
target_kept P s = (entry P s.target).kept

-- 14 "Is the partner below m, kept and another clause, or 0 where unused?"
abbrev pub partner_kept : Marked → Step → Bool
partner_kept P s = cond (uses_partner s.kind) ((entry P s.partner).kept && not (eqb s.partner s.target)) (eqb s.partner 0)

-- 15 "Is the atom below n, or 0 where unused?"
abbrev pub atom_known : ℕ → Step → Bool
atom_known n s = cond (uses_atom s.kind) (ltb s.atom n) (eqb s.atom 0)

-- 29, slip 1: a no is "for kind 3 only, where the partner's head as left is one atom and the word differs from it"
abbrev pub atom_matches : Marked → Step → Bool
atom_matches P s = not (eqb (number s.kind) 3 && single (λ b. not (eqb s.atom b)) (entry P s.partner).clause.head)

-- 32, slip 6: "Such steps get 32"
unfoldable pub atom_headed : Marked → Step → Bool
unfolding in_no_head left
atom_headed P s = headed s.kind (left P) s.atom

-- 16 "Does the kind's condition hold?"
unfoldable pub condition_holds : Marked → Step → Bool
unfolding condition left
condition_holds P s = condition s.kind (left P) (entry P s.target).clause (entry P s.partner).clause s.atom

-- the step is applicable: questions 13 to 16; where 16 is answered yes, so are 29 and 32 (`condition_matches`, `condition_headed`, `proofs/Rows`)
unfoldable pub applies : ℕ → Marked → Step → Bool
unfolding condition_holds
applies n P s = target_kept P s && (partner_kept P s && (atom_known n s && condition_holds P s))

abbrev pub drop_pos : ℕ → Clause → Entry
drop_pos a c = record { kept = true; clause = record { head = c.head; pos = without a c.pos; neg = c.neg } }

abbrev pub drop_neg : ℕ → Clause → Entry
drop_neg a c = record { kept = true; clause = record { head = c.head; pos = c.pos; neg = without a c.neg } }

-- what a deed leaves of a clause c that it works on, with the atom a that the step names
abbrev pub left_by : Deed → ℕ → Clause → Entry
left_by deletes a c = deleted c
left_by drops_pos a c = drop_pos a c
left_by drops_neg a c = drop_neg a c
left_by removes a c = lacking a c

-- kinds 1 to 8 work on the target, kind 9 on every kept clause
unfoldable pub effect : Marked → Step → Marked
unfolding removal
effect P s = cond (on_target s.kind) (set P s.target (left_by (row_of s.kind).deed s.atom (entry P s.target).clause)) (removal s.atom P)
