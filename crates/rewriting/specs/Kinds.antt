-- The eight kinds of step of document 01 and kind 9 of slip 8 of document 02: what each uses, what it does and what it asks for, a line a kind.
use Rattle.std.specs.Prelude.{Bool, true, false, ℕ, zero, suc}
use Rattle.rewriting.specs.declared.Kind.{Kind as CodeKind}
use Rattle.rewriting.specs.declared.Kind.TheVariants.{Tautology, Contradiction, Success, NoHead, Blocked, Failure, Loop, Subsumed, Excluded}

-- the kinds of the code, under the names that specs and proofs give them
abbrev pub Kind : Type 0
Kind = CodeKind

pattern abbrev pub tautology : Kind
tautology = Tautology

pattern abbrev pub contradiction : Kind
contradiction = Contradiction

pattern abbrev pub success : Kind
success = Success

pattern abbrev pub no_head : Kind
no_head = NoHead

pattern abbrev pub blocked : Kind
blocked = Blocked

pattern abbrev pub failure : Kind
failure = Failure

pattern abbrev pub loop : Kind
loop = Loop

pattern abbrev pub subsumed : Kind
subsumed = Subsumed

pattern abbrev pub excluded : Kind
excluded = Excluded

-- What a step does to its target: "delete", or "drop it" from the positive or the negative body; or, by slip 8, to every kept clause: it "deletes kept clauses with a in the positive
-- body and drops a from the heads and negative bodies of the other kept ones".
pub data Deed : Type 0 where
  deletes drops_pos drops_neg removes : Deed

-- the target alone is changed
abbrev pub at_target : Deed → Bool
at_target deletes = true
at_target drops_pos = true
at_target drops_neg = true
at_target removes = false

-- What a condition asks for beside its clauses: nothing; "the head of no kept clause"; "the reach" and, by slip 6, a kept head; or, by slip 8, where the atom occurs and what
-- follows from it.
pub data Scope : Type 0 where
  clauses_alone no_kept_head head_and_reach consequence : Scope

-- The number of a kind; "Kinds 1, 2, 4, 6, 7 have no partner word, kinds 3, 5, 8 no atom word", but slip 1: "The atom word of kind 3 now holds that atom, and
-- question 15 treats it as used."; slip 8, of kind 9: "the partner is unused"; what it does and asks for.
pub record Row : Type 0 where
  pub number : ℕ
  pub partner : Bool
  pub atom : Bool
  pub deed : Deed
  pub scope : Scope

abbrev row : ℕ → Bool → Bool → Deed → Scope → Row
row k p a d s = record { number = k; partner = p; atom = a; deed = d; scope = s }

abbrev pub row_of : Kind → Row
--                    number partner atom deed scope
row_of tautology = row 1 false true deletes clauses_alone
row_of contradiction = row 2 false true deletes clauses_alone
row_of success = row 3 true true drops_pos clauses_alone
row_of no_head = row 4 false true drops_neg no_kept_head
row_of blocked = row 5 true false deletes clauses_alone
row_of failure = row 6 false true deletes no_kept_head
row_of loop = row 7 false true deletes head_and_reach
row_of subsumed = row 8 true false deletes clauses_alone
row_of excluded = row 9 false true removes consequence

abbrev pub number : Kind → ℕ
number k = (row_of k).number

-- the kind of a number from 1 to 9; what other numbers give is never asked
abbrev pub kind_of : ℕ → Kind
kind_of zero = tautology
kind_of (suc zero) = tautology
kind_of (suc (suc zero)) = contradiction
kind_of (suc (suc (suc zero))) = success
kind_of (suc (suc (suc (suc zero)))) = no_head
kind_of (suc (suc (suc (suc (suc zero))))) = blocked
kind_of (suc (suc (suc (suc (suc (suc zero)))))) = failure
kind_of (suc (suc (suc (suc (suc (suc (suc zero))))))) = loop
kind_of (suc (suc (suc (suc (suc (suc (suc (suc zero)))))))) = subsumed
kind_of (suc (suc (suc (suc (suc (suc (suc (suc (suc w))))))))) = excluded

abbrev pub uses_partner : Kind → Bool
uses_partner k = (row_of k).partner

abbrev pub uses_atom : Kind → Bool
uses_atom k = (row_of k).atom

-- the step changes its target alone
abbrev pub on_target : Kind → Bool
on_target k = at_target (row_of k).deed
