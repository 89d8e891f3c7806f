-- What a kind does and asks for, as tests.
use Rattle.std.specs.Prelude.{Bool, true, false}
use Rattle.rewriting.specs.Kinds.{Kind, Deed, deletes, drops_pos, drops_neg, removes, Scope, clauses_alone, no_kept_head, head_and_reach, consequence, row_of}

-- a literal of the target is dropped, and the clause stays
abbrev pub dropping : Deed → Bool
dropping deletes = false
dropping drops_pos = true
dropping drops_neg = true
dropping removes = false

abbrev pub drops : Kind → Bool
drops k = dropping (row_of k).deed

abbrev pub is_no_head : Scope → Bool
is_no_head clauses_alone = false
is_no_head no_kept_head = true
is_no_head head_and_reach = false
is_no_head consequence = false

abbrev pub is_heads : Scope → Bool
is_heads clauses_alone = false
is_heads no_kept_head = true
is_heads head_and_reach = true
is_heads consequence = false

abbrev pub is_reach : Scope → Bool
is_reach clauses_alone = false
is_reach no_kept_head = false
is_reach head_and_reach = true
is_reach consequence = false

-- the atom has to be in the head of no kept clause
abbrev pub asks_no_head : Kind → Bool
asks_no_head k = is_no_head (row_of k).scope

-- which atoms are in kept heads is asked
abbrev pub asks_heads : Kind → Bool
asks_heads k = is_heads (row_of k).scope

abbrev pub asks_reach : Kind → Bool
asks_reach k = is_reach (row_of k).scope
