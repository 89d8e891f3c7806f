-- n and the number of clauses kept, then the clauses.
use lib.Seq.{length-sets}
use mathlib.Core.Path.{ap, ◌∙◌}
use native.Mathlib.Omega.{arith}
use lib.ListN.{length, length-set}
use Rattle.table.specs.Encoding.{encode}
use Rattle.table.proofs.Encoding.{passed_limits}
use Rattle.reduced_sizes.proofs.Tables.{reduced_length}
use borrow.Author.Rules.{rules}
use Rattle.reduced_copying.proofs.write_reduced.Goals as goal

pub bounds-words-0 : goal.bounds-words-0
bounds-words-0 c = let l = passed_limits _ c.requires.ready.passed in search rules

pub bounds-out-0 : goal.bounds-out-0
bounds-out-0 c = let l = reduced_length c.args.words.now c.args.marks.now in search rules

pub bounds-out-1 : goal.bounds-out-1
bounds-out-1 c = let l = reduced_length c.args.words.now c.args.marks.now in simp length-set (omega (arith, c.requires.room))

pub copy_clauses-requires : goal.copy_clauses-requires
copy_clauses-requires c = record { ready = c.requires.ready; room = simp length-set (c.requires.room) }

pub shape_of-out : goal.shape_of-out
shape_of-out c = ap length c.copy_clauses.ensures ∙ simp (length-sets, length-set)

pub returns : goal.returns
unfolding encode
returns c = c.copy_clauses.ensures ∙ rw c.left_count.ensures
