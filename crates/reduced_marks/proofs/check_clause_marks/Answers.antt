-- The first word, the counts, then the atoms: the first refusal of the three spans.
use Prim.Native.Nat.{◌+◌}
use mathlib.Core.Path.{refl}
use native.Mathlib.Omega.{arith}
use Rattle.std.proofs.lemmas.Result.{err_from_is_err_and}
use Rattle.table.specs.Questions.{on_walk}
use Rattle.table.specs.Places.{next_at}
use Rattle.reduced_marks.proofs.Marks.{clause_marks}
use Rattle.reduced_marks.proofs.check_clause_marks.Goals as goal

pub returns-in_err-check_span : goal.returns-in_err-check_span
unfolding on_walk
returns-in_err-check_span c =
    let p = err_from_is_err_and c.from_residual.result c.from_residual.ensures.1 in
    rw (clause_marks c.args.words.now c.args.marks.now c.args.at (c.args.at + 3) (next_at c.args.words.now c.args.at) refl refl, p.1, p.2, ← c.check_span.ensures, c.in_err-check_span.was)

pub returns-in_err-check_span-2 : goal.returns-in_err-check_span-2
unfolding on_walk
returns-in_err-check_span-2 c =
    let p = err_from_is_err_and c.from_residual-in_err-check_span-2.result c.from_residual-in_err-check_span-2.ensures.1 in
    rw (clause_marks c.args.words.now c.args.marks.now c.args.at (c.args.at + 3) (next_at c.args.words.now c.args.at) refl refl, p.1, p.2, ← c.check_span.ensures, c.in_ok-check_span.was, ← c.check_span-2.ensures, c.in_err-check_span-2.was)

pub returns : goal.returns
unfolding on_walk
returns c = rw (clause_marks c.args.words.now c.args.marks.now c.args.at (c.args.at + 3) c.next_clause.result refl (omega arith), ← c.check_span.ensures, c.in_ok-check_span.was, ← c.check_span-2.ensures, c.in_ok-check_span-2.was) c.check_span-3.ensures
