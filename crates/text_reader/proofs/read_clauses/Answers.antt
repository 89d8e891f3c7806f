-- `text_reader::read_clauses` meets its contract. The loop's invariant: the clauses read so far, and those to come from here, are all the clauses. Assumes nothing.
use mathlib.Core.Path.{refl}
use native.Mathlib.Omega.{arith}
use Rattle.text_lines.proofs.Answers.{handed_on}
use Rattle.text_reader.proofs.Clauses.{going_start, going_on, going_stop, going_end}
use Rattle.text_reader.proofs.read_clauses.Goals as goal

pub loop-k-init : goal.loop-k-init
loop-k-init c = record { same_text = refl; going = going_start _ _ _ _ _ c.args.c.inside }

pub read_clause-requires : goal.read_clause-requires
read_clause-requires c = c.loop-k.invariant.going.room

pub overflow_add-used : goal.overflow_add-used
overflow_add-used c =
    let line = rw c.loop-k.invariant.same_text at c.in_ok-line.ensures in
    omega (arith, (going_on _ _ _ _ _ _ _ _ _ c.loop-k-test.true c.loop-k.invariant.going _ _ _ line).room)

pub loop-k-preserved : goal.loop-k-preserved
loop-k-preserved c =
    let line = rw c.loop-k.invariant.same_text at c.in_ok-line.ensures in
    record { same_text = line.same_text; going = going_on _ _ _ _ _ _ _ _ _ c.loop-k-test.true c.loop-k.invariant.going _ _ _ line }

pub returns-in_err-line : goal.returns-in_err-line
returns-in_err-line c =
    rw (handed_on _ _ c.from_residual.ensures.1)
    (going_stop _ _ _ _ _ _ _ _ _ c.loop-k-test.true c.loop-k.invariant.going _ (rw c.loop-k.invariant.same_text at c.in_err-line.ensures))

pub overflow_sub-result : goal.overflow_sub-result
overflow_sub-result c = let g = c.loop-k.invariant.going in omega (arith, g.count)

pub returns : goal.returns
returns c = going_end _ _ _ _ _ _ _ _ _ c.loop-k-test.false c.loop-k.invariant.going c.loop-k.invariant.same_text
