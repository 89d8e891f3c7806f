-- `text_writer::Output::put_clauses` meets its contract. The loop's invariant: the text of the clauses left, written from here on, gives that of all. Assumes nothing.
use Prim.Native.Nat.{◌-◌}
use mathlib.Core.Path.{◌≡◌, refl, ap, ◌∙◌}
use native.Mathlib.Omega.{arith}
use lib.ListN.{get_or}
use Rattle.table.specs.Programs.{clauses_of}
use Rattle.table.proofs.Encoding.{passed_limits}
use Rattle.table.proofs.Walks.{along_start, along_fits, along_next}
use Rattle.text_form.specs.Render.{clauses_text}
use Rattle.text_writer.proofs.Laws.{puts_long, left_start, left_end}
use Rattle.text_writer.proofs.Tables.{clauses_room, clauses_on, clauses_none}
use Rattle.text_writer.proofs.Output.put_clauses.Goals as goal

pub bounds-words-1 : goal.bounds-words-1
bounds-words-1 c = omega (arith, (passed_limits _ c.requires.passed).long)

pub loop-k-init : goal.loop-k-init
loop-k-init c =
    let q : get_or c.args.words.now 1 0 - 0 ≡ get_or c.args.words.now 1 0 = omega arith in
    record { same_reference = refl; along = along_start _; left = left_start _ _ _ _ (ap (λ z. clauses_text (clauses_of c.args.words.now z 2)) q) }

pub put_clause-requires-clause-inside : goal.put_clause-requires-clause-inside
put_clause-requires-clause-inside c = along_fits _ _ _ c.requires.passed c.loop-k-test.true c.loop-k.invariant.along

pub put_clause-requires-clause-room : goal.put_clause-requires-clause-room
put_clause-requires-clause-room c = clauses_room _ _ _ _ c.loop-k-test.true _ _ _ _ _ c.loop-k.invariant.left c.requires.room

pub next_clause-place-requires : goal.next_clause-place-requires
next_clause-place-requires c = along_fits _ _ _ c.requires.passed c.loop-k-test.true c.loop-k.invariant.along

pub loop-k-preserved : goal.loop-k-preserved
loop-k-preserved c =
    rw c.next_clause-place.ensures (record {
      same_reference = c.put_clause.ensures.same_reference ∙ c.loop-k.invariant.same_reference;
      along = along_next _ _ _ c.loop-k-test.true c.loop-k.invariant.along;
      left = clauses_on _ _ _ _ c.loop-k-test.true _ _ _ _ _ c.loop-k.invariant.left _ _ (puts_long _ _ _ _ _ c.put_clause.ensures.written) c.put_clause.ensures.written;
    })

pub returns-clause-written : goal.returns-clause-written
returns-clause-written c = left_end _ _ _ _ _ _ c.loop-k.invariant.left (clauses_none _ _ _ _ c.loop-k-test.false)
