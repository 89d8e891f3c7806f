-- `text_writer::Output::put_clause` meets its contract. The three lines. Assumes nothing.
use native.Mathlib.Omega.{arith}
use Rattle.table.specs.Programs.{clause_of}
use Rattle.text_writer.proofs.Laws.{puts_long}
use Rattle.text_writer.proofs.Tables.{clause_length, clause_puts, head_is, pos_is, neg_is}
use Rattle.text_writer.proofs.Output.put_clause.Goals as goal

pub put_line-requires : goal.put_line-requires
put_line-requires c =
    rw (head_is c.args.words.now c.args.place _ _ _ c.from.ensures c.from-2.ensures c.from-3.ensures)
    (omega (arith, c.requires.room, clause_length (clause_of c.args.words.now c.args.place)))

pub put_line-requires-2 : goal.put_line-requires-2
put_line-requires-2 c =
    let a = rw (head_is c.args.words.now c.args.place _ _ _ c.from.ensures c.from-2.ensures c.from-3.ensures) at c.put_line.ensures.written in
    rw (pos_is c.args.words.now c.args.place _ _ _ c.from.ensures c.from-2.ensures c.from-3.ensures)
    (omega (arith, c.requires.room, clause_length (clause_of c.args.words.now c.args.place), a.next, puts_long _ _ _ _ _ a))

pub put_line-requires-3 : goal.put_line-requires-3
put_line-requires-3 c =
    let a = rw (head_is c.args.words.now c.args.place _ _ _ c.from.ensures c.from-2.ensures c.from-3.ensures) at c.put_line.ensures.written in
    let b = rw (pos_is c.args.words.now c.args.place _ _ _ c.from.ensures c.from-2.ensures c.from-3.ensures) at c.put_line-2.ensures.written in
    rw (neg_is c.args.words.now c.args.place _ _ _ c.from.ensures c.from-2.ensures c.from-3.ensures)
    (omega (arith, c.requires.room, clause_length (clause_of c.args.words.now c.args.place), a.next, puts_long _ _ _ _ _ a, b.next, puts_long _ _ _ _ _ b))

pub returns-clause-written : goal.returns-clause-written
returns-clause-written c =
    clause_puts (clause_of c.args.words.now c.args.place) _ _ _ _ _ _ _ _
    (rw (head_is c.args.words.now c.args.place _ _ _ c.from.ensures c.from-2.ensures c.from-3.ensures) at c.put_line.ensures.written)
    (rw (pos_is c.args.words.now c.args.place _ _ _ c.from.ensures c.from-2.ensures c.from-3.ensures) at c.put_line-2.ensures.written)
    (rw (neg_is c.args.words.now c.args.place _ _ _ c.from.ensures c.from-2.ensures c.from-3.ensures) at c.put_line-3.ensures.written)
