-- `text_writer::Output::put_text` meets its contract. The first two lines, then the clauses. Assumes nothing.
use native.Mathlib.Omega.{arith}
use mathlib.Core.Path.{refl}
use Rattle.table.proofs.Encoding.{passed_limits}
use Rattle.text_writer.proofs.Laws.{puts_long}
use Rattle.text_writer.proofs.Tables.{text_length, text_puts}
use Rattle.text_writer.proofs.Output.put_text.Goals as goal

pub bounds-words-0 : goal.bounds-words-0
bounds-words-0 c = omega (arith, (passed_limits _ c.requires.passed).long)

pub put_number_line-requires-clause-room : goal.put_number_line-requires-clause-room
put_number_line-requires-clause-room c = omega (arith, c.requires.room, text_length c.args.words.now c.from.result _ c.from.ensures refl)

pub bounds-words-1 : goal.bounds-words-1
bounds-words-1 c = omega (arith, (passed_limits _ c.requires.passed).long)

pub put_number_line-requires-2-clause-room : goal.put_number_line-requires-2-clause-room
put_number_line-requires-2-clause-room c =
    let a = c.put_number_line.ensures.written in
    omega (arith, c.requires.room, text_length c.args.words.now c.from.result c.from-2.result c.from.ensures c.from-2.ensures, a.next, puts_long _ _ _ _ _ a)

pub put_clauses-requires-clause-room : goal.put_clauses-requires-clause-room
put_clauses-requires-clause-room c =
    let a = c.put_number_line.ensures.written in
    let b = c.put_number_line-2.ensures.written in
    omega (arith, c.requires.room, text_length c.args.words.now c.from.result c.from-2.result c.from.ensures c.from-2.ensures, a.next, puts_long _ _ _ _ _ a, b.next, puts_long _ _ _ _ _ b)

pub returns-clause-written : goal.returns-clause-written
returns-clause-written c = text_puts _ _ _ c.from.ensures c.from-2.ensures _ _ _ _ _ _ _ _ c.put_number_line.ensures.written c.put_number_line-2.ensures.written c.put_clauses.ensures.written
