-- `text_reader::read_text` meets its contract. Questions 22 and 23, the lines, and the copy. Assumes nothing.
use mathlib.Core.Path.{sym, ◌∙◌}
use native.Mathlib.Omega.{arith}
use lib.Seq.{length-take-le}
use Rattle.text_reader.proofs.Programs.{long_text, short_table, on_text, call_stop, call_short, call_done}
use Rattle.text_reader.proofs.read_text.Goals as goal

pub returns-then-text-gt65536 : goal.returns-then-text-gt65536
returns-then-text-gt65536 c = call_stop _ c.args.table.now _ (long_text _ c.args.table.now c.if-text-gt65536.true)

pub returns-then-table-lt-MAX_WORDS : goal.returns-then-table-lt-MAX_WORDS
returns-then-table-lt-MAX_WORDS c = call_stop _ c.args.table.now _ (short_table _ c.args.table.now c.if-text-gt65536.false c.if-table-lt-MAX_WORDS.true)

pub slice_bounds-copy_from_slice-end : goal.slice_bounds-copy_from_slice-end
slice_bounds-copy_from_slice-end c =
    let s = call_short _ c.args.table.now _ _ _ c.if-text-gt65536.false c.if-table-lt-MAX_WORDS.false c.in-Ok.ensures in
    omega arith

pub slice_bounds-copy_from_slice-end-in-Ok : goal.slice_bounds-copy_from_slice-end-in-Ok
slice_bounds-copy_from_slice-end-in-Ok c =
    let s = call_short _ c.args.table.now _ _ _ c.if-text-gt65536.false c.if-table-lt-MAX_WORDS.false c.in-Ok.ensures in
    sym (length-take-le _ _ (omega arith))

pub slice_bounds-words-end : goal.slice_bounds-words-end
slice_bounds-words-end c =
    let s = call_short _ c.args.table.now _ _ _ c.if-text-gt65536.false c.if-table-lt-MAX_WORDS.false c.in-Ok.ensures in
    omega (arith, c.read_program.auto.words)

pub slice_bounds-copy_from_slice-end-in-Ok-2 : goal.slice_bounds-copy_from_slice-end-in-Ok-2
slice_bounds-copy_from_slice-end-in-Ok-2 c =
    let s = call_short _ c.args.table.now _ _ _ c.if-text-gt65536.false c.if-table-lt-MAX_WORDS.false c.in-Ok.ensures in
    sym (length-take-le _ _ (omega (arith, c.read_program.auto.words)))

pub copy_from_slice-requires : goal.copy_from_slice-requires
copy_from_slice-requires c =
    let s = call_short _ c.args.table.now _ _ _ c.if-text-gt65536.false c.if-table-lt-MAX_WORDS.false c.in-Ok.ensures in
    length-take-le _ _ (omega arith) ∙ sym (length-take-le _ _ (omega (arith, c.read_program.auto.words)))

pub returns-in-Ok : goal.returns-in-Ok
returns-in-Ok c =
    let h = c.in-Ok.ensures in
    let s = call_short _ c.args.table.now _ _ _ c.if-text-gt65536.false c.if-table-lt-MAX_WORDS.false h in
    call_done _ c.args.table.now _ _ _ c.if-text-gt65536.false c.if-table-lt-MAX_WORDS.false h _ (omega (arith, c.read_program.auto.words)) c.copy_from_slice.ensures.after

pub returns-in-Err : goal.returns-in-Err
returns-in-Err c = call_stop _ c.args.table.now _ (on_text _ c.args.table.now c.if-text-gt65536.false c.if-table-lt-MAX_WORDS.false ∙ c.in-Err.ensures)
