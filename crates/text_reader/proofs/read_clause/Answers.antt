-- `text_reader::read_clause` meets its contract. The three lines, then the counts. Assumes nothing.
use native.Mathlib.Omega.{arith}
use Rattle.text_lines.proofs.Answers.{handed_on}
use Rattle.text_reader.proofs.Clauses.{part_room, head_stop, pos_stop, neg_stop, clause_read}
use Rattle.text_reader.proofs.read_clause.Goals as goal

pub returns-in_err-head : goal.returns-in_err-head
returns-in_err-head c = rw (handed_on _ _ c.from_residual.ensures.1) (head_stop _ _ _ _ _ c.in_err-head.ensures)

pub overflow_add-b : goal.overflow_add-b
overflow_add-b c = omega (arith, part_room _ _ _ _ _ _ _ _ _ c.in_ok-head.ensures)

pub read_list-requires-2 : goal.read_list-requires-2
read_list-requires-2 c = omega (arith, part_room _ _ _ _ _ _ _ _ _ c.in_ok-head.ensures)

pub returns-in_err-pos : goal.returns-in_err-pos
returns-in_err-pos c =
    let h = c.in_ok-head.ensures in
    rw (handed_on _ _ c.from_residual-in_err-pos.ensures.1) (pos_stop _ _ _ _ _ _ _ h _ c.in_err-pos.ensures)

pub overflow_add-d : goal.overflow_add-d
overflow_add-d c = omega (arith, part_room _ _ _ _ _ _ _ _ _ c.in_ok-pos.ensures)

pub read_list-requires-3 : goal.read_list-requires-3
read_list-requires-3 c = omega (arith, part_room _ _ _ _ _ _ _ _ _ c.in_ok-pos.ensures)

pub returns-in_err-neg : goal.returns-in_err-neg
returns-in_err-neg c =
    let h = c.in_ok-head.ensures in
    let p = c.in_ok-pos.ensures in
    rw (handed_on _ _ c.from_residual-in_err-neg.ensures.1) (neg_stop _ _ _ _ _ _ _ h _ _ p _ c.in_err-neg.ensures)

pub put_counts-requires : goal.put_counts-requires
put_counts-requires c = let r = part_room _ _ _ _ _ _ _ _ _ c.in_ok-neg.ensures in record { place = omega arith; head = omega arith; pos = omega arith; neg = omega arith }

pub overflow_add-result : goal.overflow_add-result
overflow_add-result c = omega (arith, part_room _ _ _ _ _ _ _ _ _ c.in_ok-neg.ensures)

pub overflow_add-result-2 : goal.overflow_add-result-2
overflow_add-result-2 c = omega (arith, part_room _ _ _ _ _ _ _ _ _ c.in_ok-neg.ensures)

pub overflow_add-result-3 : goal.overflow_add-result-3
overflow_add-result-3 c = omega (arith, part_room _ _ _ _ _ _ _ _ _ c.in_ok-neg.ensures)

pub returns : goal.returns
returns c =
    let h = c.in_ok-head.ensures in
    let p = c.in_ok-pos.ensures in
    let q = c.in_ok-neg.ensures in
    clause_read _ _ _ _ _ _ _ h _ _ p _ _ _ q c.put_counts.ensures
