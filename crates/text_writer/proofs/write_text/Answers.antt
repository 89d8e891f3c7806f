-- `text_writer::write_text` meets its contract. Questions 1 to 8, then 28, then the copy. Assumes nothing.
use Prim.Native.Nat.{ℕ}
use mathlib.Core.Path.{sym, ap, ◌∙◌}
use native.Mathlib.Omega.{arith}
use lib.ListN.{length, length-replicate}
use lib.Seq.{length-take-le}
use Rattle.table.proofs.Encoding.{valid_passed}
use Rattle.text_form.proofs.Calls.{text_short}
use Rattle.text_writer.proofs.Tables.{call_refused, call_inside, call_narrow, call_done}
use Rattle.text_writer.proofs.write_text.Goals as goal

pub returns-in_default : goal.returns-in_default
returns-in_default c = let (a, b) = call_refused c.args.words.now c.args.out.now _ (sym c.check_table-checked.ensures ∙ c.in_default.is) in (rw c.in_default.is at c.map.ensures.cases ∙ a, b)

pub put_text-requires-clause-passed : goal.put_text-requires-clause-passed
put_text-requires-clause-passed c = (valid_passed _ _ (sym c.check_table-checked.ensures ∙ c.in-Ok.is)).0

pub put_text-requires-clause-room : goal.put_text-requires-clause-room
put_text-requires-clause-room c = omega (arith, text_short _ ((valid_passed _ _ (sym c.check_table-checked.ensures ∙ c.in-Ok.is)).0), c.new-output.ensures.empty, ap length c.new-output.ensures.lent, length-replicate {A = ℕ} 43022 0)

pub returns-then-out-n : goal.returns-then-out-n
returns-then-out-n c = call_narrow _ c.args.out.now ((valid_passed _ _ (sym c.check_table-checked.ensures ∙ c.in-Ok.is)).0) _ _ _ (rw c.new-output.ensures.empty at c.put_text.ensures.written) c.if-out-n.true

pub slice_bounds-copy_from_slice-end-3 : goal.slice_bounds-copy_from_slice-end-3
slice_bounds-copy_from_slice-end-3 c = sym (length-take-le _ _ (call_inside _ c.args.out.now ((valid_passed _ _ (sym c.check_table-checked.ensures ∙ c.in-Ok.is)).0) _ _ _ (rw c.new-output.ensures.empty at c.put_text.ensures.written) (ap length c.new-output.ensures.lent ∙ length-replicate {A = ℕ} 43022 0)))

pub copy_from_slice-requires : goal.copy_from_slice-requires
copy_from_slice-requires c = length-take-le _ _ c.if-out-n.false ∙ sym (length-take-le _ _ (call_inside _ c.args.out.now ((valid_passed _ _ (sym c.check_table-checked.ensures ∙ c.in-Ok.is)).0) _ _ _ (rw c.new-output.ensures.empty at c.put_text.ensures.written) (ap length c.new-output.ensures.lent ∙ length-replicate {A = ℕ} 43022 0)))

pub returns : goal.returns
returns c =
    let p = (valid_passed _ _ (sym c.check_table-checked.ensures ∙ c.in-Ok.is)).0 in
    let h = rw c.new-output.ensures.empty at c.put_text.ensures.written in
    call_done _ c.args.out.now p _ _ _ h _ c.if-out-n.false (call_inside _ c.args.out.now ((valid_passed _ _ (sym c.check_table-checked.ensures ∙ c.in-Ok.is)).0) _ _ _ (rw c.new-output.ensures.empty at c.put_text.ensures.written) (ap length c.new-output.ensures.lent ∙ length-replicate {A = ℕ} 43022 0)) c.copy_from_slice.ensures.after
