-- Three counts and the marks at 1 after them, or nothing.
use Prim.Native.Nat.{◌-◌, ◌+◌}
use mathlib.Core.Path.{sym, ap, ◌∙◌}
use native.Mathlib.Omega.{arith}
use Rattle.reduced_sizes.specs.Parts.{kept_from}
use Rattle.reduced_sizes.proofs.Words.{entry_gone, entry_size, kept_between}
use Rattle.reduced_sizes.proofs.entry_size.Goals as goal

pub returns-then-marks-at-ne1 : goal.returns-then-marks-at-ne1
returns-then-marks-at-ne1 c = rw (entry_gone c.args.words.now c.args.marks.now c.args.at c.if-marks-at-ne1.true)

pub returns : goal.returns
returns c =
    let e = c.from.ensures ∙ c.kept_in.ensures ∙ kept_between c.args.marks.now (c.args.at + 3) c.next_clause.result (omega arith) (omega arith) ∙ ap (λ x. kept_from c.args.marks.now (c.args.at + 3) (x - (c.args.at + 3))) c.next_clause.ensures in
    ap (λ x. 3 + x) e ∙ sym (entry_size c.args.words.now c.args.marks.now c.args.at c.if-marks-at-ne1.false)
