-- The display of `Marks` meets its contract. The invariant: the marks before this one are written.
use Rattle.std.proofs.Common.{take}
use Rattle.std.specs.Fmt.{HasWritten, IsPlainFormatter}
use Rattle.cases_lines.specs.Shown.{marks_text}
use Rattle.cases_lines.proofs.displays.MarksDisplay.fmt.Given as goal

abbrev pub invariant-loop-mark : goal.invariant-loop-mark
invariant-loop-mark g l = IsPlainFormatter l.fn.f → HasWritten g.W.Write.write_str_gives l.fn.f (marks_text (take l.mark-index l.mark-items)) l.f
