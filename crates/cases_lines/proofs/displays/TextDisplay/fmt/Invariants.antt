-- The display of `Text` meets its contract. The invariant: the bytes before this one are written.
use Rattle.std.proofs.Common.{take}
use Rattle.std.specs.Fmt.{HasWritten, IsPlainFormatter}
use Rattle.cases_lines.specs.Shown.{text_text}
use Rattle.cases_lines.proofs.displays.TextDisplay.fmt.Given as goal

abbrev pub invariant-loop-byte : goal.invariant-loop-byte
invariant-loop-byte g l = IsPlainFormatter l.fn.f → HasWritten g.W.Write.write_str_gives l.fn.f (text_text (take l.byte-index l.byte-items)) l.f
