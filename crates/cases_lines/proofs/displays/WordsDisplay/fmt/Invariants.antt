-- The display of `Words` meets its contract. The invariant: the words before this one are written.
use Rattle.std.proofs.Common.{take}
use Rattle.std.specs.Fmt.{HasWritten, IsPlainFormatter}
use Rattle.cases_lines.specs.Shown.{words_text}
use Rattle.cases_lines.proofs.displays.WordsDisplay.fmt.Given as goal

abbrev pub invariant-loop-word : goal.invariant-loop-word
invariant-loop-word g l = IsPlainFormatter l.fn.f → HasWritten g.W.Write.write_str_gives l.fn.f (words_text (take l.word-index l.word-items)) l.f
