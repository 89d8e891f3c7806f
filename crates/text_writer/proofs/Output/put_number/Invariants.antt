-- `text_writer::Output::put_number` meets its contract. The loop's invariant: the last j digits are stored, and the number without them is left. Assumes nothing.
use mathlib.Core.Path.{◌≡◌}
use Rattle.text_writer.proofs.Laws.{Placed}
use Rattle.text_writer.proofs.Output.put_number.Given as goal

abbrev pub invariant-loop-j : goal.invariant-loop-j
invariant-loop-j l = record { same_reference : l.self.bytes.ghost_name ≡ l.initial.self.bytes.ghost_name; placed : Placed l.initial.self.bytes.now l.self.bytes.now l.at l.v l.w l.left l.j }
