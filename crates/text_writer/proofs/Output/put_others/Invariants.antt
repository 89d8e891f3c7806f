-- `text_writer::Output::put_others` meets its contract. The loop's invariant: the numbers left, each after a comma, give them all. Assumes nothing.
use mathlib.Core.Path.{◌≡◌}
use lib.ListN.{drop}
use Rattle.text_form.specs.Digits.{others}
use Rattle.text_writer.proofs.Laws.{Left}
use Rattle.text_writer.proofs.Output.put_others.Given as goal

abbrev pub invariant-loop-v : goal.invariant-loop-v
invariant-loop-v l = record {
  same_reference : l.self.bytes.ghost_name ≡ l.initial.self.bytes.ghost_name;
  left : Left l.self.bytes.now l.initial.self.bytes.now l.self.len l.initial.self.len (others (drop l.v-index l.numbers)) (others l.numbers);
}
