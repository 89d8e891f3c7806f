-- `reduce_filter::put_steps` meets its contract. The loop's invariant: the lines of the steps left, written from here on, give them all. Assumes nothing.
use Prim.Native.Nat.{◌-◌, ◌*◌}
use mathlib.Core.Path.{◌≡◌}
use lib.ListN.{length, take, drop}
use Rattle.std.specs.Slice.Iter.{chunks_exact_rest, chunks_exact_size}
use Rattle.text_writer.proofs.Laws.{Left}
use Rattle.reduce_filter.specs.Output.{step_lines}
use Rattle.reduce_filter.proofs.put_steps.Given as goal

abbrev pub invariant-loop-step : goal.invariant-loop-step
invariant-loop-step l = record {
  same_reference : l.output.bytes.ghost_name ≡ l.initial.output.bytes.ghost_name;
  size : chunks_exact_size l.step-iterator ≡ 4;
  rest : chunks_exact_rest l.step-iterator ≡ drop (4 * length l.yielded) (take (4 * l.s) l.list);
  left : Left l.output.bytes.now l.initial.output.bytes.now l.output.len l.initial.output.len (step_lines l.list (4 * length l.yielded) (l.s - length l.yielded)) (step_lines l.list 0 l.s);
}
