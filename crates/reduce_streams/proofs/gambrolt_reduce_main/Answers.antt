-- Where all is written, the output and the status are those of the text that was read.
use Rattle.std.proofs.Common.{rules, cond, sym, ap}
use Rattle.reduce_streams.proofs.Outcome.{outcome}
use Rattle.reduce_streams.proofs.gambrolt_reduce_main.Goals as goal

pub returns-then-printed-clause-done : goal.returns-then-printed-clause-done
returns-then-printed-clause-done g c two =
    outcome _ _ _ _ c.read_input.new.text _ _ _ 1 (search rules) c.in-Ok.ensures.bytes c.filter_text-printed.ensures (sym (ap (λ b. cond b 1 0) c.if-printed.true)) c.in-Ok-write_all.ensures.bytes

pub returns-else-printed-clause-done : goal.returns-else-printed-clause-done
returns-else-printed-clause-done g c two =
    outcome _ _ _ _ c.read_input.new.text _ _ _ 0 (search rules) c.in-Ok.ensures.bytes c.filter_text-printed.ensures (sym (ap (λ b. cond b 1 0) c.if-printed.false)) c.in-Ok-write_all.ensures.bytes
