-- What a read puts behind the bytes that stand there already.
use Rattle.std.proofs.Common.{rules}
use Rattle.reduce_streams.proofs.Filled.{filled}
use Rattle.reduce_streams.proofs.read_input.Goals as goal

pub loop-got-preserved : goal.loop-got-preserved
loop-got-preserved g c =
    (search rules, search rules, filled _ _ _ c.loop-got.got _ c.in_ok-n.n c.loop-got.text c.read.new.buf c.loop-got.invariant.1 c.in_ok-n.ensures.bound.0 c.loop-got.invariant.2 c.in_ok-n.ensures.bytes.0)
