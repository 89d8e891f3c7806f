-- `prepare`: the reach, then the fresh keys.
use Rattle.search_keys.proofs.prepare.Goals as goal

pub returns : goal.returns
returns c = record { state = c.settle.ensures.state; known = λ e. c.settle.ensures.known (c.refresh.ensures.known e); settled = c.settle.ensures.settled }
