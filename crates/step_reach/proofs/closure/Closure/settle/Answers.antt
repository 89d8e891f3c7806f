-- `Closure::settle` meets its contract.
use mathlib.Core.Path.{sym, ◌∙◌}
use Rattle.step_reach.proofs.Queue.{spread_head}
use Rattle.step_reach.proofs.closure.Closure.settle.Goals as goal

pub returns-clause-spread : goal.returns-clause-spread
returns-clause-spread c = spread_head _ c.args.t (sym c.kept.ensures ∙ c.if-not-kept.false) (c.requires.last c.if-left-ne0.false) c.join_head.ensures.joined
