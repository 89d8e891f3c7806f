-- The answer of the call as one number; what the call may answer leaves room for it.
use mathlib.Core.Path.{sym, subst}
use Rattle.answers.specs.Answers.{Small}
use Rattle.gambrolt.proofs.Small.{cycle_small}
use Rattle.gambrolt.proofs.gambrolt_cycle.Goals as goal

pub answer_code-requires : goal.answer_code-requires
answer_code-requires c = subst Small (sym c.has_cycle.ensures) (cycle_small c.args.words.now)

pub returns : goal.returns
returns c = cc (c.answer_code.ensures, c.has_cycle.ensures)
