-- The answer of the call as one number; what the call may answer leaves room for it.
use mathlib.Core.Path.{sym, subst}
use Rattle.answers.specs.Answers.{Small}
use Rattle.gambrolt.proofs.Small.{test_small}
use Rattle.gambrolt.proofs.gambrolt_test.Goals as goal

pub answer_code-requires : goal.answer_code-requires
answer_code-requires c = subst Small (sym c.test_set.ensures) (test_small c.args.words.now c.args.set.now)

pub returns : goal.returns
returns c = cc (c.answer_code.ensures, c.test_set.ensures)
