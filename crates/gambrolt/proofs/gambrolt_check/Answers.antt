-- The answer of the call as one number; what the call may answer leaves room for it.
use mathlib.Core.Path.{sym, subst}
use Rattle.answers.specs.Answers.{Small}
use Rattle.gambrolt.proofs.Small.{check_small}
use Rattle.gambrolt.proofs.gambrolt_check.Goals as goal

pub answer_code-requires : goal.answer_code-requires
answer_code-requires c = subst Small (sym c.check_list.ensures.answer) (check_small c.args.words.now c.args.marks.now c.args.list.now)

pub returns : goal.returns
returns c = (cc (c.answer_code.ensures, c.check_list.ensures.answer), c.check_list.ensures.marks)
