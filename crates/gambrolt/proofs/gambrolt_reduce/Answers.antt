-- The answer of the call as one number; what the call may answer leaves room for it.
use mathlib.Core.Path.{sym, subst}
use Rattle.answers.specs.Answers.{Small}
use Rattle.gambrolt.proofs.Small.{reduce_small}
use Rattle.gambrolt.proofs.gambrolt_reduce.Goals as goal

pub answer_code-requires : goal.answer_code-requires
answer_code-requires c = subst Small (sym c.reduce_table.ensures.answer) (reduce_small c.args.words.now c.args.marks.now c.args.list.now)

pub returns : goal.returns
returns c = (cc (c.answer_code.ensures, c.reduce_table.ensures.answer), (c.reduce_table.ensures.marks, c.reduce_table.ensures.list))
