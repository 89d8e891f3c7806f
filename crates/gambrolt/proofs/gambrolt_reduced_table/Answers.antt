-- The answer of the call as one number; what the call may answer leaves room for it.
use mathlib.Core.Path.{sym, subst}
use Rattle.answers.specs.Answers.{Small}
use Rattle.gambrolt.proofs.Small.{reduced_small}
use Rattle.gambrolt.proofs.gambrolt_reduced_table.Goals as goal

pub answer_code-requires : goal.answer_code-requires
answer_code-requires c = subst Small (sym c.reduced_table.ensures.0) (reduced_small c.args.words.now c.args.marks.now c.args.out.now)

pub returns : goal.returns
returns c = (cc (c.answer_code.ensures, c.reduced_table.ensures.0), c.reduced_table.ensures.1)
