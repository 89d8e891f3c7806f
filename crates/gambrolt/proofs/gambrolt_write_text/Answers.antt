-- The answer of the call as one number; what the call may answer leaves room for it.
use mathlib.Core.Path.{sym, subst}
use Rattle.answers.specs.Answers.{Small}
use lib.ListN.{length}
use Rattle.gambrolt.proofs.Small.{write_small}
use Rattle.gambrolt.proofs.gambrolt_write_text.Goals as goal

pub answer_code-requires : goal.answer_code-requires
answer_code-requires c = subst Small (sym c.write_text.ensures.0) (write_small c.args.words.now (length c.args.out.now))

pub returns : goal.returns
returns c = (cc (c.answer_code.ensures, c.write_text.ensures.0), c.write_text.ensures.1)
