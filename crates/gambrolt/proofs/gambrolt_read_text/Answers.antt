-- The answer of the call as one number; what the call may answer leaves room for it.
use mathlib.Core.Path.{sym, subst}
use Rattle.answers.specs.Answers.{Small}
use lib.ListN.{length}
use Rattle.text_form.proofs.Near.{read_small}
use Rattle.gambrolt.proofs.gambrolt_read_text.Goals as goal

pub answer_code-requires : goal.answer_code-requires
answer_code-requires c = subst Small (sym c.read_text.ensures.0) (read_small c.args.text.now (length c.args.words.now))

pub returns : goal.returns
returns c = (cc (c.answer_code.ensures, c.read_text.ensures.0), c.read_text.ensures.1)
