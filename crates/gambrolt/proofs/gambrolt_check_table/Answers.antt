-- The answer of the table's questions as one number; a refusal's place leaves room for it.
use native.Mathlib.Omega.{arith}
use Rattle.table.specs.Questions.{on_table}
use Rattle.table.proofs.Refused.{table_refused}
use Rattle.gambrolt.proofs.gambrolt_check_table.Goals as goal

pub returns-in_default : goal.returns-in_default
unfolding on_table
returns-in_default c = rw (← c.check_table-checked.ensures, c.in_default.is)

pub refusal_code-requires : goal.refusal_code-requires
refusal_code-requires c = omega (arith, (table_refused c.args.words.now c.in-Err.r (cc (c.check_table-checked.ensures, c.in-Err.is))).1)

pub returns : goal.returns
unfolding on_table
returns c = rw (← c.check_table-checked.ensures, c.in-Err.is) c.refusal_code.ensures
