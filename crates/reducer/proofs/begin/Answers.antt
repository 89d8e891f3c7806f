-- `begin`: all flags that there are, and heads counted; no reach is known.
use native.Mathlib.Omega.{arith}
use Rattle.std.proofs.Common.{subst}
use Rattle.table.proofs.Encoding.{passed_limits}
use Rattle.step_parts.proofs.Laws.{ready}
use Rattle.reducer.specs.Runs.{AllOpen}
use Rattle.reducer.proofs.Begins.{state_begun}
use Rattle.reducer.proofs.begin.Goals as goal

pub flag_kinds-requires-clause-clauses : goal.flag_kinds-requires-clause-clauses
flag_kinds-requires-clause-clauses c = omega (arith, c.clause_count.ensures, (passed_limits _ c.args.program.now.table.placed.passed).few_clauses)

pub count_heads-requires : goal.count_heads-requires
count_heads-requires c = omega (arith, (passed_limits _ c.args.program.now.table.placed.passed).few_atoms, c.requires.heads)

pub returns : goal.returns
returns c =
    let few = (passed_limits _ c.args.program.now.table.placed.passed).few_atoms in
    state_begun _ _ _ _ _ _ (ready c.args.program.now) c.count_heads.ensures (omega (arith, few, c.requires.heads, c.count_heads.auto.heads)) (omega (arith, few, c.requires.reach)) (subst (λ x. AllOpen c.flag_kinds.new.flags x) c.clause_count.ensures c.flag_kinds.ensures)
