-- `lift`: the flag of a key that is no clause's stays; another goes up to the first clause kept.
use Prim.Native.Nat.{◌-◌}
use mathlib.Core.Path.{subst}
use native.Mathlib.Omega.{arith}
use Rattle.table.proofs.Encoding.{passed_limits}
use Rattle.search_keys.specs.State.{Skipped}
use Rattle.search_gaps.proofs.Gaps.{lifted_none, lifted_on}
use Rattle.step_parts.proofs.Laws.{ready}
use Rattle.search_gaps.proofs.lift.Goals as goal

pub returns-then-m-q : goal.returns-then-m-q
returns-then-m-q c = lifted_none _ _ _ _ _ c.requires.calm c.requires.kind (omega (arith, c.requires.target, (passed_limits _ (ready c.args.program.now).placed.passed).few_clauses)) c.requires.flagged

pub returns : goal.returns
returns c =
    let s = subst (λ x. Skipped c.args.program.now.table.words.now c.args.program.now.marks.now c.args.flags.now c.first_kept-r.new.flags (x - 1) c.clause_count-m.result c.first_kept-r.result) c.flag_at-q.ensures c.first_kept-r.ensures in
    rw c.set_flag.ensures (lifted_on _ _ _ _ _ c.requires.calm c.requires.kind (omega (arith, c.requires.target, (passed_limits _ (ready c.args.program.now).placed.passed).few_clauses)) c.requires.flagged _ _ _ s (ready c.args.program.now).placed.passed)

pub flag_at-q-requires-clause-place : goal.flag_at-q-requires-clause-place
flag_at-q-requires-clause-place c = omega (arith, c.requires.target, (passed_limits _ (ready c.args.program.now).placed.passed).few_clauses)

pub first_kept-r-requires-clause-clause : goal.first_kept-r-requires-clause-clause
first_kept-r-requires-clause-clause c = omega (arith, c.if-m-q.false, c.clause_count-m.ensures, (passed_limits _ (ready c.args.program.now).placed.passed).few_clauses)

pub set_flag-requires-clause-place : goal.set_flag-requires-clause-place
set_flag-requires-clause-place c = omega (arith, c.requires.target, (passed_limits _ (ready c.args.program.now).placed.passed).few_clauses)

pub set_flag-requires-clause-word : goal.set_flag-requires-clause-word
set_flag-requires-clause-word c = omega (arith, c.first_kept-r.ensures.less, c.clause_count-m.ensures, (passed_limits _ (ready c.args.program.now).placed.passed).few_clauses)

pub overflow_add-r : goal.overflow_add-r
overflow_add-r c = omega (arith, c.first_kept-r.ensures.less, c.clause_count-m.ensures, (passed_limits _ c.args.program.now.table.placed.passed).few_clauses)
