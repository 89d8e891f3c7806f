-- `spread_one`: a target covered already, a clause that can't be a target, a step that the reducer does not take, or a flag more.
use native.Mathlib.Omega.{arith}
use Rattle.table.proofs.Encoding.{passed_limits}
use Rattle.search_flags.proofs.Changes.{raising_none}
use Rattle.step_parts.proofs.Laws.{ready}
use Rattle.search_spreads.proofs.spread_one.Goals as goal

pub returns-then-covered : goal.returns-then-covered
returns-then-covered c = record { raising = raising_none _ _ _; covered = λ _. c.covered.ensures c.if-covered.true }

pub returns-then-not-may_target : goal.returns-then-not-may_target
returns-then-not-may_target c = record { raising = raising_none _ _ _; covered = λ h. absurd (c.may_target.ensures (c.if-not-may_target.true) _ h) }

pub returns-then-not-may_take : goal.returns-then-not-may_take
returns-then-not-may_take c = record { raising = raising_none _ _ _; covered = λ h. absurd (c.may_take.ensures (c.if-not-may_take.true) h) }

pub covered-requires-clause-target : goal.covered-requires-clause-target
covered-requires-clause-target c = omega (arith, c.requires.target, (passed_limits _ (ready c.args.facts.now.program.now).placed.passed).few_clauses)

pub covered-requires-clause-key : goal.covered-requires-clause-key
covered-requires-clause-key c = omega (arith, c.requires.partner, (passed_limits _ (ready c.args.facts.now.program.now).placed.passed).few_clauses)

pub cover-requires-clause-target : goal.cover-requires-clause-target
cover-requires-clause-target c = omega (arith, c.requires.target, (passed_limits _ (ready c.args.facts.now.program.now).placed.passed).few_clauses)

pub cover-requires-clause-key : goal.cover-requires-clause-key
cover-requires-clause-key c = omega (arith, c.requires.partner, (passed_limits _ (ready c.args.facts.now.program.now).placed.passed).few_clauses)
