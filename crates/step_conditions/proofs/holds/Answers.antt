-- `step_conditions::holds` meets its contract, kind by kind.
use mathlib.Core.Path.{refl}
use Rattle.rewriting.specs.Steps.{condition}
use Rattle.step_conditions.proofs.holds.Goals as goal

pub headless-requires : goal.headless-requires
headless-requires c = record { clause = c.requires.target; heads = c.requires.known.heads (rw c.in-NoHead.is refl) }

pub headless-requires-in-Failure : goal.headless-requires-in-Failure
headless-requires-in-Failure c = record { clause = c.requires.target; heads = c.requires.known.heads (rw c.in-Failure.is refl) }

pub loop_holds-requires : goal.loop_holds-requires
loop_holds-requires c = record { clause = c.requires.target; heads = c.requires.known.heads (rw c.in-Loop.is refl); reached = c.requires.known.reached (rw c.in-Loop.is refl) }

pub returns-in-Tautology : goal.returns-in-Tautology
unfolding condition
returns-in-Tautology c = rw c.in-Tautology.is c.in_both.ensures

pub returns-in-Contradiction : goal.returns-in-Contradiction
unfolding condition
returns-in-Contradiction c = rw c.in-Contradiction.is c.in_both-in-Contradiction.ensures

pub returns-in-Success : goal.returns-in-Success
returns-in-Success c = rw c.in-Success.is c.success_holds.ensures

pub returns-in-NoHead : goal.returns-in-NoHead
unfolding condition
returns-in-NoHead c = rw c.in-NoHead.is c.headless.ensures

pub returns-in-Blocked : goal.returns-in-Blocked
returns-in-Blocked c = rw c.in-Blocked.is (c.blocked_holds.ensures c.args.atom)

pub returns-in-Failure : goal.returns-in-Failure
unfolding condition
returns-in-Failure c = rw c.in-Failure.is c.headless-in-Failure.ensures

pub returns-in-Loop : goal.returns-in-Loop
returns-in-Loop c = rw c.in-Loop.is (c.loop_holds.ensures _)

pub returns-in-Subsumed : goal.returns-in-Subsumed
returns-in-Subsumed c = rw c.in-Subsumed.is (c.subsumed_holds.ensures c.args.atom)
