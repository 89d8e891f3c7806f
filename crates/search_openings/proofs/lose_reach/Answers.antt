-- `lose_reach`: the clause did not fire, or its partner fires; or the reach is to be found anew.
use native.Mathlib.Omega.{arith}
use Rattle.std.proofs.Common.{sym, ◌∙◌}
use Rattle.step_conditions.specs.Known.{step_of}
use Rattle.search_spreads.proofs.Limits.{applied_lt}
use Rattle.search_openings.proofs.Opens.{lost_idle, lost_same_head, lost_all}
use Rattle.search_openings.proofs.lose_reach.Goals as goal

pub body_in-requires : goal.body_in-requires
body_in-requires c = omega (arith, c.from.ensures, applied_lt c.args.program.now.table.words.now c.args.program.now.marks.now (step_of c.args.step) c.requires.made.applies)

pub returns-then-not-body_in : goal.returns-then-not-body_in
returns-then-not-body_in c = lost_idle _ _ _ _ (step_of c.args.step) c.requires.reached (rw c.from.ensures at (sym c.if-not-body_in.true ∙ c.body_in.ensures))

pub returns-then-same_head : goal.returns-then-same_head
returns-then-same_head c = lost_same_head _ _ _ _ (step_of c.args.step) c.requires.reached (c.same_head.ensures c.if-same_head.true)

pub returns : goal.returns
returns c = lost_all _ _ _ _ (step_of c.args.step) c.requires.reached _ c.flag.ensures.raising c.flag.ensures.flagged.0
