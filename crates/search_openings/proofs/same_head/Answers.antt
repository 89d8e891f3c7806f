-- `same_head`: kind 8, and the target's head within the partner's.
use mathlib.Core.Path.{sym, ◌∙◌}
use native.Mathlib.Omega.{arith}
use Rattle.table.specs.View.{view}
use Rattle.step_conditions.specs.Known.{step_of}
use Rattle.search_spreads.proofs.Limits.{applied_lt}
use Rattle.search_openings.proofs.Opens.{same_head_by, partner_lt}
use Rattle.search_openings.proofs.same_head.Goals as goal

pub inside-requires-clause-partner : goal.inside-requires-clause-partner
inside-requires-clause-partner c = omega (arith, c.from.ensures, applied_lt c.args.program.now.table.words.now c.args.program.now.marks.now (step_of c.args.step) c.requires.applies)

pub inside-requires-clause-target : goal.inside-requires-clause-target
inside-requires-clause-target c = omega (arith, c.from-in-Subsumed.ensures, partner_lt c.args.program.now.table.words.now c.args.program.now.marks.now (step_of c.args.step) c.in-Subsumed.is c.requires.applies)

pub returns-in-Subsumed : goal.returns-in-Subsumed
returns-in-Subsumed c = λ e. same_head_by (view c.args.program.now.table.words.now c.args.program.now.marks.now) (step_of c.args.step) c.in-Subsumed.is (rw (c.from.ensures, c.from-in-Subsumed.ensures) at (sym c.inside.ensures ∙ e))
