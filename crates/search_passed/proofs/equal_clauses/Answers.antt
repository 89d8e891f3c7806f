-- `search_passed::equal_clauses` meets its contract.
use mathlib.Core.Path.{sym, ◌∙◌}
use Rattle.search_passed.proofs.Equal.{not_equal, is_equal}
use Rattle.step_parts.proofs.Laws.{ready}
use Rattle.search_passed.proofs.equal_clauses.Goals as goal

pub returns-then-not-subsumed_holds : goal.returns-then-not-subsumed_holds
returns-then-not-subsumed_holds c = not_equal _ _ (ready c.args.program.now).placed.passed _ _ (sym (c.subsumed_holds.ensures 0) ∙ c.if-not-subsumed_holds.true)

pub returns : goal.returns
returns c = c.subsumed_holds-2.ensures 0 ∙ is_equal _ _ (ready c.args.program.now).placed.passed _ _ (sym (c.subsumed_holds.ensures 0) ∙ c.if-not-subsumed_holds.false)
