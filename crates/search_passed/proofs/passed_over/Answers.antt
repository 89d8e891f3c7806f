-- `search_passed::passed_over` meets its contract, kind by kind.
use mathlib.Core.Path.{refl, ◌∙◌}
use mathlib.Core.Logic.{⊎_elim}
use native.Mathlib.Omega.{arith}
use Rattle.search_passed.proofs.Equal.{passed_later, passed_equal, passed_kind}
use Rattle.step_parts.proofs.Laws.{ready}
use Rattle.search_passed.proofs.passed_over.Goals as goal

pub returns-then-p-t : goal.returns-then-p-t
returns-then-p-t c = passed_later _ _ (ready c.args.program.now).placed.passed _ _ c.if-p-t.true _

pub returns-in-Blocked : goal.returns-in-Blocked
returns-in-Blocked c = λ a. c.equal_clauses.ensures ∙ passed_equal _ _ (ready c.args.program.now).placed.passed _ _ (omega (arith, c.if-p-t.false)) _ (⊎_elim (λ e. rw e refl) (λ e. rw e refl) c.in-Blocked.is) a

pub returns-in_default : goal.returns-in_default
returns-in_default c = passed_kind _ _ (ready c.args.program.now).placed.passed _ _ _ c.in_default.not-Blocked c.in_default.not-Subsumed
