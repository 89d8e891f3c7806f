-- `Indexed::first_word` meets its contract.
use Prim.Native.Nat.{◌≤◌}
use mathlib.Core.Path.{sym, subst, ◌∙◌}
use native.Mathlib.Omega.{arith}
use lib.ListN.{length}
use Rattle.table.specs.Places.{next_at}
use Rattle.step_parts.proofs.Laws.{clause_fits}
use Rattle.step_parts.proofs.marked.Indexed.first_word.Goals as goal

pub returns-clause-is : goal.returns-clause-is
returns-clause-is c = c.from.ensures ∙ c.args.self.now.placed.at c.args.t (omega arith)

pub returns-clause-fits : goal.returns-clause-fits
returns-clause-fits c = subst (λ x. next_at c.args.self.now.words.now x ≤ length c.args.self.now.words.now) (sym (c.from.ensures ∙ c.args.self.now.placed.at c.args.t (omega arith))) (clause_fits _ _ c.args.self.now.placed c.args.t c.requires)
