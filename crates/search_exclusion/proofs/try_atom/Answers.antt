-- `search_exclusion::try_atom` meets its contract.
use native.Mathlib.Omega.{arith}
use Rattle.table.proofs.Encoding.{passed_limits}
use Rattle.search_exclusion.proofs.Targets.{trial_by}
use Rattle.search_exclusion.proofs.Tries.{within_by}
use Rattle.search_exclusion.proofs.try_atom.Goals as goal

pub better-requires-clause-clauses : goal.better-requires-clause-clauses
better-requires-clause-clauses c = omega (arith, (passed_limits _ c.args.definite.now.table.placed.passed).few_clauses, c.clause_count.ensures)

pub returns-clause-trial : goal.returns-clause-trial
returns-clause-trial c = trial_by _ _ _ (within_by _ _ c.requires.known) c.close_with.ensures.settled c.take_back-t.ensures.first (rw c.clause_count.ensures at c.better.ensures.better) c.take_back-t.ensures.cleared
