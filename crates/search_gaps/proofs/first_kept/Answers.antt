-- `first_kept`: from the number of the clause on, which then is the clause found.
use native.Mathlib.Omega.{arith}
use Rattle.table.proofs.Encoding.{passed_limits}
use Rattle.search_gaps.proofs.Gaps.{skipped_none, skipped_on}
use Rattle.step_parts.proofs.Laws.{ready}
use Rattle.search_gaps.proofs.first_kept.Goals as goal

pub returns-then-r-from : goal.returns-then-r-from
returns-then-r-from c = skipped_none _ _ _ _ _ _ _ c.requires.gaps c.requires.clause c.kept_from-r.ensures.within (λ j a b. omega (arith, c.max-from.ensures, c.next.ensures.next)) c.kept_from-r.ensures.gone

pub set_next-requires-clause-word : goal.set_next-requires-clause-word
set_next-requires-clause-word c = omega (arith, c.kept_from-r.ensures.within, c.requires.end, (passed_limits _ (ready c.args.program.now).placed.passed).few_clauses)

pub returns : goal.returns
returns c = rw c.set_next.ensures (skipped_on _ _ _ _ _ _ _ c.requires.gaps c.requires.clause c.kept_from-r.ensures.within (λ j a b. omega (arith, c.max-from.ensures, c.next.ensures.next)) c.kept_from-r.ensures.gone c.next.ensures.long)
