-- `spread_clause`: not where a clause before it subsumes it, else by its own atoms.
use native.Mathlib.Omega.{arith}
use Rattle.search_keys.proofs.States.{few_clauses_lem}
use Rattle.search_keys.proofs.Subsumers.{subsumer_spread}
use Rattle.search_keys.proofs.spread_clause.Goals as goal

pub returns-then-is_subsumed : goal.returns-then-is_subsumed
returns-then-is_subsumed c = let e = c.is_subsumed.ensures c.if-is_subsumed.true in subsumer_spread _ _ _ _ _ _ c.requires.state _ _ _ e.1 c.requires.kind e.0

pub returns : goal.returns
returns c = c.spread_partner.ensures

pub least_before-q-requires : goal.least_before-q-requires
least_before-q-requires c = omega (arith, c.requires.clause, few_clauses_lem _ _ _ _ _ _ c.requires.state)
