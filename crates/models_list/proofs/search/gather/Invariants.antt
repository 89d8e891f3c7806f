-- `models_list::search::gather` meets its contract.
use Rattle.models_list.proofs.Gathering.{Gathering}
use Rattle.models_list.proofs.search.gather.Given as goal

abbrev pub invariant-loop-clause : goal.invariant-loop-clause
invariant-loop-clause l = Gathering l.clauses l.m l.rules l.count l.clause-index
