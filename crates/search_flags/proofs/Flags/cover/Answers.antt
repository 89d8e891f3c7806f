-- `cover`: a flag, and for kind 3 a partner more.
use Rattle.std.proofs.Common.{arith}
use Rattle.search_flags.proofs.Changes.{raising_more, raising_flagged}
use Rattle.search_flags.proofs.Flags.cover.Goals as goal

pub returns-then-number-eq3-clause-raising : goal.returns-then-number-eq3-clause-raising
returns-then-number-eq3-clause-raising c = raising_more _ _ _ _ _ _ _ (omega arith) (omega arith) c.flag.ensures.raising (c.raise_most.ensures.raising _)

pub returns-then-number-eq3-clause-covered : goal.returns-then-number-eq3-clause-covered
returns-then-number-eq3-clause-covered c = (raising_flagged _ _ _ _ (c.raise_most.ensures.raising 0) _ _ _ c.requires.row (omega (arith, c.requires.target)) c.flag.ensures.flagged, λ _. c.raise_most.ensures.most)
