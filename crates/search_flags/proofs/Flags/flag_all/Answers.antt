-- `flag_all`: the places passed are flagged, and no flag is lost.
use Rattle.std.proofs.Common.{rules, arith, below_more}
use Rattle.search_flags.proofs.Changes.{raising_more, raising_keeps}
use Rattle.search_flags.proofs.Flags.flag_all.Goals as goal

pub loop-i-preserved : goal.loop-i-preserved
loop-i-preserved c =
    let inv = c.loop-i.invariant in
    let g = c.flag.ensures.raising in
    let l = c.loop-i-test.true in
    (search rules, (raising_more _ _ _ _ _ _ _ (omega arith) (omega arith) inv.1.0 g, below_more _ _ (λ i k. raising_keeps _ _ _ _ g _ i c.requires.row (omega (arith, c.requires)) (inv.1.1 i k)) c.flag.ensures.flagged.0))
