-- `set_bounds`: a word of the lower bounds, and one of the upper.
use Rattle.std.proofs.Common.{arith, sym}
use Rattle.search_flags.proofs.Parts.{set_both}
use Rattle.search_flags.proofs.Flags.set_bounds.Goals as goal

pub returns-clause-set : goal.returns-clause-set
returns-clause-set c = let t = c.self.told in rw (c.number.ensures, c.number-2.ensures, ← c.self.view_is) (sym (set_both _ _ _ _ _ _ _ _ t.0 t.1 t.2 (omega arith)))
