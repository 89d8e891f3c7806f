-- `set_flag`: one word of the rows.
use Rattle.std.proofs.Common.{arith, sym}
use Rattle.search_flags.proofs.Parts.{set_keys}
use Rattle.search_flags.proofs.Flags.set_flag.Goals as goal

pub returns : goal.returns
returns c = rw (c.number.ensures, ← c.self.view_is) (sym (set_keys _ _ _ _ _ _ _ c.self.told.0 (omega arith)))
