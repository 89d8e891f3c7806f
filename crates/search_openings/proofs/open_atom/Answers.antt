-- `open_atom`: two flags.
use mathlib.Core.Logic.{inr}
use native.Mathlib.Omega.{arith}
use Rattle.search_openings.proofs.Opens.{opened_by, opened_more}
use Rattle.search_openings.proofs.open_atom.Goals as goal

pub returns : goal.returns
returns c =
    let one = c.flag.ensures in
    let two = c.flag-2.ensures in
    record {
      opened = opened_more _ _ _ (opened_by _ _ _ _ one.raising (inr (omega arith))) (opened_by _ _ _ _ two.raising (inr (omega arith)));
      fresh = record { no_head = λ e. one.flagged.0 (two.raising.grown 12 c.args.atom (omega arith) c.requires e); failure = two.flagged.0 };
    }
