-- `open_partner`: three flags.
use mathlib.Core.Logic.{inr}
use native.Mathlib.Omega.{arith}
use Rattle.search_openings.proofs.Opens.{opened_by, opened_more}
use Rattle.search_openings.proofs.open_partner.Goals as goal

pub returns : goal.returns
returns c =
    let one = c.flag.ensures in
    let two = c.flag-2.ensures in
    let three = c.flag-3.ensures in
    let l = c.requires in
    let t = c.args.t in
    record {
      opened = opened_more _ _ _ (opened_more _ _ _ (opened_by _ _ _ _ one.raising (inr (omega arith))) (opened_by _ _ _ _ two.raising (inr (omega arith)))) (opened_by _ _ _ _ three.raising (inr (omega arith)));
      fresh = record {
        success = λ e. one.flagged.0 (two.raising.grown 11 t (omega arith) l (three.raising.grown 11 t (omega arith) l e));
        blocked = λ e. two.flagged.0 (three.raising.grown 13 t (omega arith) l e);
        subsumed = three.flagged.0;
      };
    }
