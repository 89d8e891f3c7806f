-- `drop_literal`: the mark, then what the step opens.
use mathlib.Core.Path.{sym, subst}
use native.Mathlib.Omega.{arith}
use Rattle.step_conditions.specs.Known.{step_of}
use Rattle.search_keys.specs.State.{State}
use Rattle.search_keys.proofs.States.{few_clauses_lem}
use Rattle.search_spreads.proofs.Limits.{applied_lt}
use Rattle.search_openings.specs.Opened.{PartnerFresh}
use Rattle.search_openings.proofs.Keeps.{state_dropped}
use Rattle.search_openings.proofs.drop_literal.Goals as goal

pub open_partner-requires : goal.open_partner-requires
open_partner-requires c = omega (arith, c.from.ensures, applied_lt c.args.table.now.words.now c.args.marks.now (step_of c.args.step) c.requires.made.applies, few_clauses_lem _ _ _ _ _ _ c.requires.state)

pub returns : goal.returns
returns c =
    let flags' = c.open_partner.new.flags in
    let f = subst (PartnerFresh flags') c.from.ensures c.open_partner.ensures.fresh in record {
      marks = c.make_step.ensures;
      state = subst (λ k. State c.args.table.now.words.now k c.args.table.now.index.now c.args.heads.now c.args.reach.now flags') (sym c.make_step.ensures)
          (state_dropped _ _ _ _ _ _ c.requires.state (step_of c.args.step) c.requires.made.applies c.requires.made.on flags' c.open_partner.ensures.opened c.requires.drops f);
    }
