-- `refresh`: the reach where it was lost, and every target of kind 7.
use mathlib.Core.Path.{sym, ap, subst, ◌∙◌}
use mathlib.Core.Bool.{false≢true}
use native.Mathlib.Omega.{arith}
use lib.Seq.{get_or-set_same}
use Rattle.rewriting.specs.Uses.{asks_reach}
use Rattle.search_flags.specs.Flags.{AllFlagged, Raising}
use Rattle.search_keys.proofs.States.{few_clauses_lem, state_reached}
use Rattle.search_keys.proofs.refresh.Goals as goal

pub returns-then-not-asks_reach : goal.returns-then-not-asks_reach
returns-then-not-asks_reach c = record { state = c.requires; known = λ e. absurd (false≢true (sym (sym c.asks_reach.ensures ∙ c.if-not-asks_reach.true) ∙ ap asks_reach e)) }

pub returns-then-flag_at-eq0 : goal.returns-then-flag_at-eq0
returns-then-flag_at-eq0 c = record { state = c.requires; known = λ _. sym c.flag_at.ensures ∙ c.if-flag_at-eq0.true }

pub flag_all-requires-clause-top : goal.flag_all-requires-clause-top
flag_all-requires-clause-top c = omega (arith, c.clause_count.ensures, few_clauses_lem _ _ _ _ _ _ c.requires)

pub returns : goal.returns
returns c =
    let flags' = c.flag_all.new.self in
    rw c.set_flag.ensures (record {
      state = state_reached _ _ _ _ _ _ c.requires _ flags' c.find_reach.ensures c.find_reach.auto.bytes (subst (Raising c.args.flags.now flags' 7) c.clause_count.ensures c.flag_all.ensures.raising) (subst (AllFlagged flags' 7) c.clause_count.ensures c.flag_all.ensures.flagged);
      known = λ _. get_or-set_same flags' 0 0 0 (omega (arith, c.flag_all.ensures.raising.long, c.requires.rows.long));
    })
