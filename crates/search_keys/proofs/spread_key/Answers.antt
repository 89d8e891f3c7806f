-- `spread_key`: a partner or an atom is spread, and for another kind every target is flagged.
use mathlib.Core.Path.{sym, subst, ◌∙◌}
use native.Mathlib.Omega.{arith}
use Rattle.rewriting.specs.Kinds.{number}
use Rattle.search_flags.specs.Flags.{AllFlagged, Raising}
use Rattle.search_keys.proofs.States.{few_clauses_lem}
use Rattle.step_kinds.proofs.Cases.{no_head_alone}
use Rattle.search_keys.proofs.Keys.{key_partner, key_none, key_all}
use Rattle.search_keys.proofs.Keys.{key_atom, key_without, key_empty, key_past}
use Rattle.search_keys.proofs.spread_key.Goals as goal

pub returns-then-m-x : goal.returns-then-m-x
returns-then-m-x c = key_none _ _ _ _ _ (sym c.uses_partner.ensures ∙ c.if-uses_partner.true) (omega (arith, c.if-m-x.true, c.clause_count-m.ensures))

pub returns-then-not-may_partner : goal.returns-then-not-may_partner
returns-then-not-may_partner c = key_without _ _ _ _ _ (sym c.uses_partner.ensures ∙ c.if-uses_partner.true) (c.may_partner.ensures (c.if-not-may_partner.true))

pub returns-then-uses_partner : goal.returns-then-uses_partner
returns-then-uses_partner c = key_partner _ _ _ _ _ _ (sym c.uses_partner.ensures ∙ c.if-uses_partner.true) c.spread_clause.ensures

pub returns-then-not-asks_no_head : goal.returns-then-not-asks_no_head
returns-then-not-asks_no_head c =
    let flags' = c.flag_all.new.self in
    let h = subst (λ x. Raising c.args.flags.now flags' (number c.args.kind) x × AllFlagged flags' (number c.args.kind) x) c.clause_count-m.ensures (c.flag_all.ensures.raising, c.flag_all.ensures.flagged) in
    key_all _ _ _ flags' _ _ (sym c.uses_partner.ensures ∙ c.if-uses_partner.false) h.0 h.1

pub returns-then-m-eq0 : goal.returns-then-m-eq0
returns-then-m-eq0 c = key_empty _ _ _ _ _ (sym c.clause_count-m.ensures ∙ c.if-m-eq0.true)

pub returns-then-x-ge1024 : goal.returns-then-x-ge1024
returns-then-x-ge1024 c = key_past _ _ _ _ _ c.requires.state.ready.placed.passed (no_head_alone _ (sym c.asks_no_head.ensures ∙ c.if-not-asks_no_head.false)) c.if-x-ge1024.true

pub returns : goal.returns
returns c = key_atom _ _ _ _ _ _ (no_head_alone _ (sym c.asks_no_head.ensures ∙ c.if-not-asks_no_head.false)) c.spread_atom.ensures

pub flag_all-requires-clause-top : goal.flag_all-requires-clause-top
flag_all-requires-clause-top c = omega (arith, c.clause_count-m.ensures, few_clauses_lem _ _ _ _ _ _ c.requires.state)
