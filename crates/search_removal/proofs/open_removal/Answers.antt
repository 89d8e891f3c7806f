-- `open_removal`: the reach, the atom, and the clauses with it.
use mathlib.Core.Path.{refl, subst}
use mathlib.Core.Logic.{inl}
use Rattle.search_openings.specs.Opened.{AtomFresh}
use Rattle.search_openings.proofs.Opens.{opened_by, opened_more}
use Rattle.search_removal.proofs.Opens.{removal_none, removal_all}
use Rattle.search_removal.proofs.open_removal.Goals as goal

pub returns-then-atom-ge1024 : goal.returns-then-atom-ge1024
returns-then-atom-ge1024 c = record { opened = opened_by _ _ _ _ c.flag.ensures.raising (inl refl); fresh = removal_none _ _ _ _ c.args.program.now.table.placed.passed c.if-atom-ge1024.true c.flag.ensures.flagged.0 }

pub returns : goal.returns
returns c =
    let atom = subst (AtomFresh _) c.from.ensures c.open_atom.ensures.fresh in record { opened = opened_more _ _ _ (opened_more _ _ _ (opened_by _ _ _ _ c.flag.ensures.raising (inl refl)) c.open_atom.ensures.opened) c.open_parts.ensures.opened; fresh = removal_all _ _ _ _ _ _ c.flag.ensures.flagged.0 c.open_atom.ensures.opened atom c.open_parts.ensures.opened c.open_parts.ensures.fresh }
