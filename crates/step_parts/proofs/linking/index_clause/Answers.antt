-- `step_parts::index_clause` meets its contract.
use native.Mathlib.Omega.{arith}
use mathlib.Core.Path.{sym, subst, ◌∙◌}
use lib.ListN.{length-set}
use Rattle.step_parts.specs.Parts.{Indexed}
use Rattle.step_parts.proofs.Laws.{start_next}
use Rattle.step_parts.proofs.Index.{index_fits, index_counts, index_start}
use Rattle.step_parts.proofs.linking.index_clause.Goals as goal

pub link_part-requires : goal.link_part-requires
link_part-requires c = record { indexed = index_counts _ _ _ _ c.requires.start c.requires.indexed; clause = c.requires.clause; start = c.requires.start }

pub link_part-requires-2 : goal.link_part-requires-2
link_part-requires-2 c = record { indexed = c.link_part.ensures; clause = c.requires.clause; start = c.requires.start }

pub link_part-requires-3 : goal.link_part-requires-3
link_part-requires-3 c = record { indexed = c.link_part-2.ensures; clause = c.requires.clause; start = c.requires.start }

pub next_clause-next-requires : goal.next_clause-next-requires
next_clause-next-requires c = (index_fits _ _ _ _ _ c.requires.indexed c.requires.clause c.requires.start).0

pub overflow_cast-index : goal.overflow_cast-index
overflow_cast-index c = omega (arith, index_fits _ _ _ _ _ c.requires.indexed c.requires.clause c.requires.start, c.next_clause-next.ensures)

pub overflow_add-index : goal.overflow_add-index
overflow_add-index c = omega (arith, index_fits _ _ _ _ _ c.requires.indexed c.requires.clause c.requires.start)

pub offset_bounds-index-t : goal.offset_bounds-index-t
offset_bounds-index-t c = omega (arith, index_fits _ _ _ _ _ c.requires.indexed c.requires.clause c.requires.start)

pub bounds-index-t : goal.bounds-index-t
bounds-index-t c = omega (arith, index_fits _ _ _ _ _ c.requires.indexed c.requires.clause c.requires.start, c.link_part-3.auto.index ∙ c.link_part-2.auto.index ∙ c.link_part.auto.index)

pub shape_of-index : goal.shape_of-index
shape_of-index c = simp length-set (c.link_part-3.auto.index ∙ c.link_part-2.auto.index ∙ c.link_part.auto.index)

pub returns-clause-start : goal.returns-clause-start
returns-clause-start c = start_next _ _ _ _ c.requires.start c.next_clause-next.ensures

pub returns-clause-indexed : goal.returns-clause-indexed
returns-clause-indexed c = let e = start_next _ _ _ _ c.requires.start c.next_clause-next.ensures in index_start _ _ _ _ (let l = index_fits _ _ _ _ _ c.requires.indexed c.requires.clause c.requires.start in l.2) e (subst (Indexed _ _ _) (sym c.next_clause-next.ensures) c.link_part-3.ensures)
