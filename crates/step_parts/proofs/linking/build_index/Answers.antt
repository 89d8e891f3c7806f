-- `step_parts::build_index` meets its contract. The invariant: the clauses before t are in the index, and clause t starts at `at`.
use native.Mathlib.Omega.{arith}
use mathlib.Core.Path.{refl, ◌∙◌}
use lib.ListN.{length-set}
use Rattle.table.specs.Places.{start_from}
use Rattle.table.proofs.Encoding.{passed_limits}
use Rattle.step_parts.proofs.Index.{index_none, index_end}
use borrow.Author.Rules.{rules}
use Rattle.step_parts.proofs.linking.build_index.Goals as goal

pub clear_last-requires : goal.clear_last-requires
clear_last-requires c = c.requires.long

pub bounds-index-0 : goal.bounds-index-0
bounds-index-0 c = omega (arith, c.clear_last.auto.index, c.requires.long)

pub bounds-words-1 : goal.bounds-words-1
bounds-words-1 c = omega (arith, (passed_limits _ c.requires.passed).long)

pub loop-t-init : goal.loop-t-init
unfolding start_from
loop-t-init c = (search rules, (c.from-t-end.ensures, (refl, (refl, index_none _ c.clear_last.new.index c.args.index.now c.requires.passed c.clear_last.auto.index c.requires.long c.clear_last.ensures))))

pub index_clause-at-requires : goal.index_clause-at-requires
index_clause-at-requires c = record { indexed = c.loop-t.invariant.1.1.1.1; clause = omega (arith, c.loop-t.invariant.1.0); start = c.loop-t.invariant.1.1.0 }

pub loop-t-preserved : goal.loop-t-preserved
loop-t-preserved c = (omega (arith, c.loop-t.invariant.1.0), (c.loop-t.invariant.1.0, (c.index_clause-at.ensures.start, (c.index_clause-at.auto.index ∙ c.loop-t.invariant.1.1.1.0, c.index_clause-at.ensures.indexed))))

pub shape_of-index : goal.shape_of-index
shape_of-index c = c.loop-t.invariant.1.1.1.0 ∙ simp length-set c.clear_last.auto.index

pub returns : goal.returns
returns c = index_end _ _ _ _ (omega (arith, c.loop-t.invariant.1.0)) c.loop-t.invariant.1.1.0 c.loop-t.invariant.1.1.1.1
