-- `step_parts::link` meets its contract.
use native.Mathlib.Omega.{arith}
use mathlib.Core.Path.{sym, subst}
use Prim.Native.Nat.{◌+◌}
use lib.ListN.{get_or, set, length-set}
use Rattle.step_parts.specs.Parts.{Indexed}
use Rattle.step_parts.proofs.Index.{stands_small, last_range, index_on}
use Rattle.step_parts.proofs.linking.link.Goals as goal

pub offset_bounds-words-i : goal.offset_bounds-words-i
offset_bounds-words-i c = omega (arith, stands_small c.requires.indexed.passed c.requires.stands)

pub bounds-words-i : goal.bounds-words-i
bounds-words-i c = omega (arith, stands_small c.requires.indexed.passed c.requires.stands)

pub offset_bounds-index-at : goal.offset_bounds-index-at
offset_bounds-index-at c = omega (arith, stands_small c.requires.indexed.passed c.requires.stands, c.last_at-at.ensures, last_range c.args.part _ (stands_small c.requires.indexed.passed c.requires.stands).0, c.requires.indexed.long)

pub bounds-index-at : goal.bounds-index-at
bounds-index-at c = omega (arith, stands_small c.requires.indexed.passed c.requires.stands, c.last_at-at.ensures, last_range c.args.part _ (stands_small c.requires.indexed.passed c.requires.stands).0, c.requires.indexed.long)

pub overflow_add-index : goal.overflow_add-index
overflow_add-index c = omega (arith, stands_small c.requires.indexed.passed c.requires.stands)

pub offset_bounds-index-i : goal.offset_bounds-index-i
offset_bounds-index-i c = omega (arith, stands_small c.requires.indexed.passed c.requires.stands)

pub bounds-index-i : goal.bounds-index-i
bounds-index-i c = omega (arith, stands_small c.requires.indexed.passed c.requires.stands, c.requires.indexed.long)

pub overflow_cast-index : goal.overflow_cast-index
overflow_cast-index c = omega (arith, stands_small c.requires.indexed.passed c.requires.stands)

pub offset_bounds-index-at-2 : goal.offset_bounds-index-at-2
offset_bounds-index-at-2 c = omega (arith, stands_small c.requires.indexed.passed c.requires.stands, c.last_at-at.ensures, last_range c.args.part _ (stands_small c.requires.indexed.passed c.requires.stands).0, c.requires.indexed.long)

pub bounds-index-at-2 : goal.bounds-index-at-2
bounds-index-at-2 c = simp length-set (omega (arith, stands_small c.requires.indexed.passed c.requires.stands, c.last_at-at.ensures, last_range c.args.part _ (stands_small c.requires.indexed.passed c.requires.stands).0, c.requires.indexed.long))

pub overflow_cast-index-2 : goal.overflow_cast-index-2
overflow_cast-index-2 c = omega (arith, stands_small c.requires.indexed.passed c.requires.stands)

pub overflow_add-index-2 : goal.overflow_add-index-2
overflow_add-index-2 c = omega (arith, stands_small c.requires.indexed.passed c.requires.stands)

pub offset_bounds-index-i-2 : goal.offset_bounds-index-i-2
offset_bounds-index-i-2 c = omega (arith, stands_small c.requires.indexed.passed c.requires.stands)

pub bounds-index-i-2 : goal.bounds-index-i-2
bounds-index-i-2 c = simp length-set (omega (arith, stands_small c.requires.indexed.passed c.requires.stands, c.requires.indexed.long))

pub shape_of-index : goal.shape_of-index
shape_of-index c = simp length-set

pub returns : goal.returns
returns c = subst (λ k. Indexed c.args.words.now (set (set (set c.args.index.now (5121 + c.args.i) (get_or c.args.index.now k 0)) k c.args.i) (13313 + c.args.i) c.args.t) c.args.t (c.args.i + 1)) (sym c.last_at-at.ensures) (index_on _ c.args.index.now c.args.part _ c.args.t c.args.i c.requires.indexed c.requires.stands)
