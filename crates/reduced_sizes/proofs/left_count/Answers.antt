-- The clauses kept are counted by the marks of their first words. The invariant: the count so far and that to come are the whole.
use Rattle.table.proofs.Encoding.{passed_limits}
use mathlib.Core.Path.{refl, ap}
use native.Mathlib.Omega.{arith}
use lib.ListN.{length}
use Rattle.table.specs.Places.{start_from}
use Rattle.reduced_sizes.proofs.Words.{count_on, left_end}
use Rattle.reduced_sizes.proofs.Tables.{count_le, view_start}
use Rattle.reduced_marks.proofs.Spans.{inside, start_next}
use borrow.Author.Rules.{rules}
use Rattle.reduced_sizes.proofs.left_count.Goals as goal

pub bounds-words-1 : goal.bounds-words-1
bounds-words-1 c = let l = passed_limits _ c.requires.passed in search rules

pub loop-k-init : goal.loop-k-init
unfolding start_from
loop-k-init c = record { place = refl; sum = rw view_start (omega arith) }

pub bounds-marks-at : goal.bounds-marks-at
bounds-marks-at c = let i = inside _ _ c.requires _ _ c.loop-k-test.true c.loop-k.invariant.place in omega arith

pub overflow_add-count : goal.overflow_add-count
overflow_add-count c = let l = passed_limits _ c.requires.passed in omega (arith, count_on c.args.words.now c.args.marks.now c.loop-k.k _ c.loop-k.at _ c.loop-k-test.true refl, count_le c.args.words.now c.args.marks.now, c.from-count.ensures)

pub next_clause-at-requires : goal.next_clause-at-requires
next_clause-at-requires c = let i = inside _ _ c.requires _ _ c.loop-k-test.true c.loop-k.invariant.place in i.fits

pub loop-k-preserved : goal.loop-k-preserved
loop-k-preserved c =
    let e = c.next_clause-at.ensures in
    record { place = start_next _ _ c.requires _ _ c.loop-k-test.true c.loop-k.invariant.place _ e; sum = omega (arith, c.loop-k.invariant.sum, count_on c.args.words.now c.args.marks.now c.loop-k.k _ c.loop-k.at c.next_clause-at.result c.loop-k-test.true e) }

pub returns : goal.returns
returns c = omega (arith, ap length (left_end c.args.words.now c.args.marks.now c.loop-k.k _ c.loop-k.at c.loop-k-test.false))
