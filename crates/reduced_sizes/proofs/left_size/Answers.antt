-- The sizes of the clauses as left are added up. The invariant: the sum so far and the words to come are the whole.
use Rattle.table.proofs.Encoding.{passed_limits}
use Rattle.reduced_sizes.proofs.Words.{size_end, size_on}
use mathlib.Core.Path.{refl, sym}
use native.Mathlib.Omega.{arith}
use Rattle.table.specs.Places.{start_from}
use Rattle.reduced_sizes.proofs.Tables.{reduced_length, reduced_le, view_start}
use Rattle.reduced_marks.proofs.Spans.{inside, start_next}
use borrow.Author.Rules.{rules}
use Rattle.reduced_sizes.proofs.left_size.Goals as goal

pub bounds-words-1 : goal.bounds-words-1
bounds-words-1 c = let l = passed_limits _ c.requires.passed in search rules

pub loop-k-init : goal.loop-k-init
unfolding start_from
loop-k-init c = record { place = refl; sum = rw view_start (sym (reduced_length _ _)) }

pub entry_size-size-requires : goal.entry_size-size-requires
entry_size-size-requires c = inside _ _ c.requires _ _ c.loop-k-test.true c.loop-k.invariant.place

pub overflow_add-size : goal.overflow_add-size
overflow_add-size c = omega (arith, size_on c.args.words.now c.args.marks.now c.loop-k.k _ c.loop-k.at _ c.loop-k-test.true refl, reduced_le c.args.words.now c.args.marks.now c.requires.passed)

pub next_clause-at-requires : goal.next_clause-at-requires
next_clause-at-requires c = let i = inside _ _ c.requires _ _ c.loop-k-test.true c.loop-k.invariant.place in i.fits

pub loop-k-preserved : goal.loop-k-preserved
loop-k-preserved c =
    let e = c.next_clause-at.ensures in
    record { place = start_next _ _ c.requires _ _ c.loop-k-test.true c.loop-k.invariant.place _ e; sum = omega (arith, c.loop-k.invariant.sum, size_on c.args.words.now c.args.marks.now c.loop-k.k _ c.loop-k.at c.next_clause-at.result c.loop-k-test.true e) }

pub returns : goal.returns
returns c = omega (arith, size_end c.args.words.now c.args.marks.now c.loop-k.k _ c.loop-k.at c.loop-k-test.false)
