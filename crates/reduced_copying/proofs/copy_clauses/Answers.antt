-- Clause by clause. The invariant: the words to come, written from here on, give what all of them give from the start.
use Rattle.reduced_sizes.proofs.Words.{copy_on, copy_end, size_on}
use mathlib.Core.Path.{refl, sym, ◌∙◌}
use native.Mathlib.Omega.{arith}
use Rattle.table.specs.Places.{start_from}
use Rattle.table.proofs.Encoding.{passed_limits}
use Rattle.reduced_sizes.proofs.Tables.{reduced_length, view_start}
use Rattle.reduced_marks.proofs.Spans.{inside, start_next}
use borrow.Author.Rules.{rules}
use Rattle.reduced_copying.proofs.copy_clauses.Goals as goal

pub bounds-words-1 : goal.bounds-words-1
bounds-words-1 c = let l = passed_limits _ c.requires.ready.passed in search rules

pub loop-k-init : goal.loop-k-init
unfolding start_from
loop-k-init c = record { place = refl; room = rw view_start (sym (reduced_length _ _)); written = rw view_start }

pub copy_entry-to-requires : goal.copy_entry-to-requires
copy_entry-to-requires c = let i = inside _ _ c.requires.ready _ _ c.loop-k-test.true c.loop-k.invariant.place in record { inside = i; room = omega (arith, size_on c.args.words.now c.args.marks.now c.loop-k.k _ c.loop-k.at _ c.loop-k-test.true refl, c.requires.room) }

pub next_clause-at-requires : goal.next_clause-at-requires
next_clause-at-requires c = let i = inside _ _ c.requires.ready _ _ c.loop-k-test.true c.loop-k.invariant.place in i.fits

pub loop-k-preserved : goal.loop-k-preserved
loop-k-preserved c =
    let e = c.next_clause-at.ensures in
    let n = size_on c.args.words.now c.args.marks.now c.loop-k.k _ c.loop-k.at c.next_clause-at.result c.loop-k-test.true e in
    record {
      place = start_next _ _ c.requires.ready _ _ c.loop-k-test.true c.loop-k.invariant.place _ e;
      room = omega (arith, c.loop-k.invariant.room, c.copy_entry-to.ensures.place);
      written = copy_on _ _ _ _ _ _ c.loop-k-test.true e _ _ _ _ _ c.copy_entry-to.ensures.place c.copy_entry-to.ensures.written c.loop-k.invariant.written;
    }

pub returns : goal.returns
returns c = sym (copy_end _ _ _ _ _ c.loop-k.at c.loop-k.to c.loop-k-test.false) ∙ c.loop-k.invariant.written
