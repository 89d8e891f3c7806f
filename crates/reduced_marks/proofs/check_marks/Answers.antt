-- The two words in front, then clause by clause. The invariant: the walk from here on is the walk from the start.
use mathlib.Core.Path.{refl, sym, ap, ◌∙◌}
use native.Mathlib.Omega.{arith}
use lib.ListN.{length}
use borrow.Author.Rules.{rules}
use Rattle.std.specs.Prelude.{Ok, Err}
use Rattle.std.proofs.lemmas.Result.{err_from_is_err_and}
use Rattle.table.specs.Places.{start_from}
use Rattle.table.proofs.Encoding.{passed_limits}
use Rattle.table.proofs.Walks.{along_end}
use Rattle.reduced_marks.specs.Allowed.{allowed}
use Rattle.reduced_marks.proofs.Spans.{inside, start_next}
use Rattle.reduced_marks.proofs.Marks.{front_stop, front_next, clause_stop, clause_next, marks_end}
use Rattle.reduced_marks.proofs.check_marks.Goals as goal

pub check_span-requires-clause-within : goal.check_span-requires-clause-within
check_span-requires-clause-within c = let l = passed_limits _ c.requires.passed in omega (arith, c.requires.marked)

pub returns-in_err-check_span : goal.returns-in_err-check_span
returns-in_err-check_span c =
    let l = passed_limits _ c.requires.passed in
    let p = err_from_is_err_and c.from_residual.result c.from_residual.ensures.1 in
    p.1 ∙ ap Err p.2 ∙ sym (front_stop c.args.words.now c.args.marks.now l.long _ (sym c.check_span.ensures ∙ c.in_err-check_span.was))

pub bounds-words-1 : goal.bounds-words-1
bounds-words-1 c = let l = passed_limits _ c.requires.passed in search rules

pub loop-k-init : goal.loop-k-init
unfolding start_from
loop-k-init c = let l = passed_limits _ c.requires.passed in record { place = refl; walk = front_next c.args.words.now c.args.marks.now l.long _ (sym c.check_span.ensures ∙ c.in_ok-check_span.was) }

pub check_clause_marks-requires : goal.check_clause_marks-requires
check_clause_marks-requires c = inside _ _ c.requires _ _ c.loop-k-test.true c.loop-k.invariant.place

pub returns-in_err-at : goal.returns-in_err-at
returns-in_err-at c =
    let i = inside _ _ c.requires _ _ c.loop-k-test.true c.loop-k.invariant.place in
    let p = err_from_is_err_and c.from_residual-in_err-at.result c.from_residual-in_err-at.ensures.1 in
    p.1 ∙ ap Err p.2 ∙ sym (clause_stop _ c.args.marks.now _ _ c.loop-k-test.true c.loop-k.invariant.place i.fits _ (sym c.check_clause_marks.ensures ∙ c.in_err-at.was)) ∙ c.loop-k.invariant.walk

pub loop-k-preserved : goal.loop-k-preserved
loop-k-preserved c =
    let i = inside _ _ c.requires _ _ c.loop-k-test.true c.loop-k.invariant.place in
    let (e, w) = clause_next _ c.args.marks.now _ _ c.loop-k-test.true c.loop-k.invariant.place i.fits _ (sym c.check_clause_marks.ensures ∙ c.in_ok-at.was) in
    record { place = start_next _ _ c.requires _ _ c.loop-k-test.true c.loop-k.invariant.place _ e; walk = sym w ∙ c.loop-k.invariant.walk }

pub returns : goal.returns
returns c =
    let e = along_end _ _ _ c.requires.passed (record { most = c.loop-k.auto.k-end; place = c.loop-k.invariant.place }) c.loop-k-test.false in
    ap Ok e ∙ sym (marks_end (allowed c.args.words.now c.args.marks.now) c.loop-k.at (length c.args.words.now) (omega arith) (omega arith)) ∙ c.loop-k.invariant.walk
