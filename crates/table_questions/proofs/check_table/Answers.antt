-- `table_questions::check_table` meets its contract. The invariant: the walk along the clauses from here on is that of the whole table.
use mathlib.Core.Path.{sym, ◌∙◌}
use borrow.Author.Tests.{le-leb, lt-leb}
use native.Mathlib.Omega.{arith}
use native.Mathlib.Nat.{sub-zero}
use Rattle.table_questions.proofs.Asked.{clauses_on, clauses_bad, clauses_end, table_on}
use Rattle.table.proofs.Encoding.{clause_within}
use Rattle.table.specs.Questions.{on_walk, all_used, table_of}
use Rattle.answers.specs.Answers.{ask}
use borrow.Author.Rules.{rules}
use Rattle.std.proofs.lemmas.Result.{err_from_is_err_and}
use Rattle.table_questions.proofs.check_table.Goals as goal

pub returns-then-len-lt2 : goal.returns-then-len-lt2
unfolding table_of ask
returns-then-len-lt2 c = simp (lt-leb _ _ c.if-len-lt2.true)

pub returns-then-len-gt-MAX_WORDS : goal.returns-then-len-gt-MAX_WORDS
unfolding table_of ask
returns-then-len-gt-MAX_WORDS c = simp (le-leb _ _ c.if-len-lt2.false, lt-leb _ _ c.if-len-gt-MAX_WORDS.true)

pub returns-then-atoms-gt-MAX_ATOMS : goal.returns-then-atoms-gt-MAX_ATOMS
unfolding table_of ask
returns-then-atoms-gt-MAX_ATOMS c = simp (le-leb _ _ c.if-len-lt2.false, le-leb _ _ c.if-len-gt-MAX_WORDS.false, lt-leb _ _ c.if-atoms-gt-MAX_ATOMS.true)

pub returns-then-clauses-gt-MAX_CLAUSES : goal.returns-then-clauses-gt-MAX_CLAUSES
unfolding table_of ask
returns-then-clauses-gt-MAX_CLAUSES c = simp (le-leb _ _ c.if-len-lt2.false, le-leb _ _ c.if-len-gt-MAX_WORDS.false, le-leb _ _ c.if-atoms-gt-MAX_ATOMS.false, lt-leb _ _ c.if-clauses-gt-MAX_CLAUSES.true)

pub loop-k-init : goal.loop-k-init
loop-k-init c = (search rules, (search rules, simp sub-zero))

pub returns-in_err-at : goal.returns-in_err-at
unfolding all_used on_walk
returns-in_err-at c =
    let q = sym c.check_clause.ensures ∙ c.in_err-at.was in
    let p = err_from_is_err_and c.from_residual.result c.from_residual.ensures.1 in
    rw (p.1, p.2) (sym (table_on _ _ (omega arith) (omega arith) (omega arith) (omega arith)
    (sym c.loop-k.invariant.1.1 ∙ clauses_bad _ _ _ _ _ c.loop-k-test.true _ q)))

pub loop-k-preserved : goal.loop-k-preserved
loop-k-preserved c =
    let q = sym c.check_clause.ensures ∙ c.in_ok-at.was in (
      search rules,
      (
        clause_within _ _ _ _ c.loop-k.invariant.1.0 q,
        sym (clauses_on _ _ _ _ _ c.loop-k-test.true _ q) ∙ c.loop-k.invariant.1.1,
      ),
    )

pub returns-then-at-len : goal.returns-then-at-len
unfolding all_used on_walk ask
returns-then-at-len c =
    let w = table_on _ _ (omega arith) (omega arith) (omega arith) (omega arith) (sym c.loop-k.invariant.1.1 ∙ clauses_end _ _ _ _ _ c.loop-k-test.false) in
    rw w (simp (lt-leb _ _ c.if-at-len.true))

pub returns : goal.returns
unfolding all_used on_walk ask
returns c =
    let w = table_on _ _ (omega arith) (omega arith) (omega arith) (omega arith) (sym c.loop-k.invariant.1.1 ∙ clauses_end _ _ _ _ _ c.loop-k-test.false) in
    rw w (simp (le-leb _ _ c.if-at-len.false, c.new.ensures))
