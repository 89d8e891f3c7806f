-- `table_questions::check_clause` meets its contract.
use borrow.Author.Tests.{le-leb, lt-leb}
use Rattle.table.specs.Questions.{clause_from}
use Rattle.answers.specs.Answers.{ask}
use Rattle.table_questions.proofs.check_clause.Goals as goal

pub returns-then-left-lt3 : goal.returns-then-left-lt3
unfolding clause_from ask
returns-then-left-lt3 c = simp (lt-leb _ _ c.if-left-lt3.true)

pub returns-then-left-h : goal.returns-then-left-h
unfolding clause_from ask
returns-then-left-h c =
    rw (← c.from-q.ensures, ← c.from-p.ensures, ← c.from-h.ensures)
    (simp (le-leb _ _ c.if-left-lt3.false, lt-leb _ _ c.if-left-h.true))

pub returns : goal.returns
unfolding clause_from ask
returns c =
    rw (← c.from-q.ensures, ← c.from-p.ensures, ← c.from-h.ensures)
    (simp (le-leb _ _ c.if-left-lt3.false, le-leb _ _ c.if-left-h.false) c.check_parts.ensures)
