-- `models_test::check_set` meets its contract.
use mathlib.Core.Path.{sym, ◌∙◌}
use borrow.Author.Tests.{lt-leb}
use Rattle.answers.specs.Answers.{ask}
use Rattle.table_questions.proofs.Asked.{atoms_on, atoms_below, atoms_above, atoms_end}
use Rattle.models_test.proofs.Entries.{set_on}
use Rattle.models_test.specs.Answer.{set_of}
use Rattle.models_test.proofs.check_set.Goals as goal

pub returns-then-set-gt-MAX_SET : goal.returns-then-set-gt-MAX_SET
unfolding set_of ask
returns-then-set-gt-MAX_SET c = simp (lt-leb _ _ c.if-set-gt-MAX_SET.true)

pub returns-then-atoms-a : goal.returns-then-atoms-a
returns-then-atoms-a c = set_on _ _ _ c.if-set-gt-MAX_SET.false (sym (atoms_below _ _ _ _ _ _ _ c.loop-i-test.true c.if-atoms-a.true) ∙ c.loop-i.invariant)

pub returns-then-a-low : goal.returns-then-a-low
returns-then-a-low c = set_on _ _ _ c.if-set-gt-MAX_SET.false (sym (atoms_above _ _ _ _ _ _ _ c.loop-i-test.true c.if-atoms-a.false c.if-a-low.true) ∙ c.loop-i.invariant)

pub loop-i-preserved : goal.loop-i-preserved
loop-i-preserved c = sym (atoms_on _ _ _ _ _ _ _ c.loop-i-test.true c.if-atoms-a.false c.if-a-low.false) ∙ c.loop-i.invariant

pub returns : goal.returns
returns c = set_on _ _ _ c.if-set-gt-MAX_SET.false (sym (atoms_end _ _ _ _ _ _ _ c.loop-i-test.false c.loop-i.auto.i-end) ∙ c.loop-i.invariant)
