-- `table_questions::check_part` meets its contract. The invariant: questions 6 and 7 from here on are those of the whole part.
use mathlib.Core.Path.{refl, sym, ◌∙◌}
use borrow.Author.Rules.{rules}
use Rattle.table_questions.proofs.Asked.{atoms_on, atoms_below, atoms_above, atoms_end}
use Rattle.table_questions.proofs.check_part.Goals as goal

pub loop-i-init : goal.loop-i-init
loop-i-init c = (search rules, (search rules, refl))

pub returns-then-atoms-w : goal.returns-then-atoms-w
returns-then-atoms-w c = sym (atoms_below _ _ _ _ _ _ _ c.loop-i-test.true c.if-atoms-w.true) ∙ c.loop-i.invariant.1.1

pub returns-then-w-low : goal.returns-then-w-low
returns-then-w-low c =
    sym (atoms_above _ _ _ _ _ _ _ c.loop-i-test.true c.if-atoms-w.false c.if-w-low.true) ∙ c.loop-i.invariant.1.1

pub loop-i-preserved : goal.loop-i-preserved
loop-i-preserved c = (
  search rules,
  (
    search rules,
    sym (atoms_on _ _ _ _ _ _ _ c.loop-i-test.true c.if-atoms-w.false c.if-w-low.false) ∙ c.loop-i.invariant.1.1,
  ),
)

pub returns : goal.returns
returns c = sym (atoms_end _ _ _ _ _ _ _ c.loop-i-test.false c.loop-i.invariant.1.0) ∙ c.loop-i.invariant.1.1
