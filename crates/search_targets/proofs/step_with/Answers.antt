-- `step_with`: the words of the step, its atom the partner's first head atom where the kind names one.
use mathlib.Core.Path.{◌∙◌}
use native.Mathlib.Omega.{arith}
use Rattle.table.proofs.Encoding.{passed_limits}
use Rattle.search_targets.proofs.step_with.Goals as goal

pub returns : goal.returns
returns c = c.new.ensures ∙ rw (c.named_atom-atom.ensures, c.first_atom-first.ensures)

pub overflow_cast-t : goal.overflow_cast-t
overflow_cast-t c = omega (arith, c.requires.target, (passed_limits _ c.args.program.now.table.placed.passed).few_clauses)

pub overflow_cast-p : goal.overflow_cast-p
overflow_cast-p c = omega (arith, c.requires.partner, (passed_limits _ c.args.program.now.table.placed.passed).few_clauses)
