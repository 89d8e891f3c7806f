-- `fact_fits`: by the kind.
use mathlib.Core.Path.{ap, ◌∙◌}
use mathlib.Core.Bool.{◌&&◌}
use Rattle.rewriting.specs.Marked.{entry}
use Rattle.rewriting.specs.Steps.{fact}
use Rattle.table.specs.View.{view}
use Rattle.search_partners.proofs.Fits.{fit_success, fit_blocked}
use Rattle.step_kinds.proofs.Cases.{is_blocked}
use Rattle.search_partners.proofs.Stamped.fact_fits.Goals as goal

pub returns-in-Success : goal.returns-in-Success
returns-in-Success c = rw c.in-Success.is (ap (λ b. fact (entry (view c.args.program.now.table.words.now c.args.program.now.marks.now) c.args.p).clause && b) c.has_single.ensures ∙ fit_success _ _ c.args.program.now.table.placed.passed _ _ _ c.requires.stamped)

pub returns-in_default : goal.returns-in_default
returns-in_default c = rw (is_blocked _ c.requires.kind c.in_default.not-Success c.requires.not_eight) (ap (λ b. fact (entry (view c.args.program.now.table.words.now c.args.program.now.marks.now) c.args.p).clause && b) c.has_all.ensures ∙ fit_blocked _ _ c.args.program.now.table.placed.passed _ _ _ c.requires.stamped)
