-- `partner_fits`: by the kind; 3 and 5 ask for a fact, whose head is looked at first.
use mathlib.Core.Path.{◌∙◌}
use Rattle.rewriting.specs.Marked.{entry}
use Rattle.rewriting.specs.Steps.{fact}
use Rattle.table.specs.View.{view}
use Rattle.search_partners.proofs.Fits.{fit_subsumed, fits_not, fits_fact}
use Rattle.search_partners.proofs.Stamped.partner_fits.Goals as goal

pub returns-in-Subsumed : goal.returns-in-Subsumed
returns-in-Subsumed c = rw c.in-Subsumed.is (c.has_clause.ensures ∙ fit_subsumed _ _ c.args.program.now.table.placed.passed _ _ _ c.requires.stamped)

pub returns-else-fact_fits : goal.returns-else-fact_fits
returns-else-fact_fits c = c.if-fact_fits.false ∙ fits_not (fact (entry (view c.args.program.now.table.words.now c.args.program.now.marks.now) c.args.p).clause) c.fact_fits.result _ c.fact_fits.ensures c.if-fact_fits.false

pub returns-then-fact_fits : goal.returns-then-fact_fits
returns-then-fact_fits c = c.is_fact.ensures ∙ fits_fact (fact (entry (view c.args.program.now.table.words.now c.args.program.now.marks.now) c.args.p).clause) c.fact_fits.result _ c.fact_fits.ensures c.if-fact_fits.true
