-- `partner_eligible`: another clause, kept, the condition, and not passed over; the partner settles the atom.
use mathlib.Core.Path.{sym, ◌∙◌}
use Rattle.search_partners.proofs.Fits.{kept_below, itself_eligible, gone_eligible, unfit_eligible, fit_eligible}
use Rattle.search_partners.proofs.Stamped.partner_eligible.Goals as goal

pub returns-then-p-t : goal.returns-then-p-t
returns-then-p-t c = itself_eligible _ _ c.args.program.now.table.placed.passed _ c.requires.kind _ _ c.requires.kept c.if-p-t.true

pub returns-then-not-kept : goal.returns-then-not-kept
returns-then-not-kept c = gone_eligible _ _ c.args.program.now.table.placed.passed _ c.requires.kind _ _ c.requires.kept (sym c.kept.ensures ∙ c.if-not-kept.true)

pub returns-then-not-partner_fits : goal.returns-then-not-partner_fits
returns-then-not-partner_fits c = unfit_eligible _ _ c.args.program.now.table.placed.passed _ c.requires.kind _ _ c.requires.kept (sym c.kept.ensures ∙ c.if-not-kept.false) c.if-p-t.false _ c.partner_fits.ensures (c.if-not-partner_fits.true)

pub returns : goal.returns
returns c = fit_eligible _ _ c.args.program.now.table.placed.passed _ c.requires.kind _ _ c.requires.kept (sym c.kept.ensures ∙ c.if-not-kept.false) c.if-p-t.false _ c.partner_fits.ensures (c.if-not-partner_fits.false) _ (c.passed_over.ensures _)

pub passed_over-requires-clause-target : goal.passed_over-requires-clause-target
passed_over-requires-clause-target c = kept_below _ _ c.args.program.now.table.placed.passed _ c.requires.kind _ c.args.p c.requires.kept
