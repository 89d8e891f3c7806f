-- `Stamped::stamp_clause`: the parts one after the other, from nothing.
use Prim.Native.Nat.{ℕ}
use mathlib.Core.Path.{◌∙◌}
use lib.ListN.{length-replicate}
use Rattle.search_partners.proofs.Stamps.{length_stamped}
use Rattle.search_partners.proofs.Fits.{clause_stamps}
use Rattle.search_partners.proofs.Stamped.stamp_clause.Goals as goal

pub returns-clause-stamps : goal.returns-clause-stamps
returns-clause-stamps c = rw (c.stamp-3.ensures, c.stamp-2.ensures, c.stamp.ensures, c.requires.none) (clause_stamps _ _ c.args.program.now.table.placed.passed _)

pub returns-clause-long : goal.returns-clause-long
returns-clause-long c = rw (c.stamp-3.ensures, c.stamp-2.ensures, c.stamp.ensures, c.requires.none) (length_stamped _ _ _ ∙ length_stamped _ _ _ ∙ length_stamped _ _ _ ∙ length-replicate {A = ℕ} 3072 0)
