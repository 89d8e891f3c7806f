-- A clause that is kept is copied; one that is gone has no words.
use mathlib.Core.Path.{refl, ap}
use native.Mathlib.Omega.{arith}
use lib.ListN.{length}
use Rattle.reduced_sizes.proofs.Words.{entry_gone, entry_kept}
use Rattle.reduced_copying.proofs.copy_entry.Goals as goal

pub returns-then-marks-at-ne1 : goal.returns-then-marks-at-ne1
returns-then-marks-at-ne1 c = rw (entry_gone c.args.words.now c.args.marks.now c.args.at c.if-marks-at-ne1.true) (record { place = omega arith; written = refl })

pub copy_clause-requires : goal.copy_clause-requires
copy_clause-requires c = let e = ap length (entry_kept c.args.words.now c.args.marks.now c.args.at c.if-marks-at-ne1.false) in record { fits = c.requires.inside; room = omega (arith, c.requires.room) }

pub returns : goal.returns
returns c = rw (entry_kept c.args.words.now c.args.marks.now c.args.at c.if-marks-at-ne1.false) c.copy_clause.ensures
