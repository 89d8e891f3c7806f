-- `text_writer::put_at` meets its contract. The loop's invariant: the bytes left, stored from here on, give all of them. Assumes nothing.
use mathlib.Core.Path.{refl, sym, ◌∙◌}
use native.Mathlib.Nat.{add-zero}
use lib.ListN.{length-set}
use Rattle.text_writer.proofs.Laws.{bytes_on, bytes_end}
use borrow.Author.Rules.{rules}
use Rattle.text_writer.proofs.put_at.Goals as goal

pub loop-i-init : goal.loop-i-init
loop-i-init c = (refl, (search rules, (refl, rw add-zero)))

pub loop-i-preserved : goal.loop-i-preserved
loop-i-preserved c = let inv = c.loop-i.invariant in (refl, (search rules, (simp length-set inv.1.1.0, sym (bytes_on _ _ _ _ c.loop-i-test.true) ∙ inv.1.1.1)))

pub shape_of-out : goal.shape_of-out
shape_of-out c = c.loop-i.invariant.1.1.0

pub returns : goal.returns
returns c = record { next = search rules; holds = sym (bytes_end _ _ _ _ c.loop-i-test.false) ∙ c.loop-i.invariant.1.1.1 }
