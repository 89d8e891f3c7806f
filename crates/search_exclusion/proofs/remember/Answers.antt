-- `search_exclusion::remember` meets its contract. The invariant: the bytes before t are set where they have to be.
use native.Mathlib.Omega.{arith}
use mathlib.Core.Path.{refl, subst}
use lib.ListN.{length-set}
use Rattle.search_exclusion.specs.Tries.{Remembered}
use Rattle.search_exclusion.proofs.Targets.{remember_none, remember_past, remember_on}
use borrow.Author.Rules.{rules}
use Rattle.search_exclusion.proofs.remember.Goals as goal

pub loop-t-init : goal.loop-t-init
loop-t-init c = (search rules, (refl, remember_none _ _))

pub loop-t-preserved-then-can-t-ne1 : goal.loop-t-preserved-then-can-t-ne1
loop-t-preserved-then-can-t-ne1 c = (search rules, (c.loop-t.invariant.1.0, remember_past _ _ _ _ c.loop-t.invariant.1.1))

pub loop-t-preserved : goal.loop-t-preserved
loop-t-preserved c = (search rules, (simp length-set c.loop-t.invariant.1.0, remember_on _ _ _ _ c.loop-t.invariant.1.1 c.if-can-t-ne1.false))

pub returns : goal.returns
returns c = subst (λ k. Remembered c.args.can.now k c.args.idle.now c.loop-t.idle) (omega arith) c.loop-t.invariant.1.1
