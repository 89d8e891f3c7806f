-- `Atoms::within` meets its contract.
use mathlib.Core.Path.{refl, sym, ap, subst, ◌∙◌}
use mathlib.Core.List.Memᴰ
use native.Mathlib.Omega.{arith}
use Rattle.std.proofs.Math.Bool.{So}
use Rattle.semantics.specs.Lists.{◌∈◌, within, ascending}
use Rattle.table.specs.Slices.{kept_of}
use Rattle.step_parts.proofs.Walked.{kept_ascends, all_above}
use Rattle.step_parts.proofs.atoms.Atoms.within.Goals as goal

pub loop-atom-init : goal.loop-atom-init
loop-atom-init c = rw (c.into_iter-atom-iterator.ensures.into_iter_gives, c.kept-atom-items.ensures.words, c.kept-atom-items.ensures.marks) (tt, tt, omega arith, refl, kept_ascends _ _ c.args.self.now.ascends, λ a k m h. absurd (omega arith))

pub skip-at-requires-clause-below : goal.skip-at-requires-clause-below
skip-at-requires-clause-below c = λ k h. c.loop-atom.invariant.5 _ k (subst (λ l. c.in-Some.atom ∈ l) (sym c.in-Some.ensures.steps) (Memᴰ.head refl)) h

pub loop-atom-preserved : goal.loop-atom-preserved
loop-atom-preserved c =
    let e = c.in-Some.ensures.steps in
    let w = all_above _ _ (subst (λ l. So (ascending l)) e c.loop-atom.invariant.4) in
    let others = kept_of c.args.other.now.words.now c.args.other.now.marks.now in (
      tt,
      tt,
      c.skip-at.ensures.within,
      sym (ap (λ l. within l others) e ∙ rw (sym c.if-not-stands.ensures) refl) ∙ c.loop-atom.invariant.3,
      w.0,
      λ a k m h. omega (arith, c.skip-at.ensures.below k h, w.1 a m),
    )
