-- `models_masks::mask_of` meets its contract.
use mathlib.Core.Path.{◌≡◌, sym, ◌∙◌}
use native.Mathlib.Nat.{le_refl}
use native.Mathlib.Omega.{arith}
use lib.ListN.{length}
use borrow.Author.Rules.{rules}
use Rattle.semantics.specs.Lists.{bit}
use Rattle.semantics.proofs.Tests.{bit_bound}
use Rattle.semantics.specs.Programs.{among}
use Rattle.models_masks.proofs.Subsets.{mask_whole, mask_end, mask_more, mask_small}
use Rattle.models_masks.proofs.mask_of.Goals as goal

pub loop-i-init : goal.loop-i-init
loop-i-init c = (search rules, sym (mask_end c.args.set.now (among c.args.part.now) (length c.args.set.now) (le_refl _)))

pub overflow_mul-mask : goal.overflow_mul-mask
overflow_mul-mask c = omega (arith, mask_small c.args.set.now (among c.args.part.now) c.loop-i.i c.loop-i-test.true c.loop-i.invariant.0 c.requires)

pub overflow_add-mask : goal.overflow_add-mask
overflow_add-mask c =
    let e : c.from.result ≡ bit c.has.result = search rules in
    omega (arith, mask_small c.args.set.now (among c.args.part.now) c.loop-i.i c.loop-i-test.true c.loop-i.invariant.0 c.requires, e, bit_bound c.has.result)

pub loop-i-preserved : goal.loop-i-preserved
loop-i-preserved c =
    let e : c.from.result ≡ bit c.has.result = search rules in
    (search rules, (rw (e, c.has.ensures, c.loop-i.invariant.1) (sym (mask_more c.args.set.now (among c.args.part.now) c.loop-i.i c.loop-i-test.true c.loop-i.invariant.0))))

pub returns : goal.returns
returns c = c.loop-i.invariant.1 ∙ mask_whole c.args.set.now (among c.args.part.now) c.loop-i.i c.loop-i-test.false
