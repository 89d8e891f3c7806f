-- `search_exclusion::find_targets` meets its contract.
use native.Mathlib.Omega.{arith}
use Prim.Native.Nat.{◌<◌}
use mathlib.Core.Path.{ap, ◌∙◌}
use lib.Dec.{eqb}
use lib.ListN.{length, length-set}
use Rattle.table.proofs.Encoding.{passed_limits}
use Rattle.table.proofs.View.{length_view}
use Rattle.step_parts.specs.Reading.{program_of}
use Rattle.search_exclusion.proofs.Targets.{can_be, byte_test, bytes_on, targets_end}
use Rattle.search_exclusion.proofs.find_targets.Goals as goal

pub bounds-can-t : goal.bounds-can-t
bounds-can-t c = omega (arith, c.loop-t.invariant.0, c.loop-t.invariant.2, c.requires.can, (passed_limits _ c.args.program.now.table.placed.passed).few_clauses)

pub loop-t-preserved : goal.loop-t-preserved
loop-t-preserved c =
    let p = c.args.program.now in
    let l : c.loop-t.t < length c.loop-t.can = omega (arith, c.loop-t.invariant.0, c.loop-t.invariant.2, c.requires.can, (passed_limits _ p.table.placed.passed).few_clauses) in
    (c.loop-t.invariant.0, omega arith, simp length-set c.loop-t.invariant.2, bytes_on (can_be (program_of p) c.args.idle.now) c.loop-t.can c.loop-t.t _ _ l (ap (λ v. eqb v 1) c.from.ensures ∙ byte_test c.is_target.result) c.is_target.ensures c.loop-t.invariant.3)

pub returns : goal.returns
returns c = let p = c.args.program.now in targets_end _ (program_of p) c.args.idle.now _ c.requires.known (λ u l. c.loop-t.invariant.3 u (omega (arith, c.loop-t.invariant.0, length_view p.table.words.now p.marks.now)))
