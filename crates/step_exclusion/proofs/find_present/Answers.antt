-- `step_exclusion::find_present` meets its contract.
use native.Mathlib.Omega.{arith}
use mathlib.Core.Path.{refl, sym, ap, ◌∙◌}
use borrow.Author.Rules.{rules}
use lib.ListN.{length, length-replicate}
use Rattle.step_exclusion.proofs.Sets.{seen_none, seen_past, seen_on, seen_end, occurring_as}
use Rattle.step_exclusion.proofs.find_present.Goals as goal

pub loop-t-init : goal.loop-t-init
loop-t-init c = record {
  end = c.clause_count-t-end.ensures;
  within = omega arith;
  same = (refl, refl);
  room = omega (arith, c.requires, ap length c.new-present.ensures.bytes ∙ length-replicate (length c.args.bytes.now) 0);
  seen = seen_none _ _ (length c.args.bytes.now) _ c.new-present.ensures.bytes;
}

pub loop-t-preserved-then-not-kept : goal.loop-t-preserved-then-not-kept
loop-t-preserved-then-not-kept c = let n = c.loop-t.invariant in record { end = n.end; within = omega arith; same = n.same; room = n.room; seen = seen_past _ _ _ n.seen (sym c.kept.ensures ∙ c.if-not-kept.true) }

pub loop-t-preserved : goal.loop-t-preserved
loop-t-preserved c =
    let n = c.loop-t.invariant in
    let j = c.join_clause.ensures in
    record {
      end = n.end;
      within = omega arith;
      same = (j.same_reference.0 ∙ n.same.0, j.same_reference.1 ∙ n.same.1);
      room = omega (arith, n.room, j.joined.long);
      seen = seen_on _ _ _ n.seen (sym c.kept.ensures ∙ c.if-not-kept.false) j.joined;
    }

pub returns-clause-present : goal.returns-clause-present
returns-clause-present c = occurring_as (search rules) (seen_end _ _ c.loop-t.t c.loop-t.present.bytes.now (omega (arith, c.loop-t.invariant.end)) c.loop-t.invariant.seen)
