-- `step_conditions::count_heads` meets its contract. The invariant: the heads of the clauses before t are counted.
use mathlib.Core.Path.{refl, sym, ◌∙◌}
use native.Mathlib.Omega.{arith}
use Rattle.table.specs.View.{view}
use Rattle.table.proofs.Encoding.{passed_limits}
use Rattle.table.proofs.View.{length_view}
use Rattle.step_conditions.proofs.Heads.{counting_start, counting_past, counting_on, counting_room, counting_end}
use borrow.Author.Rules.{rules}
use Rattle.step_parts.proofs.Laws.{ready}
use Rattle.step_conditions.proofs.count_heads.Goals as goal

pub loop-t-init : goal.loop-t-init
loop-t-init c = (c.clause_count-t-end.ensures, (search rules, (refl, counting_start _ _ _ _ c.requires (c.fill.ensures.after (λ y e. e)))))

pub loop-t-preserved-then-not-kept : goal.loop-t-preserved-then-not-kept
loop-t-preserved-then-not-kept c = (c.loop-t.invariant.0, (search rules, (c.loop-t.invariant.1.1.0, counting_past _ _ _ c.loop-t.t (omega (arith, length_view c.args.program.now.table.words.now c.args.program.now.marks.now)) c.loop-t.invariant.1.1.1 (sym c.kept.ensures ∙ c.if-not-kept.true))))

pub tally_head-requires : goal.tally_head-requires
tally_head-requires c = record { clause = omega arith; room = counting_room (view c.args.program.now.table.words.now c.args.program.now.marks.now) _ _ c.loop-t.t (omega (arith, length_view c.args.program.now.table.words.now c.args.program.now.marks.now)) c.loop-t.invariant.1.1.1 (omega (arith, (passed_limits _ (ready c.args.program.now).placed.passed).few_clauses)) }

pub loop-t-preserved : goal.loop-t-preserved
loop-t-preserved c = (c.loop-t.invariant.0, (search rules, (c.tally_head.ensures.same ∙ c.loop-t.invariant.1.1.0, counting_on _ _ _ c.loop-t.t (omega (arith, length_view c.args.program.now.table.words.now c.args.program.now.marks.now)) c.loop-t.invariant.1.1.1 _ (sym c.kept.ensures ∙ c.if-not-kept.false) c.tally_head.ensures)))

pub shape_of-heads : goal.shape_of-heads
shape_of-heads c = c.loop-t.invariant.1.1.0 ∙ c.fill.ensures.len

pub returns : goal.returns
returns c = counting_end _ _ _ c.loop-t.t (ready c.args.program.now).placed.passed (omega arith) c.loop-t.invariant.1.1.1
