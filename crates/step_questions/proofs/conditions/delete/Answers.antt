-- `step_questions::delete` meets its contract.
use mathlib.Core.Path.{sym, ◌∙◌}
use mathlib.Core.Bool.{false≢true}
use Rattle.step_questions.proofs.Known.{target_fits, after_deletion}
use Rattle.step_conditions.specs.Known.{step_of}
use Rattle.step_questions.proofs.conditions.delete.Goals as goal

pub lose_heads-requires-clause-target : goal.lose_heads-requires-clause-target
lose_heads-requires-clause-target c = (target_fits _ _ c.args.table.now.placed.passed c.requires.marked (step_of c.args.s) c.requires.applies _ c.from.ensures).0

pub lose_heads-requires-clause-kept : goal.lose_heads-requires-clause-kept
lose_heads-requires-clause-kept c = (target_fits _ _ c.args.table.now.placed.passed c.requires.marked (step_of c.args.s) c.requires.applies _ c.from.ensures).1

pub returns-then-not-asks_heads-clause-holding : goal.returns-then-not-asks_heads-clause-holding
returns-then-not-asks_heads-clause-holding c = let l = c.lose_heads.ensures in
    rw c.make_step.ensures (after_deletion _ _ c.args.table.now.placed.passed c.requires.marked (step_of c.args.s) c.requires.applies c.requires.kind c.requires.deletes _ c.from.ensures c.args.memory.now _ c.requires.holding l.heads l.heads_known l.length l.reached (λ x. absurd (false≢true x)))

pub returns-else-not-asks_heads-clause-holding : goal.returns-else-not-asks_heads-clause-holding
returns-else-not-asks_heads-clause-holding c = let l = c.lose_heads.ensures in
    rw c.make_step.ensures (after_deletion _ _ c.args.table.now.placed.passed c.requires.marked (step_of c.args.s) c.requires.applies c.requires.kind c.requires.deletes _ c.from.ensures c.args.memory.now _ c.requires.holding l.heads l.heads_known l.length l.reached (λ _. (sym c.asks_heads.ensures ∙ c.if-not-asks_heads.false, l.reach_known)))
