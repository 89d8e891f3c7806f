-- `reduce_kept`: the index and the memory, then the steps.
use Rattle.std.proofs.Common.{refl, subst}
use Rattle.search_idle.proofs.Memory.{idle_none}
use Rattle.reducer.specs.Runs.{Reduced}
use Rattle.reducer.proofs.reduce_kept.Goals as goal

pub run_steps-requires-clause-idle : goal.run_steps-requires-clause-idle
run_steps-requires-clause-idle c = idle_none _ _ 2048 _ refl

pub returns : goal.returns
returns c = subst (λ ws. Reduced ws c.args.marks.now c.args.list.now c.run_steps.new.marks c.run_steps.new.list c.run_steps.result) c.new-table.ensures c.run_steps.ensures
