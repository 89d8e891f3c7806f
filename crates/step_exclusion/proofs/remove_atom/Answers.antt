-- `step_exclusion::remove_atom` meets its contract.
use native.Mathlib.Omega.{arith}
use mathlib.Core.Path.{refl, sym, ◌∙◌}
use Rattle.table.specs.Places.{start_of}
use Rattle.step_parts.specs.Reading.{clause_count}
use Rattle.step_exclusion.proofs.Marks.{remove_start, remove_on, remove_end}
use Rattle.step_exclusion.proofs.remove_atom.Goals as goal

pub loop-t-init : goal.loop-t-init
loop-t-init c = (c.clause_count-t-end.ensures, omega arith, refl, remove_start _ _ _)

pub loop-t-preserved : goal.loop-t-preserved
loop-t-preserved c = (c.loop-t.invariant.0, omega arith, c.clear_clause.auto.marks ∙ c.loop-t.invariant.2, remove_on _ _ (clause_count c.args.table.now) c.loop-t.t _ _ (omega (arith, c.loop-t.invariant.0)) c.clear_clause.ensures ∙ c.loop-t.invariant.3)

pub returns : goal.returns
returns c = sym (remove_end c.args.table.now.words.now c.args.atom (clause_count c.args.table.now) c.loop-t.t (start_of c.args.table.now.words.now c.loop-t.t) c.loop-t.marks (omega (arith, c.loop-t.invariant.0))) ∙ c.loop-t.invariant.3
