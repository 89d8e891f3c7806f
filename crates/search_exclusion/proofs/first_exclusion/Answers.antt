-- `search_exclusion::first_exclusion` meets its contract.
use native.Mathlib.Omega.{arith}
use mathlib.Core.Path.{sym, ap, subst, ◌∙◌}
use Prim.Native.Nat.{ℕ}
use lib.ListN.{length-replicate}
use Rattle.table.proofs.Encoding.{passed_limits}
use Rattle.table.proofs.View.{length_view}
use Rattle.step_parts.specs.Reading.{atom_count, clause_count, program_of}
use Rattle.search_exclusion.specs.Tries.{best_of, Remembered}
use Rattle.search_exclusion.proofs.Targets.{idle_on}
use Rattle.search_exclusion.proofs.Tries.{smallest_none, smallest_by, within_by}
use Rattle.search_exclusion.proofs.first_exclusion.Goals as goal

pub first_set-low-requires : goal.first_set-low-requires
first_set-low-requires c = omega (arith, c.clause_count-clauses.ensures, (passed_limits _ c.args.program.now.table.placed.passed).few_clauses, length-replicate {A = ℕ} 2048 0, c.find_targets.auto.can)

pub returns-then-clauses-low-clause-smallest : goal.returns-then-clauses-low-clause-smallest
returns-then-clauses-low-clause-smallest c = let p = c.args.program.now in smallest_none (atom_count p.table) (program_of p) _ c.find_targets.ensures _ c.first_set-low.ensures (omega (arith, c.if-clauses-low.true, c.clause_count-clauses.ensures, length_view p.table.words.now p.marks.now))

pub remember-requires-clause-can : goal.remember-requires-clause-can
remember-requires-clause-can c =
    let p = c.args.program.now in
    let e = c.target_or.ensures ∙ ap (λ m. (best_of m c.best_pair-best.result).target) c.clause_count-clauses.ensures in
    omega (arith, e, within_by (clause_count p.table) _ c.best_pair-best.ensures.known, (passed_limits _ p.table.placed.passed).few_clauses, length-replicate {A = ℕ} 2048 0, c.find_targets.auto.can)

pub remember-requires-clause-idle : goal.remember-requires-clause-idle
remember-requires-clause-idle c =
    let p = c.args.program.now in
    let e = c.target_or.ensures ∙ ap (λ m. (best_of m c.best_pair-best.result).target) c.clause_count-clauses.ensures in
    omega (arith, e, within_by (clause_count p.table) _ c.best_pair-best.ensures.known, (passed_limits _ p.table.placed.passed).few_clauses, c.requires.room)

pub returns-clause-smallest : goal.returns-clause-smallest
returns-clause-smallest c = let p = c.args.program.now in smallest_by (atom_count p.table) (program_of p) (clause_count p.table) _ (sym (length_view p.table.words.now p.marks.now)) c.best_pair-best.ensures.known c.best_pair-best.ensures.best

pub returns-clause-known : goal.returns-clause-known
returns-clause-known c =
    let p = c.args.program.now in
    let e = c.target_or.ensures ∙ ap (λ m. (best_of m c.best_pair-best.result).target) c.clause_count-clauses.ensures in
    idle_on (atom_count p.table) (program_of p) _ (best_of (clause_count p.table) c.best_pair-best.result) _ _ c.requires.known c.find_targets.ensures c.best_pair-best.ensures.best (subst (λ t. Remembered c.find_targets.new.can t c.args.idle.now c.remember.new.idle) e c.remember.ensures)
