-- `step_exclusion::excluded` meets its contract.
use native.Mathlib.Omega.{arith}
use mathlib.Core.Path.{sym, ◌∙◌}
use Prim.Native.Nat.{ℕ}
use lib.ListN.{length-replicate}
use Rattle.rewriting.specs.Marked.{left}
use Rattle.table.proofs.Encoding.{passed_limits}
use Rattle.step_parts.specs.Reading.{clause_of, program_of}
use Rattle.step_exclusion.proofs.Bools.{not_plain, condition_none, condition_all}
use Rattle.step_exclusion.proofs.excluded.Goals as goal

pub returns-then-not-is_plain : goal.returns-then-not-is_plain
returns-then-not-is_plain c = let p = c.args.program.now in not_plain (left (program_of p)) (clause_of p c.args.t) c.args.atom (sym c.is_plain.ensures ∙ c.if-not-is_plain.true)

pub fill_present-requires : goal.fill_present-requires
fill_present-requires c = omega (arith, (passed_limits _ c.args.program.now.table.placed.passed).few_atoms, length-replicate {A = ℕ} 1024 0)

pub fill_consequences-requires-clause-room : goal.fill_consequences-requires-clause-room
fill_consequences-requires-clause-room c = omega (arith, (passed_limits _ c.args.program.now.table.placed.passed).few_atoms, length-replicate {A = ℕ} 1024 0, c.fill_present.auto.bytes)

pub returns-then-not-is_in : goal.returns-then-not-is_in
returns-then-not-is_in c = let p = c.args.program.now in condition_none (left (program_of p)) (clause_of p c.args.t) c.args.atom (sym c.is_plain.ensures ∙ c.if-not-is_plain.false) (sym (c.fill_present.ensures.is c.args.atom) ∙ sym c.is_in.ensures ∙ c.if-not-is_in.true)

pub returns : goal.returns
returns c = let p = c.args.program.now in c.body_in.ensures ∙ condition_all (left (program_of p)) (clause_of p c.args.t) c.args.atom _ (sym c.is_plain.ensures ∙ c.if-not-is_plain.false) (sym (c.fill_present.ensures.is c.args.atom) ∙ sym c.is_in.ensures ∙ c.if-not-is_in.false) c.fill_consequences.ensures.is
