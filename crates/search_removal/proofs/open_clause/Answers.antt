-- `open_clause`: by the part.
use native.Mathlib.Omega.{arith}
use Rattle.table.proofs.Encoding.{passed_limits}
use Rattle.search_removal.proofs.open_clause.Goals as goal

pub returns-in-Head : goal.returns-in-Head
returns-in-Head c = rw c.in-Head.is c.open_partner.ensures

pub returns-in-Pos : goal.returns-in-Pos
returns-in-Pos c = rw c.in-Pos.is c.open_head.ensures

pub returns-in-Neg : goal.returns-in-Neg
returns-in-Neg c = rw c.in-Neg.is c.open_partner-in-Neg.ensures

pub open_partner-requires : goal.open_partner-requires
open_partner-requires c = omega (arith, c.requires, (passed_limits _ c.args.program.now.table.placed.passed).few_clauses)

pub open_partner-requires-in-Neg : goal.open_partner-requires-in-Neg
open_partner-requires-in-Neg c = omega (arith, c.requires, (passed_limits _ c.args.program.now.table.placed.passed).few_clauses)
