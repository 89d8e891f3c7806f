-- `search_idle::forget_from` meets its contract.
use native.Mathlib.Omega.{arith}
use mathlib.Core.Path.{ap}
use lib.ListN.{length, length-replicate}
use Rattle.rewriting.specs.Marked.{entry}
use Rattle.table.proofs.Encoding.{passed_limits}
use Rattle.step_parts.specs.Reading.{program_of}
use Rattle.search_idle.specs.Forgets.{Heads}
use Rattle.search_idle.proofs.Forgets.{forgets_by}
use Rattle.search_idle.proofs.forget_from.Goals as goal

pub join_part-requires-clause-room : goal.join_part-requires-clause-room
join_part-requires-clause-room c = omega (arith, (passed_limits _ c.args.program.now.table.placed.passed).few_atoms, simp length-replicate at (ap length c.new-set.ensures.bytes))

pub spread-requires : goal.spread-requires
spread-requires c = omega (arith, (passed_limits _ c.args.program.now.table.placed.passed).few_atoms, simp length-replicate at (ap length c.new-set.ensures.bytes), c.join_part.ensures.joined.long)

pub returns : goal.returns
returns c = forgets_by (λ F. Heads F (entry (program_of c.args.program.now) c.args.t)) _ _ _ _ _ (λ more k b m. more b (c.join_part.ensures.joined.holds b m)) c.spread.ensures
