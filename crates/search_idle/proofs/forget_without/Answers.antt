-- `search_idle::forget_without` meets its contract.
use native.Mathlib.Omega.{arith}
use mathlib.Core.Path.{ap}
use lib.ListN.{length, length-replicate}
use Rattle.table.proofs.Encoding.{passed_limits}
use Rattle.step_parts.specs.Reading.{words_of, program_of}
use Rattle.search_idle.proofs.Forgets.{forgets_none, with_none, forgets_two}
use Rattle.search_idle.proofs.forget_without.Goals as goal

pub returns-then-atom-ge1024 : goal.returns-then-atom-ge1024
returns-then-atom-ge1024 c = let p = c.args.program.now in forgets_none _ _ _ (with_none (words_of p) (program_of p) c.args.atom _ p.table.placed.passed c.if-atom-ge1024.true)

pub spread_atom-requires-clause-room : goal.spread_atom-requires-clause-room
spread_atom-requires-clause-room c = omega (arith, (passed_limits _ c.args.program.now.table.placed.passed).few_atoms, simp length-replicate at (ap length c.new-set.ensures.bytes))

pub spread_atom-requires-2-clause-room : goal.spread_atom-requires-2-clause-room
spread_atom-requires-2-clause-room c = omega (arith, (passed_limits _ c.args.program.now.table.placed.passed).few_atoms, simp length-replicate at (ap length c.new-set.ensures.bytes), c.spread_atom.ensures.onward.later.long)

pub spread-requires : goal.spread-requires
spread-requires c = omega (arith, (passed_limits _ c.args.program.now.table.placed.passed).few_atoms, simp length-replicate at (ap length c.new-set.ensures.bytes), c.spread_atom.ensures.onward.later.long, c.spread_atom-2.ensures.onward.later.long)

pub returns : goal.returns
returns c = let p = c.args.program.now in forgets_two (words_of p) (program_of p) c.args.atom c.spread_atom.ensures.onward c.spread_atom.ensures.met c.spread_atom-2.ensures.onward c.spread_atom-2.ensures.met c.spread.ensures
