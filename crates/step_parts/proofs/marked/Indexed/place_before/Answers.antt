-- `Indexed::place_before` meets its contract.
use native.Mathlib.Omega.{arith}
use mathlib.Core.Path.{sym, subst}
use Rattle.table.proofs.Encoding.{passed_limits}
use Rattle.step_parts.specs.Parts.{Latest}
use Rattle.step_parts.proofs.marked.Indexed.place_before.Goals as goal

pub bounds-self-i : goal.bounds-self-i
bounds-self-i c = omega (arith, (passed_limits _ c.args.self.now.placed.passed).short, c.args.self.now.placed.long)

pub returns : goal.returns
returns c = λ x a t s. subst (Latest c.args.self.now.words.now c.args.self.now.index.now x a c.args.i) (sym c.from.ensures) (c.args.self.now.placed.before x a t c.args.i s c.requires)
