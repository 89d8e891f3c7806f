-- `write_step`: four words from the step's place.
use Prim.Native.Nat.{◌*◌}
use Rattle.rewriting.specs.Kinds.{number}
use Rattle.reducer.proofs.Runs.{four_words}
use Rattle.reducer.proofs.write_step.Goals as goal

pub returns : goal.returns
returns c = rw c.number.ensures (four_words c.args.list.now (4 * c.args.s) (number c.args.step.kind) c.args.step.target c.args.step.partner c.args.step.atom)
