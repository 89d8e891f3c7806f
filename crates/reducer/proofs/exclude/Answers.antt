-- `exclude`: the marks, then the heads anew, then what the step opens.
use native.Mathlib.Omega.{arith}
use Rattle.search_removal.proofs.Keeps.{state_removed}
use Rattle.reducer.proofs.exclude.Goals as goal

pub returns : goal.returns
returns c = record { marks = c.exclude_atom.ensures.marks; state = state_removed _ c.args.marks.now _ c.args.memory.now.heads _ _ c.requires.state _ _ _ c.exclude_atom.ensures.marks c.open_removal.ensures.opened c.open_removal.ensures.fresh _ c.count_heads.ensures (omega (arith, c.count_heads.auto.heads, c.requires.state.atoms)); idle = c.exclude_atom.ensures.known }
