-- `search_idle::exclude_atom` meets its contract.
use Rattle.search_idle.proofs.Memory.{idle_kept}
use Rattle.search_idle.proofs.Forgets.{with_nothing}
use Rattle.search_idle.proofs.exclude_atom.Goals as goal

pub returns-then-not-any_idle-clause-known : goal.returns-then-not-any_idle-clause-known
returns-then-not-any_idle-clause-known c = idle_kept _ c.args.marks.now _ _ _ _ _ c.args.table.now.placed.passed c.requires.marks c.remove_atom.ensures (with_nothing _ _ _ _ (c.any_idle.ensures c.if-not-any_idle.true)) c.requires.known

pub returns-clause-known : goal.returns-clause-known
returns-clause-known c = idle_kept _ c.args.marks.now _ _ _ _ _ c.args.table.now.placed.passed c.requires.marks c.remove_atom.ensures c.forget_without.ensures c.requires.known
