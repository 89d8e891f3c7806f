-- `pass_key`: a fresh key is spread, then cleared.
use mathlib.Core.Path.{sym, ◌∙◌}
use Rattle.rewriting.proofs.Rows.{target_bounds}
use Rattle.search_keys.proofs.States.{key_passed, key_stale}
use Rattle.search_keys.proofs.pass_key.Goals as goal

pub returns-then-flag_at-eq0 : goal.returns-then-flag_at-eq0
returns-then-flag_at-eq0 c = key_stale _ _ _ _ _ _ c.requires.state _ _ (sym c.flag_at.ensures ∙ c.if-flag_at-eq0.true)

pub returns : goal.returns
returns c = rw c.set_flag.ensures (key_passed _ _ _ _ _ _ c.requires.state _ _ _ (target_bounds _ c.requires.kind).0 (target_bounds _ c.requires.kind).1 c.requires.key c.spread_key.ensures)
