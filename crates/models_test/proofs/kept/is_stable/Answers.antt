-- `models_test::kept::is_stable` meets its contract.
use mathlib.Core.Path.{◌∙◌}
use Rattle.models_test.proofs.Minimal.{test_masks}
use Rattle.models_test.proofs.kept.is_stable.Goals as goal

pub returns : goal.returns
returns c = c.stable.ensures ∙ rw c.as_slice.ensures (test_masks _ _ _ c.requires c.fill.ensures _ c.mask_of.ensures)
