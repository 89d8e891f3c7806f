-- `clear_last` meets its contract.
use Rattle.std.proofs.Common.{◌-◌, take}
use mathlib.Core.Path.{refl, ◌∙◌}
use native.Mathlib.Omega.{arith}
use lib.ListN.{length-take, length-drop}
use Rattle.std.proofs.lemmas.List.{get_or-append_right, get_or_append_left}
use Rattle.step_parts.proofs.linking.clear_last.Goals as goal

pub returns : goal.returns
returns c = λ i a b.
    let room = c.requires in
    let n = simp (length-take, length-drop) at c.fill.ensures.len in
    get_or-append_right (take 2049 c.args.index.now) _ 2049 i 0 (simp length-take (omega arith)) a
    ∙ get_or_append_left c.fill.new.self _ 0 (i - 2049) (omega arith)
    ∙ c.fill.ensures.clones (i - 2049) 0 (simp (length-take, length-drop) (omega arith)) refl
