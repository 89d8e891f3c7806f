-- `step_conditions::place_of` meets its contract.
use Rattle.std.proofs.Common.{rules, tests, ◌-◌, ◌≡◌}
use mathlib.Core.Path.{ap, ◌∙◌}
use native.Mathlib.Omega.{arith}
use Rattle.std.proofs.lemmas.Iterator.{IsFirst-from_position, YieldsList-from_slice}
use Rattle.table.specs.Effects.{find}
use Rattle.step_conditions.proofs.Tests.{find_by}
use Rattle.step_conditions.proofs.place_of.Goals as goal

pub returns : goal.returns
returns c =
    let words = c.args.table.now.words.now in
    let s = c.span-s.result in
    let e = find_by words c.args.atom s.from (s.end - s.from) c.position.result (omega (arith, c.span-s.ensures.order, c.span-s.ensures.fits))
    (IsFirst-from_position _ _ c.position.result (λ w. w ≡ c.args.atom) (λ w. w ≡ c.args.atom → ⊥) c.position.ensures.ran (YieldsList-from_slice _ c.iter.ensures.rest) (λ x q k. search (rules, tests)) (λ x q k. search (rules, tests))) in
    rw c.unwrap_or.ensures (e ∙ ap (λ b. find words c.args.atom b.from (b.end - b.from)) c.span-s.ensures.is)
