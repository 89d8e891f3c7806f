-- `step_parts::skip` meets its contract.
use Rattle.std.proofs.Common.{rules, tests, ◌≤◌, ◌<◌}
use mathlib.Core.Path.{◌∙◌}
use Rattle.std.proofs.lemmas.Iterator.{IsFirst-from_position, YieldsList-from_slice}
use Rattle.step_parts.proofs.Walked.{sought_on, rest_all}
use Rattle.step_parts.proofs.atoms.skip.Goals as goal

pub returns : goal.returns
returns c =
    let part = c.args.part.now in
    rw (c.unwrap_or.ensures, rest_all part c.args.from) (sought_on part c.args.from c.args.atom c.position.result c.requires.within c.requires.below c.requires.ascends
    (IsFirst-from_position _ _ c.position.result (λ w. c.args.atom ≤ w) (λ w. w < c.args.atom) c.position.ensures.ran (YieldsList-from_slice _ (c.iter.ensures.rest ∙ rest_all part c.args.from)) (λ x q k. search (rules, tests)) (λ x q k. search (rules, tests))))
