-- `cycle::search::Trail::look` meets its contract.
use mathlib.Core.Path.{refl}
use native.Mathlib.Omega.{arith}
use Rattle.std.specs.Prelude.{Some}
use Rattle.cycle.specs.declared.search.State.TheVariants.{Unmet, OnChain, Ended}
use Rattle.cycle.specs.Search.{met, over, on}
use Rattle.cycle.proofs.Trails.{state_rank, rank_set, link_set}
use Rattle.cycle.proofs.search.Trail.look.Goals as goal

pub returns-in-OnChain : goal.returns-in-OnChain
returns-in-OnChain c = (refl, met (state_rank c.args.self.now.states c.from-i.result c.args.next c.from-i.ensures _ OnChain (omega arith) c.in-OnChain.is))

pub returns-in-Ended : goal.returns-in-Ended
returns-in-Ended c = (refl, over (state_rank c.args.self.now.states c.from-i.result c.args.next c.from-i.ensures _ Ended (omega arith) c.in-Ended.is) refl refl refl)

pub returns-in-Unmet : goal.returns-in-Unmet
returns-in-Unmet c =
    let two = state_rank c.args.self.now.states c.from-i.result c.args.next c.from-i.ensures _ Unmet (omega arith) c.in-Unmet.is in
    (refl, on (λ e. omega arith) (λ e. omega arith) (rank_set _ _ _ c.from-i.ensures OnChain) refl (link_set _ _ _ c.from-i.ensures (Some c.args.last)))
