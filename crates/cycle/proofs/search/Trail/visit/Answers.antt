-- `cycle::search::Trail::visit` meets its contract.
use Prim.Native.Nat.{◌<◌}
use mathlib.Core.Path.{refl}
use native.Mathlib.Omega.{arith}
use lib.ListN.{length}
use Rattle.std.specs.Prelude.{None}
use Rattle.cycle.specs.declared.search.State.TheVariants.{OnChain}
use Rattle.cycle.proofs.Ended.{visit_search, atom_fits, visit_end}
use Rattle.cycle.proofs.Trails.{rank_set, link_set, not_ended}
use Rattle.cycle.proofs.search.Trail.visit.Goals as goal

pub bounds : goal.bounds
bounds c = atom_fits c.requires.idle c.args.atom c.from-i.result c.from-i.ensures c.requires.below

pub bounds-self-i : goal.bounds-self-i
bounds-self-i c = atom_fits c.requires.idle c.args.atom c.from-i.result c.from-i.ensures c.requires.below

pub bounds-self-i-2 : goal.bounds-self-i-2
bounds-self-i-2 c = atom_fits c.requires.idle c.args.atom c.from-i.result c.from-i.ensures c.requires.below

pub explore-requires : goal.explore-requires
explore-requires c =
    let h : c.from-i.result < length c.args.self.now.states = omega (arith, atom_fits c.requires.idle c.args.atom c.from-i.result c.from-i.ensures c.requires.below) in
    rw (rank_set c.args.self.now.states c.from-i.result c.from-i.result refl OnChain, link_set c.args.self.now.parents c.from-i.result c.from-i.result refl None)
    (visit_search c.requires.idle c.args.atom c.from-i.result c.from-i.ensures c.requires.below (not_ended c.args.self.now.states c.from-i.result _ h c.in_default.not-Ended))

pub returns : goal.returns
returns c =
    let h : c.from-i.result < length c.args.self.now.states = omega (arith, atom_fits c.requires.idle c.args.atom c.from-i.result c.from-i.ensures c.requires.below) in
    visit_end c.requires.idle c.args.atom c.from-i.result c.from-i.ensures c.requires.below (not_ended c.args.self.now.states c.from-i.result _ h c.in_default.not-Ended) _ _ _ _ c.explore.result
    (rw (rank_set c.args.self.now.states c.from-i.result c.from-i.result refl OnChain, link_set c.args.self.now.parents c.from-i.result c.from-i.result refl None) at c.explore.ensures)
