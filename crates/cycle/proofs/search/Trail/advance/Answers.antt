-- `cycle::search::Trail::advance` meets its contract.
use Prim.Native.Nat.{◌-◌, ◌<◌}
use mathlib.Core.Path.{refl, ap, ◌∙◌}
use native.Mathlib.Omega.{arith}
use lib.ListN.{length}
use Rattle.std.specs.Prelude.{None}
use Rattle.table.specs.Programs.{clause_of}
use Rattle.step_parts.specs.declared.Part.TheVariants.{Head}
use Rattle.cycle.specs.declared.search.State.TheVariants.{Ended}
use Rattle.cycle.proofs.Advance.{atom_low, finish_at, stands_at, place_low, clause_below, clause_low, pass_at, b_low, left_at, look_at}
use Rattle.cycle.proofs.Answered.{latest_low}
use Rattle.cycle.proofs.Moves.{atoms, top_below}
use Rattle.cycle.proofs.Trails.{rank_set, link_at}
use Rattle.cycle.proofs.search.Trail.advance.Goals as goal

pub bounds-self-a : goal.bounds-self-a
bounds-self-a c = omega (arith, c.from-a.ensures, top_below c.requires (λ e. omega (arith, c.ranges.last)), atoms c.requires)

pub bounds-self-a-then-place-eq0 : goal.bounds-self-a-then-place-eq0
bounds-self-a-then-place-eq0 c = atom_low c.requires (λ e. omega (arith, c.ranges.last)) c.from-a.result c.from-place.result c.from-a.ensures c.from-place.ensures

pub bounds-self-a-then-place-eq0-2 : goal.bounds-self-a-then-place-eq0-2
bounds-self-a-then-place-eq0-2 c = atom_low c.requires (λ e. omega (arith, c.ranges.last)) c.from-a.result c.from-place.result c.from-a.ensures c.from-place.ensures

pub returns-then-place-eq0 : goal.returns-then-place-eq0
returns-then-place-eq0 c =
    let h : c.from-a.result < length c.args.self.now.parents = omega (arith, atom_low c.requires (λ e. omega (arith, c.ranges.last)) c.from-a.result c.from-place.result c.from-a.ensures c.from-place.ensures) in
    rw (rank_set c.args.self.now.states c.from-a.result c.from-a.result refl Ended, ← link_at c.args.self.now.parents c.from-a.result None h) (finish_at c.requires (λ e. omega (arith, c.ranges.last)) c.from-a.result c.from-place.result c.from-a.ensures c.from-place.ensures c.if-place-eq0.true)

pub owner-clause-requires : goal.owner-clause-requires
owner-clause-requires c = (place_low c.requires (λ e. omega (arith, c.ranges.last)) c.from-a.result c.from-place.result c.from-a.ensures c.from-place.ensures c.if-place-eq0.false).0

pub offset_bounds-self-clause : goal.offset_bounds-self-clause
offset_bounds-self-clause c = omega (arith, clause_low c.requires (λ e. omega (arith, c.ranges.last)) c.from-a.result c.from-place.result c.from-a.ensures c.from-place.ensures c.if-place-eq0.false c.owner-clause.result c.owner-clause.ensures)

pub bounds-self-clause : goal.bounds-self-clause
bounds-self-clause c = clause_low c.requires (λ e. omega (arith, c.ranges.last)) c.from-a.result c.from-place.result c.from-a.ensures c.from-place.ensures c.if-place-eq0.false c.owner-clause.result c.owner-clause.ensures

pub first_word-requires : goal.first_word-requires
first_word-requires c = clause_below c.requires (λ e. omega (arith, c.ranges.last)) c.from-a.result c.from-place.result c.from-a.ensures c.from-place.ensures c.if-place-eq0.false c.owner-clause.result c.owner-clause.ensures

pub place_before-requires : goal.place_before-requires
place_before-requires c = (place_low c.requires (λ e. omega (arith, c.ranges.last)) c.from-a.result c.from-place.result c.from-a.ensures c.from-place.ensures c.if-place-eq0.false).0

pub overflow_cast-self : goal.overflow_cast-self
overflow_cast-self c = let h = place_low c.requires (λ e. omega (arith, c.ranges.last)) c.from-a.result c.from-place.result c.from-a.ensures c.from-place.ensures c.if-place-eq0.false in omega (arith, latest_low (omega (arith, h.0, h.1)) (c.place_before.ensures Head _ _ (stands_at c.requires (λ e. omega (arith, c.ranges.last)) c.from-a.result c.from-place.result c.from-a.ensures c.from-place.ensures c.if-place-eq0.false)))

pub returns-then-pos-passed : goal.returns-then-pos-passed
returns-then-pos-passed c = pass_at c.requires (λ e. omega (arith, c.ranges.last)) c.from-a.result c.from-place.result c.from-a.ensures c.from-place.ensures c.if-place-eq0.false c.owner-clause.result c.owner-clause.ensures (8192 - c.from-passed.result) (ap (λ k. 8192 - k) c.from-passed.ensures) c.pos_of-pos.result.now (c.pos_of-pos.ensures ∙ ap (λ at. (clause_of c.args.table.now.words.now at).pos) c.first_word.ensures.is) c.if-pos-passed.true _ (c.place_before.ensures Head _ _ (stands_at c.requires (λ e. omega (arith, c.ranges.last)) c.from-a.result c.from-place.result c.from-a.ensures c.from-place.ensures c.if-place-eq0.false))

pub look-requires-clause-next : goal.look-requires-clause-next
look-requires-clause-next c = b_low c.requires (λ e. omega (arith, c.ranges.last)) c.from-a.result c.from-place.result c.from-a.ensures c.from-place.ensures c.if-place-eq0.false c.owner-clause.result c.owner-clause.ensures (8192 - c.from-passed.result) (ap (λ k. 8192 - k) c.from-passed.ensures) c.pos_of-pos.result.now (c.pos_of-pos.ensures ∙ ap (λ at. (clause_of c.args.table.now.words.now at).pos) c.first_word.ensures.is) c.if-pos-passed.false

pub look-requires-clause-clause : goal.look-requires-clause-clause
look-requires-clause-clause c = clause_low c.requires (λ e. omega (arith, c.ranges.last)) c.from-a.result c.from-place.result c.from-a.ensures c.from-place.ensures c.if-place-eq0.false c.owner-clause.result c.owner-clause.ensures

pub look-requires-clause-left : goal.look-requires-clause-left
look-requires-clause-left c = left_at c.requires (λ e. omega (arith, c.ranges.last)) c.from-a.result c.from-place.result c.from-a.ensures c.from-place.ensures c.if-place-eq0.false c.owner-clause.result c.owner-clause.ensures (8192 - c.from-passed.result) (ap (λ k. 8192 - k) c.from-passed.ensures) c.pos_of-pos.result.now (c.pos_of-pos.ensures ∙ ap (λ at. (clause_of c.args.table.now.words.now at).pos) c.first_word.ensures.is) c.if-pos-passed.false

pub returns : goal.returns
returns c = rw c.look.ensures.0 (look_at c.requires (λ e. omega (arith, c.ranges.last)) c.from-a.result c.from-place.result c.from-a.ensures c.from-place.ensures c.if-place-eq0.false c.owner-clause.result c.owner-clause.ensures (8192 - c.from-passed.result) (ap (λ k. 8192 - k) c.from-passed.ensures) c.pos_of-pos.result.now (c.pos_of-pos.ensures ∙ ap (λ at. (clause_of c.args.table.now.words.now at).pos) c.first_word.ensures.is) c.if-pos-passed.false c.look.ensures.1)
