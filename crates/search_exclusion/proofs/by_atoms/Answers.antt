-- `search_exclusion::by_atoms` meets its contract.
use native.Mathlib.Omega.{arith}
use mathlib.Core.Path.{refl, sym, ◌∙◌}
use borrow.Author.Rules.{rules}
use Prim.Native.Nat.{ℕ}
use lib.ListN.{length-replicate}
use Rattle.table.proofs.Encoding.{passed_limits}
use Rattle.table.proofs.View.{length_view}
use Rattle.step_parts.specs.Reading.{atom_count, program_of}
use Rattle.step_exclusion.proofs.Sets.{narrowed_clause, consequences_by}
use Rattle.search_exclusion.proofs.Targets.{improves_as}
use Rattle.search_exclusion.proofs.Tries.{tried_start, tried_on}
use Rattle.search_exclusion.proofs.by_atoms.Goals as goal

pub fill_present-requires : goal.fill_present-requires
fill_present-requires c = omega (arith, (passed_limits _ c.args.program.now.table.placed.passed).few_atoms, length-replicate {A = ℕ} 1024 0)

pub loop-atom-init : goal.loop-atom-init
loop-atom-init c = let p = c.args.program.now in (c.atom_count-atom-end.ensures, omega arith, search rules, tt, tried_start _ (program_of p) _ c.requires.targets _ _ (sym (length_view p.table.words.now p.marks.now)) refl c.fill_present.ensures.is, c.requires.room, c.requires.settled, refl)

pub loop-atom-preserved : goal.loop-atom-preserved
loop-atom-preserved c =
    let p = c.args.program.now in
    let f = c.try_atom-best.ensures in
    let w = rw c.requires.table at f.trial in
    let e = c.requires.narrowed in (
      c.atom_count-atom-end.ensures,
      omega arith,
      c.try_atom-best.auto.todo ∙ c.loop-atom.invariant.2,
      rw c.requires.table at f.known,
      tried_on (atom_count p.table) (program_of p) _ c.requires.targets _ _ _ c.loop-atom.invariant.4 _ (consequences_by _ _ _ _ _ e w.reached).is (omega (arith, c.loop-atom.invariant.0)) (sym c.is_in.ensures ∙ c.if-not-is_in.false) _ (improves_as (narrowed_clause _ _ _ e) w.better) _ w.less w.struck,
      f.room,
      f.settled,
      f.taken ∙ c.loop-atom.invariant.7,
    )
