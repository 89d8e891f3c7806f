-- The counts, then the words of all three parts, which stand side by side.
use Prim.Native.Nat.{◌+◌, ◌-◌}
use mathlib.Core.Path.{refl, sym, ap, ◌∙◌}
use native.Mathlib.Omega.{arith}
use lib.ListN.{length}
use lib.Seq.{sets}
use Rattle.reduced_sizes.proofs.Words.{clause_room, clause_past, clause_stored}
use Rattle.table.proofs.Parts.{part_slice}
use Rattle.reduced_copying.proofs.copy_clause.Goals as goal

pub copy_part-requires : goal.copy_part-requires
copy_part-requires c =
    rw (← part_slice c.args.words.now c.args.marks.now (c.args.at + 3) (c.next_clause-end.result - (c.args.at + 3)) (omega arith) (omega arith))
    (clause_room _ _ c.args.at _ _ _ _ refl c.next_clause-end.ensures (omega (arith, c.requires.room, c.write_counts.auto.out)))

pub returns : goal.returns
returns c =
    let q = part_slice c.args.words.now c.args.marks.now (c.args.at + 3) (c.next_clause-end.result - (c.args.at + 3)) (omega arith) (omega arith) in
    record {
      place = clause_past _ _ c.args.at _ _ _ _ refl c.next_clause-end.ensures (c.copy_part.ensures.place ∙ ap (λ l. c.args.to + 3 + length l) (sym q));
      written = clause_stored _ _ c.args.out.now _ _ c.args.at _ (c.args.at + 3) c.next_clause-end.result c.write_counts.ensures (c.copy_part.ensures.written ∙ ap (sets _ (c.args.to + 3)) (sym q)) refl c.next_clause-end.ensures;
    }
