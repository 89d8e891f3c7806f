-- `text_writer::Output::put_clauses` meets its contract. The loop's invariant: the text of the clauses left, written from here on, gives that of all. Assumes nothing.
use Prim.Native.Nat.{◌-◌}
use mathlib.Core.Path.{◌≡◌}
use lib.ListN.{get_or}
use Rattle.table.specs.Programs.{clauses_of}
use Rattle.table.proofs.Walks.{Along}
use Rattle.text_form.specs.Render.{clauses_text}
use Rattle.text_writer.proofs.Laws.{Left}
use Rattle.text_writer.proofs.Output.put_clauses.Given as goal

abbrev pub invariant-loop-k : goal.invariant-loop-k
invariant-loop-k l = record {
  same_reference : l.self.bytes.ghost_name ≡ l.initial.self.bytes.ghost_name;
  along : Along l.words l.k l.place;
  left : Left l.self.bytes.now l.initial.self.bytes.now l.self.len l.initial.self.len (clauses_text (clauses_of l.words (get_or l.words 1 0 - l.k) l.place)) (clauses_text (clauses_of l.words (get_or l.words 1 0) 2));
}
