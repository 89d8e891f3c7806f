-- `text_reader::read_clauses` meets its contract. The loop's invariant: the clauses read so far, and those to come from here, are all the clauses. Assumes nothing.
use mathlib.Core.Path.{◌≡◌}
use Rattle.text_reader.proofs.Clauses.{Going}
use Rattle.text_reader.proofs.read_clauses.Given as goal

abbrev pub invariant-loop-k : goal.invariant-loop-k
invariant-loop-k l = record { same_text : l.here.text.now ≡ l.initial.here.text.now; going : Going l.initial.here.text.now l.atoms l.clauses l.initial.here.at l.k l.used l.here.at l.initial.words l.words }
